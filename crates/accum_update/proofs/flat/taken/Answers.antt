use Rattle.accum_laws.specs.Flat.{words_at}
use borrow.Author.Rules.{rules}
use Rattle.accum_update.proofs.flat.taken.Goals as goal

pub returns : goal.returns
unfolding words_at
returns c = search rules
