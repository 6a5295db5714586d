use Rattle.accum_laws.specs.Flat.{with_words}
use borrow.Author.Rules.{rules}
use Rattle.accum_update.proofs.flat.put.Goals as goal

pub returns : goal.returns
unfolding with_words
returns c = search rules
