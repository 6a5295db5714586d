use Rattle.words.specs.Words.{u64_at}
use Rattle.words.proofs.u64_at.Goals as goal

pub returns : goal.returns
unfolding u64_at
returns c = cc
