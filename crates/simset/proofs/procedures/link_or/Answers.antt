use borrow.Author.Tests.{le-leb, lt-leb}
use Rattle.simset_laws.specs.Procedures.{link_or}
use Rattle.simset.proofs.procedures.link_or.Goals as goal

pub returns-then-v-heads : goal.returns-then-v-heads
unfolding link_or
returns-then-v-heads c = rw (le-leb _ _ c.if-v-heads.true)

pub returns-else-v-heads : goal.returns-else-v-heads
unfolding link_or
returns-else-v-heads c = rw (lt-leb _ _ c.if-v-heads.false)
