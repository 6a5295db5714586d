use Rattle.simset_laws.specs.Promise.{failed, passed, told_not, told}
use Rattle.simset_laws.specs.Calls.{first_told}
use Rattle.std.proofs.Common.{ap, not}
use Rattle.simula_queries.proofs.on_links.first.Goals as goal

pub returns-then-not-is_head : goal.returns-then-not-is_head
unfolding first_told
returns-then-not-is_head c = told_not _ _ (failed _ _ c.is_head.ensures (ap not c.if-not-is_head.true))

pub returns : goal.returns
unfolding first_told
returns c = told _ _ _ (passed _ _ c.is_head.ensures (ap not c.if-not-is_head.false)) (cc)
