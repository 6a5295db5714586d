use Rattle.simset_laws.specs.Promise.{failed, passed, told_not, told}
use Rattle.simset_laws.specs.Told.{head_told}
use Rattle.std.proofs.Common.{ap, not}
use Rattle.simula_queries.proofs.on_links.head.Goals as goal

pub returns-then-not-is_link : goal.returns-then-not-is_link
unfolding head_told
returns-then-not-is_link c = told_not _ _ (failed _ _ c.is_link.ensures (ap not c.if-not-is_link.true))

pub returns : goal.returns
unfolding head_told
returns c = told _ _ _ (passed _ _ c.is_link.ensures (ap not c.if-not-is_link.false)) (cc)
