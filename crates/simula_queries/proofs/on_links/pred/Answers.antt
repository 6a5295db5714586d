use Rattle.simset_laws.specs.Promise.{failed, passed, told_not, told}
use Rattle.simset_laws.specs.Calls.{pred_told}
use Rattle.std.proofs.Common.{ap, not}
use Rattle.simula_queries.proofs.on_links.pred.Goals as goal

pub returns-then-not-is_linkage : goal.returns-then-not-is_linkage
unfolding pred_told
returns-then-not-is_linkage c = told_not _ _ (failed _ _ c.is_linkage.ensures (ap not c.if-not-is_linkage.true))

pub returns : goal.returns
unfolding pred_told
returns c = told _ _ _ (passed _ _ c.is_linkage.ensures (ap not c.if-not-is_linkage.false)) (cc)
