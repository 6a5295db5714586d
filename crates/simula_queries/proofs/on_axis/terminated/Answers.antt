use Rattle.simset_laws.specs.Promise.{told_not, told, failed, passed}
use Rattle.simulation_laws.specs.Calls.{terminated_told}
use Rattle.std.proofs.Common.{ap, not}
use Rattle.simula_queries.proofs.on_axis.terminated.Goals as goal

pub returns-then-not-is_process : goal.returns-then-not-is_process
unfolding terminated_told
returns-then-not-is_process c = told_not _ _ (failed _ _ c.is_process.ensures (ap not c.if-not-is_process.true))

pub returns : goal.returns
unfolding terminated_told
returns c = told _ _ _ (passed _ _ c.is_process.ensures (ap not c.if-not-is_process.false)) (cc)
