use Rattle.simulation_laws.specs.ReadPromise.{idle_told_lem}
use Rattle.simset_laws.specs.Promise.{told_not, failed, passed}
use Rattle.simulation_laws.specs.Calls.{idle_told}
use Rattle.std.proofs.Common.{ap, not}
use Rattle.simula_queries.proofs.on_axis.idle.Goals as goal

pub returns-then-not-is_process : goal.returns-then-not-is_process
unfolding idle_told
returns-then-not-is_process c = told_not _ _ (failed _ _ c.is_process.ensures (ap not c.if-not-is_process.true))

pub returns : goal.returns
returns c = idle_told_lem c.args.c _ _ c.args.x (passed _ _ c.is_process.ensures (ap not c.if-not-is_process.false)) _ c.place_of.ensures _ (rw c.notices.ensures.0 at c.idle.ensures)
