use Rattle.std.specs.Prelude.{refl}
use Rattle.simulation_laws.specs.ReadPromise.{is_in, evtime_idle, evtime_some}
use Rattle.simset_laws.specs.Promise.{told_not, failed, passed}
use Rattle.simulation_laws.specs.Calls.{evtime_told}
use native.Mathlib.Omega.{arith}
use Rattle.std.proofs.Common.{ap, not}
use Rattle.simula_queries.proofs.on_axis.evtime.Goals as goal

pub returns-then-not-is_process : goal.returns-then-not-is_process
unfolding evtime_told
returns-then-not-is_process c = told_not _ _ (failed _ _ c.is_process.ensures (ap not c.if-not-is_process.true))

pub idle-requires : goal.idle-requires
idle-requires c = omega (arith, c.place_of-q.ensures, c.notices.ensures.1, is_in c.args.c c.args.x (passed _ _ c.is_process.ensures (ap not c.if-not-is_process.false)))

pub returns-then-idle : goal.returns-then-idle
returns-then-idle c = evtime_idle c.args.c _ _ c.args.x (passed _ _ c.is_process.ensures (ap not c.if-not-is_process.false)) _ c.place_of-q.ensures _ (rw c.notices.ensures.0 at c.idle.ensures) c.if-idle.true

pub returns : goal.returns
returns c = evtime_some c.args.c _ _ c.args.x (passed _ _ c.is_process.ensures (ap not c.if-not-is_process.false)) _ c.place_of-q.ensures _ (rw c.notices.ensures.0 at c.idle.ensures) _ _ c.if-idle.false refl c.due.ensures
