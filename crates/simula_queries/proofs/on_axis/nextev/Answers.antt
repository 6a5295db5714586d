use Rattle.std.specs.Prelude.{refl}
use mathlib.Core.Path.{ap}
use Rattle.simulation_laws.specs.ReadPromise.{is_in, nextev_idle, nextev_last, nextev_next}
use Rattle.simset_laws.specs.Promise.{told_not, failed, passed}
use Rattle.simulation_laws.specs.Calls.{nextev_told}
use native.Mathlib.Omega.{arith}
use Rattle.std.proofs.Common.{not}
use Rattle.simula_queries.proofs.on_axis.nextev.Goals as goal

pub returns-then-not-is_process : goal.returns-then-not-is_process
unfolding nextev_told
returns-then-not-is_process c = told_not _ _ (failed _ _ c.is_process.ensures (ap not c.if-not-is_process.true))

pub idle-requires : goal.idle-requires
idle-requires c = omega (arith, c.place_of-q.ensures, c.notices-now.ensures.1, is_in c.args.c c.args.x (passed _ _ c.is_process.ensures (ap not c.if-not-is_process.false)))

pub returns-then-idle : goal.returns-then-idle
returns-then-idle c = nextev_idle c.args.c _ _ c.args.x (passed _ _ c.is_process.ensures (ap not c.if-not-is_process.false)) _ c.place_of-q.ensures _ (rw c.notices-now.ensures.0 at c.idle.ensures) c.if-idle.true

pub next-s-requires : goal.next-s-requires
next-s-requires c = omega (arith, c.place_of-q.ensures, c.notices-now.ensures.1, is_in c.args.c c.args.x (passed _ _ c.is_process.ensures (ap not c.if-not-is_process.false)))

pub returns-then-s-now : goal.returns-then-s-now
returns-then-s-now c = nextev_last c.args.c _ _ c.args.x (passed _ _ c.is_process.ensures (ap not c.if-not-is_process.false)) _ c.place_of-q.ensures _ (rw c.notices-now.ensures.0 at c.idle.ensures) c.if-idle.false _ _ _ c.notices-now.ensures.1 (rw c.notices-now.ensures.0 at c.next-s.ensures) refl c.if-s-now.true

pub current_link-requires : goal.current_link-requires
current_link-requires c = (c.requires.allowed.heads_in, omega (arith, c.requires.allowed.processes_in, c.next-s.ensures.within, c.notices-now.ensures.1, c.if-s-now.false))

pub returns : goal.returns
returns c = nextev_next c.args.c _ _ c.args.x (passed _ _ c.is_process.ensures (ap not c.if-not-is_process.false)) _ c.place_of-q.ensures _ (rw c.notices-now.ensures.0 at c.idle.ensures) c.if-idle.false _ _ _ c.notices-now.ensures.1 (rw c.notices-now.ensures.0 at c.next-s.ensures) refl _ c.if-s-now.false c.current_link.ensures
