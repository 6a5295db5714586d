use Rattle.simulation_laws.specs.ReadPromise.{wait_told_lem}
use Rattle.simulation_laws.specs.StepPromise.{first_low}
use native.Mathlib.Omega.{arith}
use Rattle.simula.proofs.told.wait_told.Goals as goal

pub current_link-x-requires : goal.current_link-x-requires
current_link-x-requires c = (c.requires.judged.allowed.heads_in, omega (arith, c.requires.judged.allowed.processes_in, first_low c.args.c _ c.requires.judged _ c.first.ensures))

pub head_at-requires : goal.head_at-requires
head_at-requires c = omega (arith, c.total.ensures, c.current_link-x.ensures, first_low c.args.c _ c.requires.judged _ c.first.ensures)

pub returns : goal.returns
returns c = wait_told_lem c.args.c _ _ _ _ _ _ c.first.ensures c.current_link-x.ensures c.total.ensures c.head_at.ensures
