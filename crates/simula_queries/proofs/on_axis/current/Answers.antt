use Rattle.simulation_laws.specs.ReadPromise.{current_told_lem}
use Rattle.simulation_laws.specs.StepPromise.{first_low}
use native.Mathlib.Omega.{arith}
use Rattle.simula_queries.proofs.on_axis.current.Goals as goal

pub current_link-requires : goal.current_link-requires
current_link-requires c = (c.requires.allowed.heads_in, omega (arith, c.requires.allowed.processes_in, first_low c.args.c _ c.requires _ (rw (c.notices.ensures.1, c.notices.ensures.0) at c.first-f.ensures)))

pub returns : goal.returns
returns c = current_told_lem c.args.c _ _ _ _ (rw (c.notices.ensures.1, c.notices.ensures.0) at c.first-f.ensures) c.current_link.ensures
