use Rattle.std.specs.Prelude.{◌+◌, ◌-◌}
use Rattle.model.specs.Counts.{is_process, total}
use Rattle.simset_laws.specs.Walk.{Walking}
use Rattle.run_arms.proofs.members.walk.Given as goal

abbrev pub invariant-loop : goal.invariant-loop
invariant-loop l = Walking (is_process l.c) l.c.heads (total l.c + 1) l.links l.v (total l.c + 1 - l.counter) l.i
