use Rattle.std.specs.Prelude.{◌-◌}
use Rattle.model_judge.proofs.AxisCode.{Places}
use Rattle.model_judge.proofs.places_fine.Given as goal

abbrev pub invariant-loop-i : goal.invariant-loop-i
invariant-loop-i l = Places l.p l.axis l.times l.marks (l.i - 1)
