use native.Mathlib.Omega.{arith}
use Rattle.simulation_axis.proofs.first.Goals as goal

pub overflow_sub-result : goal.overflow_sub-result
overflow_sub-result c = omega (arith, c.args.axis.sound.inside 0)

pub bounds-axis-axis : goal.bounds-axis-axis
bounds-axis-axis c = omega (arith, c.args.axis.sound.inside 0, c.args.axis.sound.two)
