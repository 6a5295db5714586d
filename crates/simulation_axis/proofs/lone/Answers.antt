use native.Mathlib.Omega.{arith}
use Rattle.simulation_axis.proofs.lone.Goals as goal

pub overflow_sub-head : goal.overflow_sub-head
overflow_sub-head c = omega (arith, c.args.axis.sound.inside 0)

pub bounds-axis-head : goal.bounds-axis-head
bounds-axis-head c = omega (arith, c.args.axis.sound.inside 0, c.args.axis.sound.two)
