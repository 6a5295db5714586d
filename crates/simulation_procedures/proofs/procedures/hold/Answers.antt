use Rattle.simulation_procedures.proofs.Chained.{hold_5}
use native.Mathlib.Omega.{arith}
use Rattle.simulation_procedures.proofs.procedures.hold.Goals as goal

pub returns-then-time-gt-TIME_LIMIT-clause-answers : goal.returns-then-time-gt-TIME_LIMIT-clause-answers
returns-then-time-gt-TIME_LIMIT-clause-answers c = hold_5 _ _ _ _ _ _ (rw (c.reading.ensures.1, c.reading.ensures.0) at c.first-x.ensures) c.due-time.ensures c.args.axis.now.sound (omega (arith, c.if-time-gt-TIME_LIMIT.true))
