use Rattle.simulation_procedures.proofs.Chained.{hold_5, hold_0}
use native.Mathlib.Omega.{arith}
use Rattle.simulation_procedures.proofs.procedures.hold_first.Goals as goal

pub returns-then-d-time-clause-answers : goal.returns-then-d-time-clause-answers
returns-then-d-time-clause-answers c = hold_5 _ _ _ _ _ _ c.requires.noticed.place c.requires.noticed.read c.args.axis.now.sound (omega (arith, c.requires.noticed.within, c.if-d-time.true))

pub returns-clause-answers : goal.returns-clause-answers
returns-clause-answers c = hold_0 _ _ _ _ _ _ c.requires.noticed.place c.requires.noticed.read _ _ (omega (arith, c.requires.noticed.within, c.if-d-time.false)) c.hold_at.ensures.left
