use mathlib.Core.Path.{refl}
use Rattle.simulation_procedures.proofs.Chained.{vain_0}
use Rattle.simulation.proofs.ByFirst.{late_5, late_0}
use Rattle.simulation.proofs.soon.delayed.Goals as goal

pub returns-then-is_vain-clause-answers : goal.returns-then-is_vain-clause-answers
returns-then-is_vain-clause-answers c = vain_0 _ _ _ _ _ _ _ _ _ _ (rw c.reading.ensures.0 at c.is_vain.ensures) c.args.axis.now.sound c.if-is_vain.true

pub returns-then-d-time-clause-answers : goal.returns-then-d-time-clause-answers
returns-then-d-time-clause-answers c = late_5 _ _ _ _ _ _ _ _ _ (rw c.reading.ensures.0 at c.is_vain.ensures) c.if-is_vain.false c.requires.noticed c.args.axis.now.sound c.if-d-time.true

pub returns-clause-answers : goal.returns-clause-answers
returns-clause-answers c = late_0 _ _ _ _ _ _ _ _ _ (rw c.reading.ensures.0 at c.is_vain.ensures) c.if-is_vain.false c.requires.noticed c.if-d-time.false _ refl _ _ c.schedule.ensures.left
