use Rattle.simulation_procedures.proofs.Chained.{vain_0}
use Rattle.simulation.proofs.ByFirst.{active_now}
use Rattle.simulation.proofs.soon.direct.Goals as goal

pub returns-then-is_vain-clause-answers : goal.returns-then-is_vain-clause-answers
returns-then-is_vain-clause-answers c = vain_0 _ _ _ _ _ _ _ _ _ _ (rw c.reading.ensures.0 at c.is_vain.ensures) c.args.axis.now.sound c.if-is_vain.true

pub returns-clause-answers : goal.returns-clause-answers
returns-clause-answers c = active_now _ _ _ _ _ _ _ _ (rw c.reading.ensures.0 at c.is_vain.ensures) c.if-is_vain.false c.requires.noticed _ _ c.schedule.ensures.left
