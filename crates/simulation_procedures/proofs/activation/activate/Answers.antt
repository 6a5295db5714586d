use Rattle.simulation_procedures.proofs.Chained.{vain_0, active_5, active_idle, active_0}
use Rattle.simulation_procedures.proofs.activation.activate.Goals as goal

pub returns-then-is_vain-clause-answers : goal.returns-then-is_vain-clause-answers
returns-then-is_vain-clause-answers c = vain_0 _ _ _ _ _ _ _ _ _ _ (rw c.reading-now.ensures.0 at c.is_vain.ensures) c.args.axis.now.sound c.if-is_vain.true

pub returns-then-u-gt-TIME_LIMIT-clause-answers : goal.returns-then-u-gt-TIME_LIMIT-clause-answers
returns-then-u-gt-TIME_LIMIT-clause-answers c = active_5 _ _ _ _ _ _ _ _ _ _ (rw c.reading-now.ensures.0 at c.is_vain.ensures) c.if-is_vain.false _ _ _ (rw (c.reading-now.ensures.1, c.reading-now.ensures.0) at c.first.ensures) c.due-time.ensures c.due_at-u.ensures c.args.axis.now.sound c.if-u-gt-TIME_LIMIT.true

pub returns-then-beside_idle-clause-answers : goal.returns-then-beside_idle-clause-answers
returns-then-beside_idle-clause-answers c = active_idle _ _ _ _ _ _ _ _ _ _ (rw c.reading-now.ensures.0 at c.is_vain.ensures) c.if-is_vain.false _ _ _ (rw (c.reading-now.ensures.1, c.reading-now.ensures.0) at c.first.ensures) c.due-time.ensures c.due_at-u.ensures c.if-u-gt-TIME_LIMIT.false _ (rw c.reading-now.ensures.0 at c.beside_idle.ensures) _ _ _ c.if-beside_idle.true c.cancel.ensures.answers

pub returns-clause-answers : goal.returns-clause-answers
returns-clause-answers c = active_0 _ _ _ _ _ _ _ _ _ _ (rw c.reading-now.ensures.0 at c.is_vain.ensures) c.if-is_vain.false _ _ _ (rw (c.reading-now.ensures.1, c.reading-now.ensures.0) at c.first.ensures) c.due-time.ensures c.due_at-u.ensures c.if-u-gt-TIME_LIMIT.false _ (rw c.reading-now.ensures.0 at c.beside_idle.ensures) _ _ c.if-beside_idle.false c.schedule_apart.ensures.left
