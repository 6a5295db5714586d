use Rattle.simulation_procedures.proofs.Chained.{cancel_idle, cancel_4, cancel_0}
use Rattle.simulation_procedures.proofs.procedures.cancel.Goals as goal

pub returns-then-idle-clause-answers : goal.returns-then-idle-clause-answers
returns-then-idle-clause-answers c = cancel_idle _ _ _ _ _ (rw c.reading-now.ensures.0 at c.idle.ensures) c.args.axis.now.sound c.if-idle.true

pub returns-then-lone-clause-answers : goal.returns-then-lone-clause-answers
returns-then-lone-clause-answers c = cancel_4 _ _ _ _ _ (rw c.reading-now.ensures.0 at c.idle.ensures) _ c.args.axis.now.sound c.if-idle.false (rw (c.reading-now.ensures.1, c.reading-now.ensures.0) at c.lone.ensures) c.if-lone.true

pub returns-clause-answers : goal.returns-clause-answers
returns-clause-answers c = cancel_0 _ _ _ _ _ (rw c.reading-now.ensures.0 at c.idle.ensures) _ _ _ c.if-idle.false (rw (c.reading-now.ensures.1, c.reading-now.ensures.0) at c.lone.ensures) c.if-lone.false c.drop.ensures.left
