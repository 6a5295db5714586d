use Rattle.simulation_procedures.proofs.Chained.{passive_4, passive_0}
use Rattle.simulation_procedures.proofs.procedures.passivate.Goals as goal

pub returns-then-lone-clause-answers : goal.returns-then-lone-clause-answers
returns-then-lone-clause-answers c = passive_4 _ _ _ _ (rw (c.reading-now.ensures.1, c.reading-now.ensures.0) at c.lone.ensures) c.args.axis.now.sound c.if-lone.true

pub returns-clause-answers : goal.returns-clause-answers
returns-clause-answers c = passive_0 _ _ _ _ (rw (c.reading-now.ensures.1, c.reading-now.ensures.0) at c.lone.ensures) _ _ _ c.if-lone.false (rw (c.reading-now.ensures.1, c.reading-now.ensures.0) at c.first-x.ensures) c.drop_first.ensures.left
