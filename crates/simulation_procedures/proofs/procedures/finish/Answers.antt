use Rattle.simulation_procedures.proofs.Chained.{finish_4, finish_0}
use Rattle.simulation_procedures.proofs.procedures.finish.Goals as goal

pub returns-then-lone-clause-answers : goal.returns-then-lone-clause-answers
returns-then-lone-clause-answers c = finish_4 _ _ _ _ (rw (c.reading-now.ensures.1, c.reading-now.ensures.0) at c.lone.ensures) _ c.args.axis.now.sound c.if-lone.true

pub returns-clause-answers : goal.returns-clause-answers
returns-clause-answers c = finish_0 _ _ _ _ (rw (c.reading-now.ensures.1, c.reading-now.ensures.0) at c.lone.ensures) _ _ _ _ _ c.if-lone.false (rw (c.reading-now.ensures.1, c.reading-now.ensures.0) at c.first-x.ensures) c.mark.ensures c.drop_first.ensures.left
