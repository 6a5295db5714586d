use Rattle.simulation_laws.specs.Calls.{finish_step}
use Rattle.model.specs.declared.Refusal.TheVariants.{Operand}
use Rattle.std.proofs.Common.{Err, refl, ℕ, List}
use borrow.Author.Rules.{rules}
use Rattle.ring.specs.Rings.{told_by, stays_by}
use Rattle.model_laws.specs.Now.{half}
use Rattle.simulation_laws.specs.Procedures.{passivated, finished_marks}
use Rattle.simulation_laws.specs.Promise.{sqs, AnswersMarked}
use Rattle.simulation_laws.specs.StepPromise.{FinishMade, finish_main, finish_other}
use Rattle.simulation.proofs.steps.finish.Goals as goal

pub returns-then-f-eq1 : goal.returns-then-f-eq1
returns-then-f-eq1 c =
    stays_by (half c.args.c) c.args.axis.now _ c.axis_of-notices.result c.axis_of-notices.result c.axis_of-notices.ensures.value (search rules) refl
    (λ (v : List ℕ). FinishMade c.args.c (finish_step c.args.c c.args.marks.now (sqs c.args.axis.now c.args.times.now)) v c.args.times.now c.args.marks.now (Err Operand))
    (finish_main _ _ _ _ _ (rw (c.reading.ensures.1, c.reading.ensures.0, c.axis_of-notices.ensures.value.1, c.axis_of-notices.ensures.value.0) at c.first-f.ensures) c.requires.judged.sound c.if-f-eq1.true)

pub returns : goal.returns
returns c = finish_other _ _ _ _ _ (rw (c.reading.ensures.1, c.reading.ensures.0, c.axis_of-notices.ensures.value.1, c.axis_of-notices.ensures.value.0) at c.first-f.ensures) _ _ _ _ c.if-f-eq1.false
    (told_by (half c.args.c) c.args.axis.now _ c.axis_of-notices.result c.finish.new.axis c.axis_of-notices.ensures.value (search rules)
    (λ (m : ℕ) (a v : List ℕ). AnswersMarked m (passivated m (sqs a c.args.times.now)) (finished_marks m c.args.marks.now (sqs a c.args.times.now)) v c.finish.new.times c.finish.new.marks c.finish.result)
    c.finish.ensures.answers)
