use Rattle.std.proofs.Common.{sym, ◌∙◌, ℕ, List}
use borrow.Author.Rules.{rules}
use Rattle.ring.specs.Rings.{told_by}
use Rattle.model_laws.specs.Now.{half}
use Rattle.model.specs.Counts.{place_of}
use Rattle.simulation_laws.specs.Procedures.{cancelled}
use Rattle.simulation_laws.specs.Promise.{sqs, Answers}
use Rattle.simulation_laws.specs.Calls.{cancel_step}
use Rattle.simulation_laws.specs.StepPromise.{refused_3, passed_3}
use Rattle.simulation.proofs.steps.cancel.Goals as goal

pub returns-then-not-process_or_none : goal.returns-then-not-process_or_none
unfolding cancel_step
returns-then-not-process_or_none c = refused_3 _ _ _ _ _ c.requires.sound (sym c.process_or_none.ensures ∙ c.if-not-process_or_none.true)

pub returns : goal.returns
unfolding cancel_step
returns c = passed_3 _ _ _ _ _ _ _ (sym c.process_or_none.ensures ∙ c.if-not-process_or_none.false)
    (told_by (half c.args.c) c.args.axis.now _ c.axis_of.result c.cancel.new.axis c.axis_of.ensures.value (search rules)
    (λ (m : ℕ) (a v : List ℕ). Answers m (cancelled m (place_of c.args.c c.args.x) (sqs a c.args.times.now)) v c.cancel.new.times c.cancel.result)
    (rw c.place_of.ensures at c.cancel.ensures.answers))
