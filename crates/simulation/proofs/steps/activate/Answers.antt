use Rattle.std.proofs.Common.{sym, ◌∙◌, ℕ, List}
use borrow.Author.Rules.{rules}
use Rattle.ring.specs.Rings.{told_by}
use Rattle.model_laws.specs.Now.{half}
use Rattle.model.specs.Counts.{place_of}
use Rattle.simulation_laws.specs.Sign.{above_passed}
use Rattle.simulation_laws.specs.Plain.{above}
use Rattle.simulation_laws.specs.Procedures.{activated}
use Rattle.simulation_laws.specs.Promise.{sqs, Answers}
use Rattle.simulation_laws.specs.Calls.{timed_step, y_place}
use Rattle.simulation_laws.specs.StepPromise.{refused_3, passed_3}
use Rattle.simulation.proofs.steps.activate.Goals as goal

pub returns-then-not-parties_fine : goal.returns-then-not-parties_fine
unfolding timed_step
returns-then-not-parties_fine c = refused_3 _ _ _ _ _ c.requires.sound (sym c.parties_fine.ensures ∙ c.if-not-parties_fine.true)

pub returns : goal.returns
unfolding timed_step
returns c = passed_3 _ _ _ _ _ _ _ (sym c.parties_fine.ensures ∙ c.if-not-parties_fine.false)
    (told_by (half c.args.c) c.args.axis.now _ c.axis_of.result c.activate.new.axis c.axis_of.ensures.value (search rules)
    (λ (m : ℕ) (a v : List ℕ). Answers m (activated m c.args.again c.args.clause (place_of c.args.c c.args.x) (y_place c.args.c c.args.clause c.args.y) (above c.args.t) c.args.marks.now (sqs a c.args.times.now)) v c.activate.new.times c.activate.result)
    (rw (c.place_of-q.ensures, c.y_place-s.ensures, above_passed c.args.t c.ranges.t _ c.above_zero.ensures) at c.activate.ensures.answers))
