use Rattle.simulation_laws.specs.Calls.{wait_step}
use Rattle.simulation_laws.specs.StepPromise.{WaitMade}
use Rattle.model.specs.declared.Refusal.TheVariants.{NoNotice}
use Rattle.std.proofs.Common.{Err, ℕ, List, ◌+◌, refl}
use borrow.Author.Rules.{rules}
use Rattle.ring.specs.Rings.{told_by, stays_by, made_by}
use Rattle.model_laws.specs.Now.{half}
use Rattle.model.specs.Counts.{total}
use Rattle.simset_laws.specs.Procedures.{preceded}
use Rattle.simulation_laws.specs.Procedures.{drop_on}
use Rattle.simulation_laws.specs.Promise.{sqs, Left}
use Rattle.simset_laws.specs.Promise.{party_fine}
use Rattle.simulation_laws.specs.WaitPromise.{made_4, made_0}
use Rattle.simulation.proofs.steps.wait_known.Goals as goal

pub returns-then-lone : goal.returns-then-lone
returns-then-lone c =
    stays_by (half c.args.c) c.args.axis.now _ c.axis_of-notices.result c.axis_of-notices.result c.axis_of-notices.ensures.value (search rules) refl
    (λ (v : List ℕ). WaitMade c.args.c (wait_step c.args.c c.args.y c.args.links.now (sqs c.args.axis.now c.args.times.now)) c.args.links.now v c.args.times.now (Err NoNotice))
    (made_4 c.args.c c.args.y _ _ _ c.requires.sound (party_fine c.args.c.heads c.args.y c.requires.roomy.head) c.requires.takeable.judged _ c.requires.roomy.room refl _ (rw (c.reading-now.ensures.1, c.reading-now.ensures.0, c.axis_of-notices.ensures.value.1, c.axis_of-notices.ensures.value.0) at c.lone.ensures) c.if-lone.true)

pub returns : goal.returns
returns c = made_0 c.args.c c.args.y _ _ _ c.requires.sound (party_fine c.args.c.heads c.args.y c.requires.roomy.head) c.requires.takeable.judged _ c.requires.roomy.room refl _ (rw (c.reading-now.ensures.1, c.reading-now.ensures.0, c.axis_of-notices.ensures.value.1, c.axis_of-notices.ensures.value.0) at c.lone.ensures) _ _ _ _ _ c.if-lone.false (rw (c.reading-now.ensures.1, c.reading-now.ensures.0, c.axis_of-notices.ensures.value.1, c.axis_of-notices.ensures.value.0) at c.first-at.ensures) c.current_link.ensures
    (made_by (total c.args.c + 1) c.args.links.now _ c.sets.result c.precede.new.links c.sets.ensures.value (search rules) (λ (m : ℕ) (l : List ℕ). preceded m c.current_link.result c.args.y l) c.precede.ensures)
    (told_by (half c.args.c) c.args.axis.now _ c.axis_of-notices.result c.drop_first.new.axis c.axis_of-notices.ensures.value (search rules)
    (λ (m : ℕ) (a v : List ℕ). Left m (drop_on m c.first-at.result (sqs a c.args.times.now)) v c.drop_first.new.times)
    c.drop_first.ensures.left)
