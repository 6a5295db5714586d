use Rattle.simulation_laws.specs.Calls.{wait_step}
use Rattle.simulation_laws.specs.WaitPromise.{WaitEntered}
use Rattle.model.specs.declared.Refusal.TheVariants.{NoNotice, Full}
use Rattle.std.proofs.Common.{Err, sym, ◌∙◌, ℕ, List, ◌+◌, refl}
use borrow.Author.Rules.{rules}
use Rattle.ring.specs.Rings.{told_by, stays_by, made_by}
use Rattle.model_laws.specs.Now.{half}
use Rattle.model.specs.Counts.{total}
use Rattle.simset_laws.specs.Procedures.{preceded}
use Rattle.simulation_laws.specs.Procedures.{drop_on}
use Rattle.simulation_laws.specs.Promise.{sqs, Left}
use Rattle.simulation_laws.proofs.WaitPromise.{wait_3, wait_10, wait_4, wait_0}
use Rattle.simulation.proofs.steps.wait.Goals as goal

pub returns-then-not-head_or_none : goal.returns-then-not-head_or_none
returns-then-not-head_or_none c = wait_3 c.args.c c.args.y _ _ _ _ c.requires.sound c.requires.takeable.judged.sound c.requires.covers (sym c.head_or_none.ensures ∙ c.if-not-head_or_none.true)

pub returns-then-no_room : goal.returns-then-no_room
returns-then-no_room c =
    stays_by (half c.args.c) c.args.axis.now _ c.axis_of-notices.result c.axis_of-notices.result c.axis_of-notices.ensures.value (search rules) refl
    (λ (v : List ℕ). WaitEntered c.args.c c.args.links.now (wait_step c.args.c c.args.y c.args.links.now (sqs c.args.axis.now c.args.times.now)) c.args.links.now v c.args.times.now c.no_room.new.bounds (Err Full))
    (wait_10 c.args.c c.args.y _ _ _ _ c.requires.sound (sym c.head_or_none.ensures ∙ c.if-not-head_or_none.false) c.requires.takeable.judged _ _ (rw (c.reading-now.ensures.1, c.reading-now.ensures.0, c.axis_of-notices.ensures.value.1, c.axis_of-notices.ensures.value.0) at c.first-f.ensures) c.current_link-x.ensures _ c.no_room.ensures c.if-no_room.true)

pub returns-then-lone : goal.returns-then-lone
returns-then-lone c =
    stays_by (half c.args.c) c.args.axis.now _ c.axis_of-notices.result c.axis_of-notices.result c.axis_of-notices.ensures.value (search rules) refl
    (λ (v : List ℕ). WaitEntered c.args.c c.args.links.now (wait_step c.args.c c.args.y c.args.links.now (sqs c.args.axis.now c.args.times.now)) c.args.links.now v c.args.times.now c.no_room.new.bounds (Err NoNotice))
    (wait_4 c.args.c c.args.y _ _ _ _ c.requires.sound (sym c.head_or_none.ensures ∙ c.if-not-head_or_none.false) c.requires.takeable.judged _ _ (rw (c.reading-now.ensures.1, c.reading-now.ensures.0, c.axis_of-notices.ensures.value.1, c.axis_of-notices.ensures.value.0) at c.first-f.ensures) c.current_link-x.ensures _ c.no_room.ensures c.if-no_room.false _ (rw (c.reading-now.ensures.1, c.reading-now.ensures.0, c.axis_of-notices.ensures.value.1, c.axis_of-notices.ensures.value.0) at c.lone.ensures) c.if-lone.true)

pub returns : goal.returns
returns c = wait_0 c.args.c c.args.y _ _ _ _ c.requires.sound (sym c.head_or_none.ensures ∙ c.if-not-head_or_none.false) c.requires.takeable.judged _ _ (rw (c.reading-now.ensures.1, c.reading-now.ensures.0, c.axis_of-notices.ensures.value.1, c.axis_of-notices.ensures.value.0) at c.first-f.ensures) c.current_link-x.ensures _ c.no_room.ensures c.if-no_room.false _ (rw (c.reading-now.ensures.1, c.reading-now.ensures.0, c.axis_of-notices.ensures.value.1, c.axis_of-notices.ensures.value.0) at c.lone.ensures) _ _ _ c.if-lone.false
    (made_by (total c.args.c + 1) c.args.links.now _ c.sets.result c.precede.new.links c.sets.ensures.value (search rules) (λ (m : ℕ) (l : List ℕ). preceded m c.current_link-x.result c.args.y l) c.precede.ensures)
    (told_by (half c.args.c) c.args.axis.now _ c.axis_of-notices.result c.drop_first.new.axis c.axis_of-notices.ensures.value (search rules)
    (λ (m : ℕ) (a v : List ℕ). Left m (drop_on m c.first-f.result (sqs a c.args.times.now)) v c.drop_first.new.times)
    c.drop_first.ensures.left)
