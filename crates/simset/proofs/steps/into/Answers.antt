use Rattle.std.proofs.Common.{sym, ◌&&◌, ◌∙◌, ◌≡◌, ℕ, List, ◌+◌}
use Rattle.ring.specs.Rings.{made_by}
use Rattle.model.specs.Counts.{total, is_link, is_head, both as both_true}
use borrow.Author.Rules.{rules}
use Rattle.simset_laws.specs.Procedures.{preceded}
use Rattle.simset_laws.specs.Promise.{head_in, none_or}
use Rattle.simset_laws.proofs.BoundLaws.{covers_preceded}
use Rattle.simset_laws.proofs.Entering.{entering_not, entering_full, entering}
use Rattle.simset_laws.specs.Calls.{into_step, or_none}
use Rattle.simset.proofs.Moving.{and_true, and_false}
use Rattle.simset.proofs.steps.into.Goals.{then-is_link, else-is_link}
use Rattle.simset.proofs.steps.into.Goals as goal

pub returns-then-not-head_or_none : goal.returns-then-not-head_or_none
unfolding into_step
returns-then-not-head_or_none c =
    let both : c.if-is_link.value ≡ is_link c.args.c c.args.x && or_none (is_head c.args.c c.args.y) c.args.y = elim c.if-is_link.branch [
      | then-is_link w ↦ and_true _ _ _ (sym c.is_link.ensures ∙ w.if-is_link.true) (w.value-is ∙ w.head_or_none.ensures)
      | else-is_link w ↦ and_false _ _ _ (sym c.is_link.ensures ∙ w.if-is_link.false) (w.value-is ∙ c.is_link.ensures)
    ] in
    entering_not _ _ _ _ _ _ c.requires.sound c.requires.covers (sym both ∙ c.if-not-head_or_none.true)

pub returns-then-no_room : goal.returns-then-no_room
unfolding into_step
returns-then-no_room c =
    let both : c.if-is_link.value ≡ is_link c.args.c c.args.x && or_none (is_head c.args.c c.args.y) c.args.y = elim c.if-is_link.branch [
      | then-is_link w ↦ and_true _ _ _ (sym c.is_link.ensures ∙ w.if-is_link.true) (w.value-is ∙ w.head_or_none.ensures)
      | else-is_link w ↦ and_false _ _ _ (sym c.is_link.ensures ∙ w.if-is_link.false) (w.value-is ∙ c.is_link.ensures)
    ] in
    entering_full _ _ _ _ _ _ c.requires.sound _ _ c.no_room.ensures (sym both ∙ c.if-not-head_or_none.false) c.if-no_room.true

pub returns : goal.returns
unfolding into_step
returns c =
    let both : c.if-is_link.value ≡ is_link c.args.c c.args.x && or_none (is_head c.args.c c.args.y) c.args.y = elim c.if-is_link.branch [
      | then-is_link w ↦ and_true _ _ _ (sym c.is_link.ensures ∙ w.if-is_link.true) (w.value-is ∙ w.head_or_none.ensures)
      | else-is_link w ↦ and_false _ _ _ (sym c.is_link.ensures ∙ w.if-is_link.false) (w.value-is ∙ c.is_link.ensures)
    ] in
    let p = both_true (is_link c.args.c c.args.x) _ (sym both ∙ c.if-not-head_or_none.false) in
    entering _ _ _ _ _ _ c.requires.sound _ _ c.no_room.ensures (sym both ∙ c.if-not-head_or_none.false) c.if-no_room.false _
    (made_by (total c.args.c + 1) c.args.links.now _ c.sets.result c.precede.new.links c.sets.ensures.value (search rules) (λ (m : ℕ) (l : List ℕ). preceded m c.args.x c.args.y l) c.precede.ensures)
    (covers_preceded _ _ _ _ _ p.0 (none_or _ c.args.y _ (head_in c.args.c c.args.y) p.1) c.no_room.ensures.covers _)
