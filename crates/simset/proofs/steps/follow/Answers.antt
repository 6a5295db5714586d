use Rattle.std.proofs.Common.{sym, ap, Bool, ◌&&◌, ◌∙◌, ℕ, List, ◌+◌}
use Rattle.ring.specs.Rings.{made_by}
use Rattle.model.specs.Counts.{total, is_linkage}
use borrow.Author.Rules.{rules}
use Rattle.simset_laws.specs.Procedures.{followed}
use Rattle.simset_laws.specs.Promise.{linkage_in, none_or}
use Rattle.simset_laws.proofs.BoundLaws.{covers_followed}
use Rattle.simset_laws.specs.Entering.{entering_refused, entering_beside}
use Rattle.simset_laws.proofs.Entering.{entering_not, beside_may}
use Rattle.simset_laws.specs.Calls.{follow_step, or_none}
use Rattle.model.specs.Passed.{passed_on}
use Rattle.simset.proofs.steps.follow.Goals as goal

pub returns-then-not-is_link : goal.returns-then-not-is_link
unfolding follow_step
returns-then-not-is_link c = entering_not _ _ _ _ _ _ c.requires.sound c.requires.covers (ap (λ (b : Bool). b && or_none (is_linkage c.args.c c.args.y) c.args.y) (sym c.is_link.ensures ∙ c.if-not-is_link.true))

pub returns-in_err-beside : goal.returns-in_err-beside
unfolding follow_step
returns-in_err-beside c =
    rw (passed_on _ _ c.from_residual.ensures.1)
    (entering_refused c.args.c _ _ _ _ _ _ c.requires.sound _ _ c.beside.ensures (sym c.is_link.ensures ∙ c.if-not-is_link.false) _ c.in_err-beside.was)

pub returns : goal.returns
unfolding follow_step
returns c = entering_beside _ _ _ _ _ _ _ c.requires.sound _ _ c.beside.ensures (sym c.is_link.ensures ∙ c.if-not-is_link.false) c.in_ok-beside.was _
    (made_by (total c.args.c + 1) c.args.links.now _ c.sets.result c.follow.new.links c.sets.ensures.value (search rules) (λ (m : ℕ) (l : List ℕ). followed m c.args.x c.args.y l) c.follow.ensures)
    (covers_followed _ _ _ _ _ (sym c.is_link.ensures ∙ c.if-not-is_link.false) (none_or _ c.args.y _ (linkage_in c.args.c c.args.y) (beside_may _ _ _ _ _ _ _ c.beside.ensures c.in_ok-beside.was)) (c.beside.ensures.covers c.in_ok-beside.was) _)
