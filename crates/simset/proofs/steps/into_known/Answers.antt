use Rattle.std.proofs.Common.{sym, ap, Bool, ◌&&◌, ◌∙◌, ℕ, List, ◌+◌}
use Rattle.ring.specs.Rings.{made_by}
use Rattle.model.specs.Counts.{total, is_head}
use borrow.Author.Rules.{rules}
use Rattle.simset_laws.specs.Procedures.{preceded}
use Rattle.simset_laws.specs.Promise.{entry_not, entered}
use Rattle.simset_laws.specs.Calls.{into_step, or_none}
use Rattle.simset_laws.specs.KnownRoom.{may_enter}
use Rattle.simset.proofs.steps.into_known.Goals as goal

pub returns-then-not-is_link : goal.returns-then-not-is_link
unfolding into_step
returns-then-not-is_link c = entry_not _ _ _ _ _ c.requires.sound (ap (λ (b : Bool). b && or_none (is_head c.args.c c.args.y) c.args.y) (sym c.is_link.ensures ∙ c.if-not-is_link.true))

pub returns : goal.returns
unfolding into_step
returns c = entered _ _ _ _ _ _ (may_enter c.args.c _ _ _ (sym c.is_link.ensures ∙ c.if-not-is_link.false) c.requires.roomy) c.requires.roomy.room
    (made_by (total c.args.c + 1) c.args.links.now _ c.sets.result c.precede.new.links c.sets.ensures.value (search rules) (λ (m : ℕ) (l : List ℕ). preceded m c.args.x c.args.y l) c.precede.ensures)
