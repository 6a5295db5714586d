use Rattle.std.proofs.Common.{sym, ◌∙◌, ℕ, List, ◌+◌}
use Rattle.ring.specs.Rings.{made_by}
use Rattle.model.specs.Counts.{total}
use borrow.Author.Rules.{rules}
use Rattle.simset_laws.specs.Procedures.{cleared}
use Rattle.simset_laws.specs.Promise.{moved_not, moved}
use Rattle.simset_laws.specs.Calls.{clear_step}
use Rattle.simset.proofs.steps.clear.Goals as goal

pub returns-then-not-is_head : goal.returns-then-not-is_head
unfolding clear_step
returns-then-not-is_head c = moved_not _ _ _ _ c.requires (sym c.is_head.ensures ∙ c.if-not-is_head.true)

pub returns : goal.returns
unfolding clear_step
returns c = moved _ _ _ _ _ (sym c.is_head.ensures ∙ c.if-not-is_head.false)
    (made_by (total c.args.c + 1) c.args.links.now _ c.sets.result c.clear.new.links c.sets.ensures.value (search rules) (λ (m : ℕ) (l : List ℕ). cleared m c.args.x l) c.clear.ensures)
