use Rattle.std.proofs.Common.{sym, ◌∙◌, ℕ, List, ◌+◌}
use Rattle.ring.specs.Rings.{made_by}
use Rattle.model.specs.Counts.{total}
use borrow.Author.Rules.{rules}
use Rattle.ring_laws.specs.Table.{unlinked}
use Rattle.simset_laws.specs.Promise.{moved_not, moved}
use Rattle.simset_laws.specs.Calls.{out_step}
use Rattle.simset.proofs.steps.out.Goals as goal

pub returns-then-not-is_link : goal.returns-then-not-is_link
unfolding out_step
returns-then-not-is_link c = moved_not _ _ _ _ c.requires (sym c.is_link.ensures ∙ c.if-not-is_link.true)

pub returns : goal.returns
unfolding out_step
returns c = moved _ _ _ _ _ (sym c.is_link.ensures ∙ c.if-not-is_link.false)
    (made_by (total c.args.c + 1) c.args.links.now _ c.sets.result c.unlink.new.self c.sets.ensures.value (search rules) (λ (m : ℕ) (l : List ℕ). unlinked m c.args.x l) c.unlink.ensures)
