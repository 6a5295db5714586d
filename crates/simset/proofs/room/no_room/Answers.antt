use Rattle.std.proofs.Common.{sym, ◌∙◌}
use Rattle.simset.proofs.Rooms.{set_in, not_many, beside_none, beside_some}
use native.Mathlib.Omega.{arith}
use Rattle.simset.proofs.room.no_room.Goals as goal

pub returns-then-not-are_many : goal.returns-then-not-are_many
returns-then-not-are_many c = not_many _ _ _ _ _ c.requires.covers (sym c.are_many.ensures ∙ c.if-not-are_many.true)

pub is_full-requires-clause-x_bound : goal.is_full-requires-clause-x_bound
is_full-requires-clause-x_bound c = (c.requires.x_bound.0, omega (arith, c.if-h-ne0.true), set_in _ _ _ _ _ c.set_of-h.ensures)

pub returns-then-h-ne0 : goal.returns-then-h-ne0
returns-then-h-ne0 c = beside_some _ _ _ _ _ c.requires.covers (sym c.are_many.ensures ∙ c.if-not-are_many.false) _ (rw c.total.ensures at c.set_of-h.ensures) c.if-h-ne0.true _ _ c.is_full.ensures

pub returns-else-h-ne0 : goal.returns-else-h-ne0
returns-else-h-ne0 c = beside_none _ _ _ _ _ c.requires.covers (sym c.are_many.ensures ∙ c.if-not-are_many.false) _ (rw c.total.ensures at c.set_of-h.ensures) c.if-h-ne0.false
