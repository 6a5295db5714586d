-- The judge of the axis answers yes exactly where there are events that the axis spells, with their times and marks.
use Rattle.std.specs.Prelude.{ℕ, ◌+◌, ◌<◌, ◌≤◌, ◌≡◌, ◌≢◌, ◌⊎◌, List, length, get_or}
use Rattle.model.specs.Counts.{limit}
use Rattle.ring_laws.specs.Lists.{In}
use Rattle.axis_laws.specs.AxisRing.{SpellsAxis}
use Rattle.axis_laws.specs.Reading.{NeverFall}

-- the places with a notice, in order; times and marks as the paper has them
pub record AxisSpelled (p : ℕ) (events axis times marks : List ℕ) : Type 0 where
  pub ring : SpellsAxis (p + 2) events axis
  pub some : 0 < length events
  pub order : NeverFall times events
  pub limits : (y : ℕ) → In y events → get_or times y 0 ≤ limit
  pub idle_times : (y : ℕ) → y ≤ p → (In y events → ⊥) → get_or times y 0 ≡ 0
  pub marked : (y : ℕ) → y ≤ p → (get_or marks y 0 ≡ 0) ⊎ ((get_or marks y 0 ≡ 1) × (y ≢ 1) × (In y events → ⊥))
  pub zero_mark : get_or marks 0 0 ≡ 0
