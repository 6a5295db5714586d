-- The judge answers yes exactly where there are lists.
use Rattle.std.specs.Prelude.{ℕ, ◌-◌, ◌≡◌, Bool, true, false, List, [], length, get_or}
use Rattle.ring_laws.specs.Rings.{Rings}
use Rattle.ring_laws.specs.Judge.{idle, busy, closed, rings_fine}
use Rattle.ring_laws.specs.Rows.{AtMost}

module _ (S P : ℕ → ℕ) (lo hi most n g : ℕ) where
  pub fine_not : idle S P 0 ≡ false → rings_fine S P lo hi most n g ≡ false
  unfolding rings_fine
  fine_not e = rw e

  pub fine_is : idle S P 0 ≡ true → rings_fine S P lo hi most n g ≡ closed S P lo hi most n g (length (busy S P lo (hi - lo)))
  unfolding rings_fine
  fine_is e = rw e

-- lists that the rings spell, none of more than most members
pub record Found (m : ℕ) (is_head : ℕ → Bool) (S P : ℕ → ℕ) (most n g : ℕ) : Type 0 where
  pub sets : List (List ℕ)
  pub all : length sets ≡ n
  pub rings : Rings m is_head (λ h. get_or sets (h - g) []) S P
  pub limited : AtMost most sets
