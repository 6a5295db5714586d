-- Order in a list: a stands somewhere before b; a stands right before b.
use Rattle.std.specs.Prelude.{ℕ, ◌≡◌, ◌⊎◌, List, [], ◌∷◌}
use Rattle.ring_laws.specs.Lists.{In}

abbrev pub Before : ℕ → ℕ → List ℕ → Type 0
Before a b [] = ⊥
Before a b (z ∷ l) = ((z ≡ a) × In b l) ⊎ Before a b l

abbrev pub Next : ℕ → ℕ → List ℕ → Type 0
Next a b [] = ⊥
Next a b (z ∷ []) = ⊥
Next a b (z ∷ w ∷ l) = ((z ≡ a) × (w ≡ b)) ⊎ Next a b (w ∷ l)
