-- The first part of an array that is filled with one value has the length asked for.
use Rattle.std.specs.Prelude.{ℕ, zero, suc, ◌≤◌, ◌≡◌, refl, List, ◌∷◌, length, take, replicate}
use Rattle.std.proofs.Common.{ap, ◌∙◌, le_of_suc-le-suc, not-suc-le-zero}
use Rattle.std.proofs.lemmas.List.{length-replicate}

take_replicate : {A : Type 0} (k n : ℕ) (v : A) → k ≤ n → take k (replicate n v) ≡ replicate k v
take_replicate zero n v h = refl
take_replicate (suc k) zero v h = absurd (not-suc-le-zero h)
take_replicate (suc k) (suc n) v h = ap (λ (l : List _). v ∷ l) (take_replicate k n v (le_of_suc-le-suc h))

pub part_length : {A : Type 0} (k n : ℕ) (v : A) → k ≤ n → length (take k (replicate n v)) ≡ k
part_length k n v h = ap length (take_replicate k n v h) ∙ length-replicate k v
