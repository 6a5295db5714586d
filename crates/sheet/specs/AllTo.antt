-- A test of each of 1 to n, and a loop that makes it counting down.
use Rattle.std.specs.Prelude.{ℕ, zero, suc, ◌-◌, ◌≤◌, ◌<◌, ◌≡◌, Bool, true, false, ◌&&◌}
use Rattle.std.proofs.Common.{sym, subst, ◌∙◌}
use Rattle.std.proofs.Math.Path.{ap}
use native.Mathlib.Omega.{arith}
use Rattle.ring_laws.specs.Lists.{decide}
use Rattle.model.specs.Counts.{both}

-- the test holds of each of 1 to n
unfoldable pub all_to : (ℕ → Bool) → ℕ → Bool
all_to f zero = true
all_to f (suc n) = f (suc n) && all_to f n

pub all_at : (f : ℕ → Bool) (n : ℕ) → all_to f n ≡ true → (k : ℕ) → 1 ≤ k → k ≤ n → f k ≡ true
unfolding all_to
all_at f zero e k a b = absurd (no_such k a b)
  where
    no_such : (k : ℕ) → 1 ≤ k → k ≤ 0 → ⊥
    no_such k a b = omega arith
all_at f (suc n) e k a b =
    decide k (suc n) (λ q. ap f q ∙ (both (f (suc n)) (all_to f n) e).0)
    (λ q. all_at f n (both (f (suc n)) (all_to f n) e).1 k a (omega arith))

-- ---- counting down: of 1 to all, those up to n are left to test

pub record Remaining (f : ℕ → Bool) (all n : ℕ) : Type 0 where
  pub within : n ≤ all
  pub same : all_to f n ≡ all_to f all

more : (f : ℕ → Bool) (m : ℕ) → all_to f (suc m) ≡ (f (suc m) && all_to f (suc m - 1))
unfolding all_to
more f m = let e : m ≡ suc m - 1 = omega arith in ap (λ (k : ℕ). f (suc m) && all_to f k) e

last : (f : ℕ → Bool) (n : ℕ) → 0 < n → all_to f n ≡ (f n && all_to f (n - 1))
last f n l = go (n - 1) (omega arith)
  where
    go : (m : ℕ) → n ≡ suc m → all_to f n ≡ (f n && all_to f (n - 1))
    go m e = subst (λ (k : ℕ). all_to f k ≡ (f k && all_to f (k - 1))) (sym e) (more f m)

module _ (f : ℕ → Bool) (all n : ℕ) where
  pub left_start : n ≡ all → Remaining f all n
  left_start e = record { within = omega arith; same = ap (all_to f) e }

  pub left_out : Remaining f all n → n ≤ 0 → true ≡ all_to f all
  unfolding all_to
  left_out g l = let e : 0 ≡ n = omega arith in ap (all_to f) e ∙ g.same

  module _ (g : Remaining f all n) (some : 0 < n) where
    pub left_turn : f n ≡ true → Remaining f all (n - 1)
    left_turn e = record { within = omega (arith, g.within); same = sym (last f n some ∙ rw e) ∙ g.same }

    pub left_break : f n ≡ false → false ≡ all_to f all
    left_break e = sym (last f n some ∙ rw e) ∙ g.same
