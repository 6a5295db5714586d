-- The invariant of the walk that counts: n places passed, the walk stands at i, and what is left to count is counted from there.
use Prim.Native.Nat.{ℕ, suc, ◌+◌, ◌-◌, ◌<◌, ◌≤◌}
use mathlib.Core.Path.{◌≡◌, ap}
use mathlib.Core.Logic.{◌≢◌}
use mathlib.Core.List.{List}
use native.Mathlib.Omega.{arith}
use lib.ListN.{get_or}
use Rattle.ring_laws.specs.Table.{Sound, steps, steps_zero, steps_here, steps_on}

pub record Counting (t : List ℕ) (m h most n i : ℕ) : Type 0 where
  pub at : i < m
  pub few : n ≤ most
  pub rest : (k : ℕ) → n + k ≡ most → n + steps t h k i ≡ steps t h most (get_or t h 0)

module _ (t : List ℕ) (m h most : ℕ) where
  pub counting_start : (i : ℕ) → Sound m t → h < m → i ≡ get_or t h 0 → Counting t m h most 0 i
  counting_start i s l e =
      record {
        at = omega (arith, s.inside h);
        few = omega arith;
        rest = λ k f.
            let kn : k ≡ most = omega arith in
            omega (arith, ap (λ (j : ℕ). steps t h most j) e, ap (λ (j : ℕ). steps t h j i) kn);
      }

  module _ (n i : ℕ) (c : Counting t m h most n i) where
    pub counting_turn : (j : ℕ) → Sound m t → n < most → i ≢ h → j ≡ get_or t i 0 → Counting t m h most (n + 1) j
    counting_turn j s l ne e =
        record {
          at = omega (arith, s.inside i);
          few = omega arith;
          rest = λ k f. omega (arith, c.rest (suc k) (omega arith), steps_on t h k i ne, ap (λ (x : ℕ). steps t h k x) e);
        }

    pub counting_found : i ≡ h → n ≡ steps t h most (get_or t h 0)
    counting_found e = omega (arith, c.few, c.rest (most - n) (omega (arith, c.few)), steps_here t h (most - n) i e)

    pub counting_out : most ≤ n → most ≡ steps t h most (get_or t h 0)
    counting_out l = omega (arith, c.few, c.rest 0 (omega (arith, c.few)), steps_zero t h i)
