-- A walk along a ring of links, by the successors, to the first place of some kind: its clauses, and what a loop that makes it keeps. The
-- heads are 1 .. H, and 0 is none.
use Prim.Native.Nat.{ℕ, suc, ◌-◌, ◌<◌, ◌≤◌}
use Rattle.std.specs.Prelude.{◌≡◌, Bool, true, false, List, get_or}
use Rattle.std.proofs.Common.{sym, ap, ◌∙◌}
use native.Mathlib.Omega.{arith}
use Rattle.ring_laws.specs.Table.{Sound}
use Rattle.simset_laws.specs.Walk.{first_from, from_zero, from_found, from_head, from_on, Walking}

module _ (f : ℕ → Bool) (H m : ℕ) (t : List ℕ) (v : ℕ) where
  pub walk_start : v < m → (k : ℕ) → k ≡ m → Walking f H m t v k v
  walk_start l k e = record { at = l; rest = ap (λ (n : ℕ). first_from f H t n v) e }

  module _ (k i : ℕ) (w : Walking f H m t v k i) where
    pub walk_out : k ≤ 0 → 0 ≡ first_from f H t m v
    walk_out l = sym (from_zero f H t k i (omega arith)) ∙ w.rest

    module _ (some : 0 < k) where
      pub walk_found : f i ≡ true → i ≡ first_from f H t m v
      walk_found e = sym (from_found f H t k i some e) ∙ w.rest

      pub walk_none : f i ≡ false → i ≤ H → 0 ≡ first_from f H t m v
      walk_none e l = sym (from_head f H t k i e l) ∙ w.rest

      pub walk_on : Sound m t → f i ≡ false → H < i → (j : ℕ) → j ≡ get_or t i 0 → Walking f H m t v (k - 1) j
      walk_on s e l j is =
          record {
            at = omega (arith, s.inside i);
            rest =
                ap (first_from f H t (k - 1)) is
                ∙ sym (from_on f H t (k - 1) i e l)
                ∙ ap (λ (n : ℕ). first_from f H t n i) one_more_lem
                ∙ w.rest;
          }
        where
          one_more_lem : suc (k - 1) ≡ k
          one_more_lem = omega arith
