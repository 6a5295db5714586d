-- The mark of one place: the judge's test of it, and what the test means. S and P are the rings on which a process with a notice stands.
use Rattle.std.specs.Prelude.{ℕ, ◌≡◌, refl, ◌≢◌, ◌⊎◌, Bool, true, false, List, eqb, if◌then◌else◌}
use Rattle.std.proofs.Common.{sym, ◌∙◌, inl, inr}
use native.Mathlib.Omega.{arith}
use Rattle.std.proofs.Math.ListN.{get_or}
use borrow.Author.Tests.{eq-eqb, ne_eqb}
use Rattle.ring_laws.specs.Lists.{decide, clash}
use Rattle.ring_laws.specs.Judge.{idle}

-- a place that is marked terminated is idle, and is not main's, the first
unfoldable pub mark_fine : (ℕ → ℕ) → (ℕ → ℕ) → List ℕ → ℕ → Bool
mark_fine S P marks y =
    if eqb (get_or marks y 0) 0 then true
    else (if eqb (get_or marks y 0) 1 then (if eqb y 1 then false else idle S P y) else false)

pub unless : (a b : Bool) → (if a then false else b) ≡ true → (a ≡ false) × (b ≡ true)
unless true b e = clash e
unless false b e = (refl, e)

module _ (S P : ℕ → ℕ) (marks : List ℕ) (y : ℕ) where
  pub mark_none : get_or marks y 0 ≡ 0 → mark_fine S P marks y ≡ true
  unfolding mark_fine
  mark_none e = rw (eq-eqb (get_or marks y 0) 0 e)

  pub mark_other : get_or marks y 0 ≢ 0 → get_or marks y 0 ≢ 1 → mark_fine S P marks y ≡ false
  unfolding mark_fine
  mark_other n o = rw (ne_eqb (get_or marks y 0) 0 n, ne_eqb (get_or marks y 0) 1 o)

  pub mark_main : get_or marks y 0 ≡ 1 → y ≡ 1 → mark_fine S P marks y ≡ false
  unfolding mark_fine
  mark_main e f =
      let n : get_or marks y 0 ≢ 0 = λ z. omega arith in rw (ne_eqb (get_or marks y 0) 0 n, eq-eqb (get_or marks y 0) 1 e, eq-eqb y 1 f)

  pub mark_idle : get_or marks y 0 ≡ 1 → y ≢ 1 → mark_fine S P marks y ≡ idle S P y
  unfolding mark_fine
  mark_idle e f =
      let n : get_or marks y 0 ≢ 0 = λ z. omega arith in rw (ne_eqb (get_or marks y 0) 0 n, eq-eqb (get_or marks y 0) 1 e, ne_eqb y 1 f)

  pub mark_mean : mark_fine S P marks y ≡ true → (get_or marks y 0 ≡ 0) ⊎ ((get_or marks y 0 ≡ 1) × (y ≢ 1) × (idle S P y ≡ true))
  mark_mean e =
      decide (get_or marks y 0) 0
      (λ z. inl z)
      (λ n. decide (get_or marks y 0) 1
      (λ o. decide y 1 (λ f. clash (sym (mark_main o f) ∙ e)) (λ f. inr (o, f, sym (mark_idle o f) ∙ e)))
      (λ o. clash (sym (mark_other n o) ∙ e)))
