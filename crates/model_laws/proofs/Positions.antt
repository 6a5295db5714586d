-- The judge of a run's positions: its clauses, and that it is sound and complete.
use Rattle.std.specs.Prelude.{ℕ, zero, suc, ◌<◌, ◌≤◌, ◌≡◌, true, false, List, eqb, get_or}
use Rattle.std.proofs.Math.Path.{refl}
use Rattle.std.proofs.Common.{sym, ap, ◌∙◌, arith, eq-eqb, eqb-true, lt-ltb, le-ltb}
use Rattle.ring_laws.specs.Lists.{decide, below, clash}
use Rattle.model_laws.specs.Judge.{positions_fine}

module _ (R : ℕ) (positions : List ℕ) where
  pub positions_zero : positions_fine R positions 0 ≡ eqb (get_or positions 0 0) 0
  unfolding positions_fine
  positions_zero = refl

  pub positions_past : (i : ℕ) → R < get_or positions (suc i) 0 → positions_fine R positions (suc i) ≡ false
  unfolding positions_fine
  positions_past i l = rw (lt-ltb R (get_or positions (suc i) 0) l)

  pub positions_on : (i : ℕ) → get_or positions (suc i) 0 ≤ R → positions_fine R positions (suc i) ≡ positions_fine R positions i
  unfolding positions_fine
  positions_on i l = rw (le-ltb R (get_or positions (suc i) 0) l)

  pub positions_sound : (p : ℕ) → positions_fine R positions p ≡ true → (get_or positions 0 0 ≡ 0) × ((y : ℕ) → y ≤ p → get_or positions y 0 ≤ R)
  positions_sound zero e =
      let z : get_or positions 0 0 ≡ 0 = eqb-true (get_or positions 0 0) 0 (sym positions_zero ∙ e) in
      (z, λ y l. let q : y ≡ 0 = omega arith in omega (arith, ap (λ (j : ℕ). get_or positions j 0) q))
  positions_sound (suc p) e =
      below R (get_or positions (suc p) 0)
      (λ l. clash (sym (positions_past p l) ∙ e))
      (λ l.
      let r = positions_sound p (sym (positions_on p l) ∙ e) in
      (r.0, λ y b. decide y (suc p) (λ q. omega (arith, ap (λ (j : ℕ). get_or positions j 0) q)) (λ n. r.1 y (omega arith))))

  pub positions_complete : (p : ℕ) → get_or positions 0 0 ≡ 0 → ((y : ℕ) → y ≤ p → get_or positions y 0 ≤ R)
      → positions_fine R positions p ≡ true
  positions_complete zero z f = positions_zero ∙ eq-eqb (get_or positions 0 0) 0 z
  positions_complete (suc p) z f = positions_on p (f (suc p) (omega arith)) ∙ positions_complete p z (λ y l. f y (omega arith))
