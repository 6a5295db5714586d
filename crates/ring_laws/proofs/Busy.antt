-- The list of those that have not two zeros: its clauses, and who is in it.
use Rattle.std.specs.Prelude.{ℕ, zero, suc, ◌+◌, ◌<◌, ◌≤◌, ◌≡◌, ◌≢◌, true, false, [], ◌∷◌, eqb}
use Rattle.std.proofs.Math.Path.{refl}
use Rattle.std.proofs.Common.{sym, ap, ◌∙◌, inl, inr, ⊎_elim, arith, eq-eqb, ne_eqb, eqb-true}
use Rattle.ring_laws.specs.Lists.{In, decide, test, clash}
use Rattle.ring_laws.specs.Distinct.{Dist}
use Rattle.ring_laws.specs.Judge.{idle, busy}

module _ (S P : ℕ → ℕ) where
  pub idle_not : (x : ℕ) → S x ≢ 0 → idle S P x ≡ false
  unfolding idle
  idle_not x n = rw (ne_eqb (S x) 0 n)

  pub idle_last : (x : ℕ) → S x ≡ 0 → idle S P x ≡ eqb (P x) 0
  unfolding idle
  idle_last x e = rw (eq-eqb (S x) 0 e)

  pub idle_zeros : (x : ℕ) → idle S P x ≡ true → (S x ≡ 0) × (P x ≡ 0)
  idle_zeros x e = decide (S x) 0 (λ z. (z, eqb-true (P x) 0 (sym (idle_last x z) ∙ e))) (λ n. clash (sym (idle_not x n) ∙ e))

  pub zeros_idle : (x : ℕ) → S x ≡ 0 → P x ≡ 0 → idle S P x ≡ true
  zeros_idle x e f = idle_last x e ∙ eq-eqb (P x) 0 f

  pub busy_none : (lo : ℕ) → busy S P lo 0 ≡ []
  unfolding busy
  busy_none lo = refl

  pub busy_idle : (lo n : ℕ) → idle S P (lo + n) ≡ true → busy S P lo (suc n) ≡ busy S P lo n
  unfolding busy
  busy_idle lo n e = rw e

  pub busy_more : (lo n : ℕ) → idle S P (lo + n) ≡ false → busy S P lo (suc n) ≡ (lo + n) ∷ busy S P lo n
  unfolding busy
  busy_more lo n e = rw e

  -- who is in it is one of the n places from lo
  pub busy_place : (lo n y : ℕ) → In y (busy S P lo n) → (lo ≤ y) × (y < lo + n) × (idle S P y ≡ false)
  busy_place lo zero y k = absurd (rw busy_none at k)
  busy_place lo (suc n) y k =
      test (idle S P (lo + n))
      (λ e. let r = busy_place lo n y (rw (busy_idle lo n e) at k) in (r.0, omega (arith, r.1), r.2))
      (λ e. ⊎_elim
      (λ f. (omega arith, omega arith, ap (idle S P) f ∙ e))
      (λ i. let r = busy_place lo n y i in (r.0, omega (arith, r.1), r.2))
      (rw (busy_more lo n e) at k))

  -- and each of them that is not idle is in it
  pub place_busy : (lo n y : ℕ) → lo ≤ y → y < lo + n → idle S P y ≡ false → In y (busy S P lo n)
  place_busy lo zero y l u b = absurd (none l u)
    where
      none : lo ≤ y → y < lo + 0 → ⊥
      none l u = omega arith
  place_busy lo (suc n) y l u b =
      test (idle S P (lo + n))
      (λ e. rw (busy_idle lo n e) (decide y (lo + n) (λ f. clash (sym b ∙ ap (idle S P) f ∙ e)) (λ f. place_busy lo n y l (omega arith) b)))
      (λ e. rw (busy_more lo n e) (decide y (lo + n) (λ f. inl f) (λ f. inr (place_busy lo n y l (omega arith) b))))

  pub busy_dist : (lo n : ℕ) → Dist (busy S P lo n)
  busy_dist lo zero = rw (busy_none lo) tt
  busy_dist lo (suc n) =
      test (idle S P (lo + n))
      (λ e. rw (busy_idle lo n e) (busy_dist lo n))
      (λ e. rw (busy_more lo n e) (λ k. absurd (none (busy_place lo n (lo + n) k).1), busy_dist lo n))
    where
      none : lo + n < lo + n → ⊥
      none h = omega arith
