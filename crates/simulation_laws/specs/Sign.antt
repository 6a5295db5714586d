-- T above 0, read from a signed word.
use Rattle.std.specs.Prelude.{ℕ, ◌^◌, ◌<◌, ◌≡◌, refl, true, false, T, ℤ, pos, negsuc, nat_abs}
use Rattle.std.proofs.Common.{sym, ◌∙◌, ap, subst, arith, ltb-true, SFits, Fits, to_z, of_z}
use Rattle.std.specs.Int.Signed.{mag, lt_z, non_neg}
use Rattle.std.specs.Int.{w64}
use Rattle.std.proofs.lemmas.Int.{to_z-of_z}
use Rattle.simulation_laws.specs.Plain.{above}

module _ (x : ℤ) (f : SFits w64 x) where
  kept : to_z w64 (of_z w64 x) ≡ x
  kept = to_z-of_z w64 x f

  below_zero : (x : ℤ) → lt_z x (pos 0) ≡ true → 0 ≡ above x
  below_zero (pos n) h = absurd (omega (arith, ltb-true n 0 h))
  below_zero (negsuc n) h = refl

  not_neg : (x : ℤ) → lt_z x (pos 0) ≡ false → T (non_neg x)
  not_neg (pos n) h = tt
  not_neg (negsuc n) h = subst T h tt

  same_abs : (x : ℤ) → lt_z x (pos 0) ≡ false → nat_abs x ≡ above x
  same_abs (pos n) h = refl
  same_abs (negsuc n) h = absurd (subst T h tt)

  small : (x : ℤ) → mag x < 2 ^ 63 → nat_abs x < 2 ^ 64
  small (pos n) h = omega arith
  small (negsuc n) h = omega arith

  pub above_none : lt_z (to_z w64 (of_z w64 x)) (pos 0) ≡ true → 0 ≡ above x
  above_none h = below_zero x (subst (λ (z : ℤ). lt_z z (pos 0) ≡ true) kept h)

  pub above_cast : lt_z (to_z w64 (of_z w64 x)) (pos 0) ≡ false → T (non_neg (to_z w64 (of_z w64 x))) × Fits w64 (nat_abs (to_z w64 (of_z w64 x)))
  above_cast h =
      subst (λ (z : ℤ). T (non_neg z) × Fits w64 (nat_abs z)) (sym kept)
      (not_neg x (subst (λ (z : ℤ). lt_z z (pos 0) ≡ false) kept h), record { fits = small x f.sfits })

  pub above_is : lt_z (to_z w64 (of_z w64 x)) (pos 0) ≡ false → nat_abs (to_z w64 (of_z w64 x)) ≡ above x
  above_is h = ap nat_abs kept ∙ same_abs x (subst (λ (z : ℤ). lt_z z (pos 0) ≡ false) kept h)

  -- T handed on to a call
  pub above_passed : (d : ℕ) → d ≡ above (to_z w64 (of_z w64 x)) → d ≡ above x
  above_passed d e = e ∙ ap above kept
