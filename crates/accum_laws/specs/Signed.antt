-- Absolute values of whole numbers, and words: a number that fits a signed word is stored and read back as it is.
use Rattle.std.specs.Prelude.{ℕ, zero, suc, ◌+◌, ◌-◌, ◌*◌, ◌^◌, ◌≤◌, ◌<◌, ◌≡◌, refl, Bool, true, false, not, cond, T, ltb, ℤ, pos, negsuc, nat_abs, neg_ℤ, ◌+ℤ◌, ◌-ℤ◌, ◌*ℤ◌}
use Rattle.std.proofs.Common.{sym, ◌∙◌, ap, subst, arith, not-suc-le-zero, ltb→lt, ltb-true, SFits, Fits, to_z, of_z}
use Rattle.std.proofs.Math.IntN.{sub_ℕ, +ℤ_comm, +ℤ-neg_ℤ_cancel}
use Rattle.std.specs.Int.Signed.{mag, lt_z, non_neg}
use Rattle.std.specs.Int.{w64}
use Rattle.std.proofs.lemmas.Int.{to_z-of_z}

-- a choice by a test, case by case
pub by_test : (c : Bool) (x y : ℤ) (P : ℤ → Type 0) → (T c → P x) → (T (not c) → P y) → P (cond c x y)
by_test true x y P f g = f tt
by_test false x y P f g = g tt

abs_sub : (a b : ℕ) → nat_abs (sub_ℕ a b) ≤ a + b
abs_sub a b = by_test (ltb a b) (negsuc (b - suc a)) (pos (a - b)) (λ z. nat_abs z ≤ a + b)
    (λ t. below a b (ltb→lt a b t)) (λ t. above a b)
  where
    below : (a b : ℕ) → a < b → suc (b - suc a) ≤ a + b
    below a b h = omega arith

    above : (a b : ℕ) → a - b ≤ a + b
    above a b = omega arith

pub abs_add : (x y : ℤ) → nat_abs (x +ℤ y) ≤ nat_abs x + nat_abs y
abs_add (pos a) (pos b) = omega arith
abs_add (pos a) (negsuc b) = abs_sub a (suc b)
abs_add (negsuc a) (pos b) = flip a b
  where
    flip : (a b : ℕ) → nat_abs (sub_ℕ b (suc a)) ≤ suc a + b
    flip a b = omega (arith, abs_sub b (suc a))
abs_add (negsuc a) (negsuc b) = omega arith

pub abs_neg : (x : ℤ) → nat_abs (neg_ℤ x) ≡ nat_abs x
abs_neg (pos zero) = refl
abs_neg (pos (suc n)) = refl
abs_neg (negsuc n) = refl

pub abs_mul : (x y : ℤ) → nat_abs (x *ℤ y) ≡ nat_abs x * nat_abs y
abs_mul (pos a) (pos b) = refl
abs_mul (pos a) (negsuc b) = abs_neg (pos (a * suc b))
abs_mul (negsuc a) (pos b) = abs_neg (pos (suc a * b))
abs_mul (negsuc a) (negsuc b) = refl

-- |d| is at most |c + d| + |c|
pub abs_back : (c d : ℤ) → nat_abs d ≤ nat_abs (c +ℤ d) + nat_abs c
abs_back c d =
    let e : (d +ℤ c) -ℤ c ≡ d = +ℤ-neg_ℤ_cancel d c in
    let h : nat_abs ((d +ℤ c) -ℤ c) ≤ nat_abs (d +ℤ c) + nat_abs (neg_ℤ c) = abs_add (d +ℤ c) (neg_ℤ c) in
    omega (arith, ap nat_abs e, ap nat_abs (+ℤ_comm c d), abs_neg c, h)

mag_le : (z : ℤ) → mag z ≤ nat_abs z
mag_le (pos n) = omega arith
mag_le (negsuc n) = omega arith

pub fits_abs : (z : ℤ) → nat_abs z < 2 ^ 63 → SFits w64 z
fits_abs z h = record { sfits = small z h }
  where
    small : (z : ℤ) → nat_abs z < 2 ^ 63 → mag z < 2 ^ 63
    small z h = omega (arith, mag_le z)

-- a word's signed number, stored and read back
pub kept : {z : ℤ} → SFits w64 z → to_z w64 (of_z w64 z) ≡ z
kept {z} f = to_z-of_z w64 z f

-- equal numbers give equal results
pub ap2 : (op : ℤ → ℤ → ℤ) {x y u v : ℤ} → x ≡ u → y ≡ v → op x y ≡ op u v
ap2 op {x} {y} {u} {v} p q = ap (λ (z : ℤ). op z y) p ∙ ap (λ (z : ℤ). op u z) q

-- of a number below zero, −1 − x and the absolute value
flip : (x : ℤ) → lt_z x (pos 0) ≡ true → negsuc 0 -ℤ x ≡ pos (mag x)
flip (pos n) h = absurd (not-suc-le-zero (ltb-true n 0 h))
flip (negsuc n) h = by_test (ltb (suc n) 1) (negsuc (1 - suc (suc n))) (pos (suc n - 1)) (λ z. z ≡ pos n)
    (λ t. absurd (none n (ltb→lt (suc n) 1 t))) (λ t. ap pos (less n))
  where
    none : (n : ℕ) → suc n < 1 → ⊥
    none n h = omega arith

    less : (n : ℕ) → suc n - 1 ≡ n
    less n = omega arith

neg_mag : (x : ℤ) → lt_z x (pos 0) ≡ true → mag x + 1 ≡ nat_abs x
neg_mag (pos n) h = absurd (not-suc-le-zero (ltb-true n 0 h))
neg_mag (negsuc n) h = omega arith

not_neg : (x : ℤ) → lt_z x (pos 0) ≡ false → T (non_neg x)
not_neg (pos n) h = tt
not_neg (negsuc n) h = subst T h tt

-- what the code of `magnitude` computes of a stored word
module _ (x : ℤ) (f : SFits w64 x) where
  abbrev less_one : ℤ
  less_one = negsuc 0 -ℤ to_z w64 (of_z w64 x)

  read_neg : lt_z (to_z w64 (of_z w64 x)) (pos 0) ≡ true → lt_z x (pos 0) ≡ true
  read_neg h = subst (λ (z : ℤ). lt_z z (pos 0) ≡ true) (kept f) h

  less_one_is : lt_z (to_z w64 (of_z w64 x)) (pos 0) ≡ true → less_one ≡ pos (mag x)
  less_one_is h = ap (λ (z : ℤ). negsuc 0 -ℤ z) (kept f) ∙ flip x (read_neg h)

  pub less_one_fits : lt_z (to_z w64 (of_z w64 x)) (pos 0) ≡ true → SFits w64 less_one
  less_one_fits h = subst (SFits w64) (sym (less_one_is h)) (record { sfits = f.sfits })

  read_less_one : lt_z (to_z w64 (of_z w64 x)) (pos 0) ≡ true → to_z w64 (of_z w64 less_one) ≡ pos (mag x)
  read_less_one h = kept (less_one_fits h) ∙ less_one_is h

  pub less_one_cast : lt_z (to_z w64 (of_z w64 x)) (pos 0) ≡ true
      → T (non_neg (to_z w64 (of_z w64 less_one))) × Fits w64 (nat_abs (to_z w64 (of_z w64 less_one)))
  less_one_cast h = subst (λ (z : ℤ). T (non_neg z) × Fits w64 (nat_abs z)) (sym (read_less_one h))
      (tt, record { fits = omega (arith, f.sfits) })

  pub less_one_add : lt_z (to_z w64 (of_z w64 x)) (pos 0) ≡ true → Fits w64 (nat_abs (to_z w64 (of_z w64 less_one)) + 1)
  less_one_add h = subst (λ (z : ℤ). Fits w64 (nat_abs z + 1)) (sym (read_less_one h)) (record { fits = omega (arith, f.sfits) })

  pub less_one_abs : lt_z (to_z w64 (of_z w64 x)) (pos 0) ≡ true → nat_abs (to_z w64 (of_z w64 less_one)) + 1 ≡ nat_abs x
  less_one_abs h = ap (λ (z : ℤ). nat_abs z + 1) (read_less_one h) ∙ neg_mag x (read_neg h)

  pub same_cast : lt_z (to_z w64 (of_z w64 x)) (pos 0) ≡ false → T (non_neg (to_z w64 (of_z w64 x))) × Fits w64 (nat_abs (to_z w64 (of_z w64 x)))
  same_cast h =
      subst (λ (z : ℤ). T (non_neg z) × Fits w64 (nat_abs z)) (sym (kept f))
      (not_neg x (subst (λ (z : ℤ). lt_z z (pos 0) ≡ false) (kept f) h), record { fits = small x f.sfits })
    where
      small : (x : ℤ) → mag x < 2 ^ 63 → nat_abs x < 2 ^ 64
      small (pos n) h = omega arith
      small (negsuc n) h = omega arith

-- a call of an operation on two signed words that are known numbers: it fits, and what it gives
pub asks2 : (op : ℤ → ℤ → ℤ) {x y u v : ℤ} → SFits w64 x → x ≡ u → SFits w64 y → y ≡ v → SFits w64 (op u v)
    → SFits w64 (op (to_z w64 (of_z w64 x)) (to_z w64 (of_z w64 y)))
asks2 op f p g q h = subst (SFits w64) (sym (ap2 op (kept f ∙ p) (kept g ∙ q))) h

pub gives2 : (op : ℤ → ℤ → ℤ) {x y u v r : ℤ} → r ≡ op (to_z w64 (of_z w64 x)) (to_z w64 (of_z w64 y))
    → SFits w64 x → x ≡ u → SFits w64 y → y ≡ v → r ≡ op u v
gives2 op e f p g q = e ∙ ap2 op (kept f ∙ p) (kept g ∙ q)

-- a word, by the fact that the code has of it
pub word : {z : ℤ} → mag z < 2 ^ 63 → SFits w64 z
word h = record { sfits = h }

-- what `magnitude` and `below_zero` answer of a stored word
pub abs_word : {z : ℤ} {r : ℕ} → SFits w64 z → r ≡ nat_abs (to_z w64 (of_z w64 z)) → r ≡ nat_abs z
abs_word f e = e ∙ ap nat_abs (kept f)

pub sign_word : {z : ℤ} {r b : Bool} → SFits w64 z → r ≡ lt_z (to_z w64 (of_z w64 z)) (pos 0) → r ≡ b → lt_z z (pos 0) ≡ b
sign_word f e h = sym (e ∙ ap (λ (z : ℤ). lt_z z (pos 0)) (kept f)) ∙ h
