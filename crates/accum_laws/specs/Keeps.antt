-- Within what is required nothing overflows, and an accepted update leaves an accumulator that is as required from then on.
use Rattle.std.specs.Prelude.{ℕ, zero, suc, ◌-◌, ◌*◌, ◌≤◌, ◌<◌, ◌≡◌, refl, true, T, ltb, ℤ, pos, negsuc, nat_abs, ◌+ℤ◌, ◌-ℤ◌, ◌*ℤ◌, Ok, Err}
use Rattle.std.proofs.Common.{sym, subst, arith, mul-le-mul, le-leb, ltb→lt, SFits}
use Rattle.std.specs.Int.Signed.{le_z}
use Rattle.std.specs.Int.{w64}
use Rattle.model.specs.Counts.{limit}
use Rattle.model.specs.declared.Refusal.TheVariants.{Accumulator as NotAsRequired}
use Rattle.accum_laws.specs.declared.Accumulator.{Accumulator}
use Rattle.accum_laws.specs.Signed.{abs_add, abs_mul, by_test, fits_abs}
use Rattle.accum_laws.specs.Update.{may_update, grown_of, updated_of, Required, May}

-- with 0 ≤ b ≤ t, |t − b| is at most t − |b|
since_abs : (b : ℤ) (t : ℕ) → le_z (pos 0) b ≡ true → nat_abs b ≤ t → nat_abs (pos t -ℤ b) ≤ t - nat_abs b
since_abs (pos zero) t s p = omega arith
since_abs (pos (suc n)) t s p =
    by_test (ltb t (suc n)) (negsuc (suc n - suc t)) (pos (t - suc n)) (λ z. nat_abs z ≤ t - suc n)
    (λ k. absurd (no k)) (λ k. omega arith)
  where
    none : (t n : ℕ) → t < suc n → suc n ≤ t → ⊥
    none t n h k = omega arith

    no : T (ltb t (suc n)) → ⊥
    no k = none t n (ltb→lt t (suc n) k) p
since_abs (negsuc n) t s p = absurd (subst T (sym s) tt)

module _ (x : Accumulator) (t : ℕ) (r : Required x t) where
  -- |c × (t − b)| is at most 1,000,000 × (t − b)
  product_in : nat_abs (x.c *ℤ (pos t -ℤ x.b)) ≤ 1000000 * (t - nat_abs x.b)
  product_in =
      omega (arith, abs_mul x.c (pos t -ℤ x.b), mul-le-mul r.rate_in (since_abs x.b t r.since r.past))

  -- so the sum is within what is required at t
  pub sum_next : nat_abs (x.a +ℤ x.c *ℤ (pos t -ℤ x.b)) ≤ 1000000 * t
  sum_next = omega (arith, abs_add x.a (x.c *ℤ (pos t -ℤ x.b)), product_in, r.past, r.sum_in)

  -- ---- nothing overflows

  module _ (k : t ≤ limit) where
    pub since_fits : SFits w64 (pos t -ℤ x.b)
    since_fits = fits_abs (pos t -ℤ x.b) (omega (arith, since_abs x.b t r.since r.past))

    pub product_fits : SFits w64 (x.c *ℤ (pos t -ℤ x.b))
    product_fits = fits_abs (x.c *ℤ (pos t -ℤ x.b)) (omega (arith, product_in))

    pub sum_fits : SFits w64 (x.a +ℤ x.c *ℤ (pos t -ℤ x.b))
    sum_fits = fits_abs (x.a +ℤ x.c *ℤ (pos t -ℤ x.b)) (omega (arith, sum_next))

-- ---- an accepted update keeps what is required

-- the new accumulator is as required at that time and at every later one
pub grown_required : (x : Accumulator) (t : ℕ) (d : ℤ) → May x t d → (u : ℕ) → t ≤ u → Required (grown_of x t d) u
unfolding grown_of
grown_required x t d m u k =
    record { since = le-leb 0 t (omega arith); past = k; sum_in = sum_next x t m.required; rate_in = m.rate_next }

-- what is required at a time is required at every later one
pub required_later : (x : Accumulator) (t u : ℕ) → t ≤ u → Required x t → Required x u
required_later x t u k r =
    record { since = r.since; past = omega (arith, r.past); sum_in = r.sum_in; rate_in = r.rate_in }

abbrev pub zero_accumulator : Accumulator
zero_accumulator = record { a = pos 0; b = pos 0; c = pos 0 }

-- a fresh run's zeros are as required at every time
pub zeros_required : (t : ℕ) → Required zero_accumulator t
zeros_required t = record { since = refl; past = omega arith; sum_in = omega arith; rate_in = omega arith }

-- the papers' example of 7, c = 1,000,000 and d = 1; and 3 a tick from 2 to 7, then 4 less
seven : updated_of (record { a = pos 0; b = pos 0; c = pos 1000000 }) 0 (pos 1) ≡ Err NotAsRequired
unfolding updated_of may_update
seven = refl

three_a_tick : updated_of (record { a = pos 10; b = pos 2; c = pos 3 }) 7 (negsuc 3) ≡ Ok (record { a = pos 25; b = pos 7; c = negsuc 0 })
unfolding updated_of may_update grown_of
three_a_tick = refl
