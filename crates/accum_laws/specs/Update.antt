-- Accum on one accumulator, over whole numbers: "a grows by c × (time − b), b becomes time, c grows by d".
use Rattle.std.specs.Prelude.{ℕ, ◌*◌, ◌≤◌, ◌≡◌, refl, Bool, true, false, ◌&&◌, T, leb, ℤ, pos, negsuc, nat_abs, ◌+ℤ◌, ◌-ℤ◌, ◌*ℤ◌, if◌then◌else◌, Ok, Err, Result}
use Rattle.std.proofs.Common.{subst, arith, not-suc-le-zero}
use borrow.Author.Tests.{le-leb, ltb-true, leb-true}
use Rattle.std.specs.Int.Signed.{le_z, lt_z}
use Rattle.model.specs.Counts.{limit, both}
use Rattle.model.specs.declared.Refusal.TheVariants.{Accumulator as NotAsRequired}
use Rattle.accum_laws.specs.declared.Accumulator.{Accumulator}
use Rattle.model.specs.declared.Refusal.{Refusal}

-- "Required before: 0 ≤ b ≤ time, |a| ≤ 1,000,000 × b, |c| ≤ 1,000,000", and refusal 7 for "abs(c + d) above 1,000,000"
unfoldable pub may_update : Accumulator → ℕ → ℤ → Bool
may_update x t d =
    le_z (pos 0) x.b
    && (leb (nat_abs x.b) t
    && (leb (nat_abs x.a) (1000000 * nat_abs x.b) && (leb (nat_abs x.c) 1000000 && leb (nat_abs (x.c +ℤ d)) 1000000)))

-- "a grows by c × (time − b), b becomes time, c grows by d"
unfoldable pub grown_of : Accumulator → ℕ → ℤ → Accumulator
grown_of x t d = record { a = x.a +ℤ x.c *ℤ (pos t -ℤ x.b); b = pos t; c = x.c +ℤ d }

-- the accumulator after an update, or why there is none
abbrev pub Updated : Type 0
Updated = Result Accumulator Refusal

unfoldable pub updated_of : Accumulator → ℕ → ℤ → Updated
updated_of x t d = if may_update x t d then Ok (grown_of x t d) else Err NotAsRequired

-- what is required before, as facts
pub record Required (x : Accumulator) (t : ℕ) : Type 0 where
  pub since : le_z (pos 0) x.b ≡ true
  pub past : nat_abs x.b ≤ t
  pub sum_in : nat_abs x.a ≤ 1000000 * nat_abs x.b
  pub rate_in : nat_abs x.c ≤ 1000000

-- the same of three words and a time within the limit: what the code needs to compute the sum
pub record Growable (a b c : ℤ) (t : ℕ) : Type 0 where
  pub required : Required (record { a = a; b = b; c = c }) t
  pub time_in : t ≤ limit

-- ---- the tests, one by one

pub not_started : (b : ℤ) → lt_z b (pos 0) ≡ true → le_z (pos 0) b ≡ false
not_started (pos n) h = absurd (not-suc-le-zero (ltb-true n 0 h))
not_started (negsuc n) h = refl

pub started : (b : ℤ) → lt_z b (pos 0) ≡ false → le_z (pos 0) b ≡ true
started (pos n) h = le-leb 0 n (omega arith)
started (negsuc n) h = absurd (subst T h tt)

-- ---- accepted exactly where the accumulator is as required and c + d will do

pub record May (x : Accumulator) (t : ℕ) (d : ℤ) : Type 0 where
  pub required : Required x t
  pub rate_next : nat_abs (x.c +ℤ d) ≤ 1000000

pub may_says : (x : Accumulator) (t : ℕ) (d : ℤ) → may_update x t d ≡ true → May x t d
unfolding may_update
may_says x t d e =
    let p = both (le_z (pos 0) x.b) _ e in
    let q = both (leb (nat_abs x.b) t) _ p.1 in
    let r = both (leb (nat_abs x.a) (1000000 * nat_abs x.b)) _ q.1 in
    let s = both (leb (nat_abs x.c) 1000000) _ r.1 in
    record {
      required = record { since = p.0; past = leb-true _ _ q.0; sum_in = leb-true _ _ r.0; rate_in = leb-true _ _ s.0 };
      rate_next = leb-true _ _ s.1;
    }

pub says_may : (x : Accumulator) (t : ℕ) (d : ℤ) → May x t d → may_update x t d ≡ true
unfolding may_update
says_may x t d m =
    rw (m.required.since, le-leb _ _ m.required.past, le-leb _ _ m.required.sum_in, le-leb _ _ m.required.rate_in)
    (le-leb _ _ m.rate_next)

-- the clauses
module _ (x : Accumulator) (t : ℕ) (d : ℤ) where
  pub updated_to : may_update x t d ≡ true → updated_of x t d ≡ Ok (grown_of x t d)
  unfolding updated_of
  updated_to e = rw e

  pub updated_not : may_update x t d ≡ false → updated_of x t d ≡ Err NotAsRequired
  unfolding updated_of
  updated_not e = rw e
