-- The walk along one ring: its clauses; it comes back exactly where there is a chain.
use Prim.Native.Nat.{ℕ, zero, suc, ◌+◌, ◌<◌, ◌≤◌}
use Rattle.std.proofs.Math.Path.{◌≡◌, refl}
use Rattle.std.proofs.Common.{sym, ◌∙◌, arith}
use Rattle.std.specs.Prelude.{◌≢◌, Bool, List, ltb, length, if◌then◌else◌}
use Rattle.std.proofs.Math.Bool.{true, false}
use borrow.Author.Tests.{eq-eqb, ne_eqb, lt-ltb, le-ltb}
use Rattle.ring_laws.specs.Lists.{In, decide, below, clash}
use Rattle.ring_laws.specs.Chain.{Chain}
use Rattle.ring_laws.specs.Judge.{allowed, step, walk}

-- ---- the clauses

module _ (lo hi h s : ℕ) where
  pub allowed_head : s ≡ h → allowed lo hi h s ≡ true
  unfolding allowed
  allowed_head e = rw (eq-eqb s h e)

  pub allowed_low : s ≢ h → s < lo → allowed lo hi h s ≡ false
  unfolding allowed
  allowed_low n l = rw (ne_eqb s h n, lt-ltb s lo l)

  pub allowed_link : s ≢ h → lo ≤ s → allowed lo hi h s ≡ ltb s hi
  unfolding allowed
  allowed_link n l = rw (ne_eqb s h n, le-ltb s lo l)

module _ (S P : ℕ → ℕ) (lo hi h : ℕ) where
  pub step_not : (a : ℕ) → allowed lo hi h (S a) ≡ false → step S P lo hi h a ≡ 0
  unfolding step
  step_not a e = rw e

  pub step_one_way : (a : ℕ) → P (S a) ≢ a → step S P lo hi h a ≡ 0
  unfolding step
  step_one_way a n = rw (ne_eqb (P (S a)) a n) (same (allowed lo hi h (S a)))
    where
      same : (b : Bool) → ◌≡◌ {A = ℕ} (if b then 0 else 0) 0
      same true = refl
      same false = refl

  pub step_is : (a : ℕ) → allowed lo hi h (S a) ≡ true → P (S a) ≡ a → step S P lo hi h a ≡ S a
  unfolding step
  step_is a e f = rw (e, eq-eqb (P (S a)) a f)

  pub walk_broken : (k a : ℕ) → step S P lo hi h a ≡ 0 → walk S P lo hi h k a ≡ 0
  unfolding walk
  walk_broken zero a e = rw (eq-eqb (step S P lo hi h a) 0 e)
  walk_broken (suc k) a e = rw (eq-eqb (step S P lo hi h a) 0 e)

  pub walk_back : (k a : ℕ) → step S P lo hi h a ≢ 0 → step S P lo hi h a ≡ h → walk S P lo hi h k a ≡ suc k
  unfolding walk
  walk_back zero a n e = rw (ne_eqb (step S P lo hi h a) 0 n, eq-eqb (step S P lo hi h a) h e)
  walk_back (suc k) a n e = rw (ne_eqb (step S P lo hi h a) 0 n, eq-eqb (step S P lo hi h a) h e)

  pub walk_short : (a : ℕ) → step S P lo hi h a ≢ 0 → step S P lo hi h a ≢ h → walk S P lo hi h 0 a ≡ 0
  unfolding walk
  walk_short a n e = rw (ne_eqb (step S P lo hi h a) 0 n, ne_eqb (step S P lo hi h a) h e)

  pub walk_on : (k a : ℕ) → step S P lo hi h a ≢ 0 → step S P lo hi h a ≢ h
      → walk S P lo hi h (suc k) a ≡ walk S P lo hi h k (step S P lo hi h a)
  unfolding walk
  walk_on k a n e = rw (ne_eqb (step S P lo hi h a) 0 n, ne_eqb (step S P lo hi h a) h e)

-- ---- what they mean

pub allowed_mean : (lo hi h s : ℕ) → s ≢ h → allowed lo hi h s ≡ true → (lo ≤ s) × (s < hi)
allowed_mean lo hi h s n e =
    below s lo
    (λ l. clash (sym (allowed_low lo hi h s n l) ∙ e))
    (λ l. below s hi (λ u. (l, u)) (λ u. clash (sym (le-ltb s hi u) ∙ sym (allowed_link lo hi h s n l) ∙ e)))

pub mean_allowed : (lo hi h s : ℕ) → lo ≤ s → s < hi → allowed lo hi h s ≡ true
mean_allowed lo hi h s l u = decide s h (allowed_head lo hi h s) (λ n. allowed_link lo hi h s n l ∙ lt-ltb s hi u)

-- after a come links and then h, and r of k are left
pub record WalkPassed (S P : ℕ → ℕ) (lo hi h a k r : ℕ) : Type 0 where
  pub members : List ℕ
  pub chain : Chain S P a members h
  pub links : (y : ℕ) → In y members → (lo ≤ y) × (y < hi)
  pub count : k ≡ length members + r

pub none : {A : Type 0} (r : ℕ) → 0 ≡ suc r → A
none r z = absurd (go z)
  where
    go : 0 ≡ suc r → ⊥
    go z = omega arith
