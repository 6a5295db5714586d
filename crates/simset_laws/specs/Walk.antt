-- A walk along a ring of links, by the successors, to the first place of some kind: its clauses, and what a loop that makes it keeps. The
-- heads are 1 .. H, and 0 is none.
use Prim.Native.Nat.{ℕ, zero, suc, ◌<◌, ◌≤◌}
use Rattle.std.specs.Prelude.{◌≡◌, Bool, true, false, List, leb, get_or, if◌then◌else◌}
use Rattle.std.proofs.Math.Path.{refl}
use native.Mathlib.Omega.{arith}
use borrow.Author.Tests.{le-leb, lt-leb, leb-true}
use Rattle.ring_laws.specs.Lists.{test}

-- from i on, by at most k places: the first place that f holds of, none where a head comes before it
unfoldable pub first_from : (ℕ → Bool) → ℕ → List ℕ → ℕ → ℕ → ℕ
first_from f H t zero i = 0
first_from f H t (suc k) i = if f i then i else if leb i H then 0 else first_from f H t k (get_or t i 0)

-- the head of the ring on which the link x lies: the first head behind it, none where it lies on no ring; m is N + 1
abbrev pub head_at : ℕ → ℕ → ℕ → List ℕ → ℕ
head_at m H x t = first_from (λ i. leb i H) H t m (get_or t x 0)

-- ---- its clauses

module _ (f : ℕ → Bool) (H : ℕ) (t : List ℕ) where
  pub from_zero : (k i : ℕ) → k ≡ 0 → first_from f H t k i ≡ 0
  unfolding first_from
  from_zero zero i e = refl
  from_zero (suc k) i e = omega arith

  pub from_found : (k i : ℕ) → 0 < k → f i ≡ true → first_from f H t k i ≡ i
  unfolding first_from
  from_found zero i s e = omega arith
  from_found (suc k) i s e = rw e

  pub from_head : (k i : ℕ) → f i ≡ false → i ≤ H → first_from f H t k i ≡ 0
  unfolding first_from
  from_head zero i e l = refl
  from_head (suc k) i e l = rw (e, le-leb i H l)

  pub from_on : (k i : ℕ) → f i ≡ false → H < i → first_from f H t (suc k) i ≡ first_from f H t k (get_or t i 0)
  unfolding first_from
  from_on k i e l = rw (e, lt-leb i H l)

-- a walk to a head ends at one, or at none
pub head_found : (H : ℕ) (t : List ℕ) (k i : ℕ) → first_from (λ j. leb j H) H t k i ≤ H
unfolding first_from
head_found H t zero i = omega arith
head_found H t (suc k) i = test (leb i H) (λ e. rw e (leb-true i H e)) (λ e. rw e (head_found H t k (get_or t i 0)))

-- ---- the loop, begun at v with m places to go: it is at i, with k places left

pub record Walking (f : ℕ → Bool) (H m : ℕ) (t : List ℕ) (v k i : ℕ) : Type 0 where
  pub at : i < m
  pub rest : first_from f H t k i ≡ first_from f H t m v
