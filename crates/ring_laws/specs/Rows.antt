-- The rings of heads that follow each other, as a list of lists; together their members are distinct.
use Prim.Native.Nat.{ℕ, zero, suc, ◌+◌, ◌-◌, ◌<◌, ◌≤◌}
use Rattle.std.specs.Prelude.{◌≡◌, ◌≢◌, Bool, false, List, [], ◌∷◌, eqb, length, get_or}
use Rattle.std.proofs.Math.Path.{refl}
use Rattle.std.proofs.Common.{⊎_elim}
use native.Mathlib.Omega.{arith}
use borrow.Author.Tests.{eq-eqb, ne_eqb, lt-ltb, le-ltb}
use Rattle.ring_laws.specs.Lists.{In}
use Rattle.ring_laws.specs.Chain.{Chain}
use Rattle.ring_laws.specs.Rings.{Head, Link}
use Rattle.ring_laws.specs.Judge.{walk, closed}
use Rattle.ring_laws.specs.Distinct.{joined, in_left, in_right, in_either}

-- the n heads from g, and the links lo .. hi - 1
pub record Layout (m : ℕ) (is_head : ℕ → Bool) (n g lo hi : ℕ) : Type 0 where
  pub head_in : (h : ℕ) → Head m is_head h → (g ≤ h) × (h < g + n)
  pub in_head : (h : ℕ) → g ≤ h → h < g + n → Head m is_head h
  pub link_in : (x : ℕ) → Link m is_head x → (lo ≤ x) × (x < hi)
  pub in_link : (x : ℕ) → lo ≤ x → x < hi → Link m is_head x
  pub low : 0 < lo
  pub span : lo ≤ hi

-- the ring of g
pub record Row (m : ℕ) (is_head : ℕ → Bool) (S P : ℕ → ℕ) (g : ℕ) (l : List ℕ) : Type 0 where
  pub head : Head m is_head g
  pub chain : Chain S P g l g
  pub links : (y : ℕ) → In y l → Link m is_head y

abbrev pub Rows : (m : ℕ) → (ℕ → Bool) → (S P : ℕ → ℕ) → ℕ → List (List ℕ) → Type 0
Rows m is_head S P g [] = Unit {0}
Rows m is_head S P g (l ∷ ls) = Row m is_head S P g l × Rows m is_head S P (suc g) ls

-- none of the lists has more than most members
abbrev pub AtMost : ℕ → List (List ℕ) → Type 0
AtMost most ls = (i : ℕ) → length (get_or ls i []) ≤ most

-- ---- by index

pub at_most_more : (most : ℕ) (l : List ℕ) (ls : List (List ℕ)) → length l ≤ most → AtMost most ls → AtMost most (l ∷ ls)
at_most_more most l ls a f zero = a
at_most_more most l ls a f (suc i) = f i

pub in_at : (y i : ℕ) (ls : List (List ℕ)) → In y (get_or ls i []) → In y (joined ls)
in_at y i [] k = absurd k
in_at y zero (l ∷ ls) k = in_left y l (joined ls) k
in_at y (suc i) (l ∷ ls) k = in_right y l (joined ls) (in_at y i ls k)

pub at_in : (y : ℕ) (ls : List (List ℕ)) → In y (joined ls) → (i : ℕ) × (i < length ls) × In y (get_or ls i [])
at_in y [] k = absurd k
at_in y (l ∷ ls) k =
    ⊎_elim (λ i. (0, omega arith, i)) (λ i. let r = at_in y ls i in (suc r.0, omega (arith, r.1), r.2)) (in_either y l (joined ls) k)

-- ---- the judge's walk over the heads

module _ (S P : ℕ → ℕ) (lo hi most : ℕ) where
  pub closed_none : (g k : ℕ) → closed S P lo hi most 0 g k ≡ eqb k 0
  unfolding closed
  closed_none g k = refl

  pub closed_broken : (n g k : ℕ) → walk S P lo hi g k g ≡ 0 → closed S P lo hi most (suc n) g k ≡ false
  unfolding closed
  closed_broken n g k e = rw (eq-eqb (walk S P lo hi g k g) 0 e)

  -- k - r links lie on the ring of g: more than may be
  pub closed_long : (n g k r : ℕ) → walk S P lo hi g k g ≡ suc r → most < k - r → closed S P lo hi most (suc n) g k ≡ false
  unfolding closed
  closed_long n g k r e l =
      let z : suc r ≢ 0 = λ z. omega arith in
      let p : suc r - 1 ≡ r = omega arith in
      rw (e, ne_eqb (suc r) 0 z, p, lt-ltb most (k - r) l)

  pub closed_on : (n g k r : ℕ) → walk S P lo hi g k g ≡ suc r → k - r ≤ most
      → closed S P lo hi most (suc n) g k ≡ closed S P lo hi most n (suc g) r
  unfolding closed
  closed_on n g k r e l =
      let z : suc r ≢ 0 = λ z. omega arith in
      let p : suc r - 1 ≡ r = omega arith in
      rw (e, ne_eqb (suc r) 0 z, p, le-ltb most (k - r) l)

pub record Closed (m : ℕ) (is_head : ℕ → Bool) (S P : ℕ → ℕ) (most n g k : ℕ) : Type 0 where
  pub lists : List (List ℕ)
  pub all : length lists ≡ n
  pub rows : Rows m is_head S P g lists
  pub limited : AtMost most lists
  pub count : length (joined lists) ≡ k
