-- The published statements on a table of 2 × m words: the successor of i stands at i, its predecessor at m + i; 0 is none.
use Rattle.std.specs.Prelude.{ℕ, zero, suc, ◌+◌, ◌*◌, ◌<◌, ◌≤◌, ◌≡◌, refl, List, eqb, length, get_or, set, if◌then◌else◌}
use Rattle.std.proofs.Common.{ap, arith, eq-eqb, ne_eqb}
use Rattle.ring_laws.specs.Lists.{test}

-- what the code needs to be safe: two halves of m words, and every word names a place
pub record Sound (m : ℕ) (t : List ℕ) : Type 0 where
  pub two : length t ≡ 2 * m
  pub inside : (i : ℕ) → get_or t i 0 < m

-- the table is as wanted, and is sound
pub record Made (m : ℕ) (want got : List ℕ) : Type 0 where
  pub is : got ≡ want
  pub sound : Sound m got

-- "SUC.PRED :- PRED; PRED.SUC :- SUC; SUC :- PRED :- none", with s the successor and p the predecessor of x
abbrev pub cut : ℕ → ℕ → ℕ → ℕ → List ℕ → List ℕ
cut m x s p t = set (set (set (set t (m + s) p) p s) x 0) (m + x) 0

-- "procedure out; if SUC ≠ none then"
unfoldable pub unlinked : ℕ → ℕ → List ℕ → List ℕ
unlinked m x t = if eqb (get_or t x 0) 0 then t else cut m x (get_or t x 0) (get_or t (m + x) 0) t

-- "PRED :- X; SUC :- X.SUC; SUC.PRED :- X.SUC :- this linkage", with y for X, s for X.SUC and x for this linkage
abbrev pub join : ℕ → ℕ → ℕ → ℕ → List ℕ → List ℕ
join m x y s t = set (set (set (set t (m + x) y) x s) (m + s) x) y x

-- what follow does once x is out and y is on a ring
unfoldable pub linked_behind : ℕ → ℕ → ℕ → List ℕ → List ℕ
linked_behind m x y t = join m x y (get_or t y 0) t

-- "SUC :- X; PRED :- X.PRED; PRED.SUC :- X.PRED :- this linkage", with y for X, p for X.PRED and x for this linkage
abbrev pub join_before : ℕ → ℕ → ℕ → ℕ → List ℕ → List ℕ
join_before m x y p t = set (set (set (set t x y) (m + x) p) p x) (m + y) x

-- what precede does once x is out and y is on a ring
unfoldable pub linked_before : ℕ → ℕ → ℕ → List ℕ → List ℕ
linked_before m x y t = join_before m x y (get_or t (m + y) 0) t

-- "SUC := PRED := this linkage", for a new head h
unfoldable pub self_linked : ℕ → ℕ → List ℕ → List ℕ
self_linked m h t = set (set t h h) (m + h) h

-- how many steps lead from i to h, at most k
unfoldable pub steps : List ℕ → ℕ → ℕ → ℕ → ℕ
steps t h zero i = 0
steps t h (suc k) i = if eqb i h then 0 else suc (steps t h k (get_or t i 0))

-- how many members the ring of h has
abbrev pub counted : ℕ → ℕ → List ℕ → ℕ
counted m h t = steps t h m (get_or t h 0)

-- ---- the clauses of steps

pub steps_zero : (t : List ℕ) (h i : ℕ) → steps t h 0 i ≡ 0
unfolding steps
steps_zero t h i = refl

pub steps_here : (t : List ℕ) (h k i : ℕ) → i ≡ h → steps t h k i ≡ 0
unfolding steps
steps_here t h zero i e = refl
steps_here t h (suc k) i e = rw (eq-eqb i h e)

pub steps_on : (t : List ℕ) (h k i : ℕ) → (i ≡ h → ⊥) → steps t h (suc k) i ≡ suc (steps t h k (get_or t i 0))
unfolding steps
steps_on t h k i n = rw (ne_eqb i h n)

-- fewer than a may be: a longer walk makes no more
pub steps_few : (t : List ℕ) (h a b i : ℕ) → a ≤ b → steps t h a i < a → steps t h b i ≡ steps t h a i
unfolding steps
steps_few t h zero b i le l = absurd (omega (arith, l))
steps_few t h (suc a) zero i le l = absurd (omega (arith, le))
steps_few t h (suc a) (suc b) i le l =
    test (eqb i h)
    (λ e. rw e)
    (λ e. let k : suc (steps t h a (get_or t i 0)) < suc a = rw e at l in
    rw e (ap suc (steps_few t h a b (get_or t i 0) (omega (arith, le)) (omega (arith, k)))))

-- as many as may be: a longer walk makes as many at least
pub steps_most : (t : List ℕ) (h a b i : ℕ) → a ≤ b → a ≤ steps t h a i → a ≤ steps t h b i
unfolding steps
steps_most t h zero b i le l = omega arith
steps_most t h (suc a) zero i le l = absurd (omega (arith, le))
steps_most t h (suc a) (suc b) i le l =
    test (eqb i h)
    (λ e. let k : suc a ≤ 0 = rw e at l in absurd (omega (arith, k)))
    (λ e. let k : suc a ≤ suc (steps t h a (get_or t i 0)) = rw e at l in
    let z = steps_most t h a b (get_or t i 0) (omega (arith, le)) (omega (arith, k)) in
    rw e (omega (arith, z)))
