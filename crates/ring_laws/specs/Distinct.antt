-- Lists of distinct numbers: how many there can be, and lists put together.
use Rattle.std.specs.Prelude.{ℕ, zero, suc, ◌<◌, ◌≤◌, refl, ◌⊎◌, List, [], ◌∷◌, ◌++◌, length}
use Rattle.std.proofs.Common.{sym, ap, inl, inr, ⊎_elim, arith, eq-eqb, ne_eqb}
use Rattle.ring_laws.specs.Lists.{In, without, decide, inside, in_without, without_in, without_none, without_gone}

-- no number stands twice
abbrev pub Dist : List ℕ → Type 0
Dist [] = Unit {0}
Dist (x ∷ l) = (In x l → ⊥) × Dist l

-- all the lists, one behind the other
abbrev pub joined : {A : Type 0} → List (List A) → List A
joined [] = []
joined (l ∷ ls) = l ++ joined ls

-- ---- how many

dist_without : (x : ℕ) (l : List ℕ) → Dist l → Dist (without x l)
dist_without x [] d = d
dist_without x (z ∷ l) d =
    decide z x
    (λ e. rw (eq-eqb z x e) (dist_without x l d.1))
    (λ n. rw (ne_eqb z x n) (λ i. d.0 (in_without z x l i), dist_without x l d.1))

length_without : (x : ℕ) (l : List ℕ) → Dist l → length l ≤ suc (length (without x l))
length_without x [] d = omega arith
length_without x (z ∷ l) d =
    decide z x
    (λ e. rw (eq-eqb z x e) (omega (arith, ap length (without_none x l (λ i. d.0 (rw e i))))))
    (λ n. rw (ne_eqb z x n) (omega (arith, length_without x l d.1)))

-- distinct numbers below n are at most n
pub pigeon : (n : ℕ) (l : List ℕ) → Dist l → ((y : ℕ) → In y l → y < n) → length l ≤ n
pigeon zero [] d f = omega arith
pigeon zero (x ∷ l) d f = omega (arith, f x (inl refl))
pigeon (suc n) l d f =
    omega (
      arith,
      length_without n l d,
      pigeon n (without n l) (dist_without n l d) (λ y i. omega (arith, f y (in_without y n l i), without_gone n l y i)),
    )

pub without_le : (x : ℕ) (l : List ℕ) → length (without x l) ≤ length l
without_le x [] = omega arith
without_le x (z ∷ l) =
    decide z x
    (λ e. rw (eq-eqb z x e) (omega (arith, without_le x l)))
    (λ n. rw (ne_eqb z x n) (omega (arith, without_le x l)))

pub without_lt : (x : ℕ) (l : List ℕ) → In x l → length (without x l) < length l
without_lt x [] k = absurd k
without_lt x (z ∷ l) (inl e) = rw (eq-eqb z x (sym e)) (omega (arith, without_le x l))
without_lt x (z ∷ l) (inr k) =
    decide z x
    (λ e. rw (eq-eqb z x e) (omega (arith, without_le x l)))
    (λ n. rw (ne_eqb z x n) (omega (arith, without_lt x l k)))

-- distinct members of a list are at most as many as it has
pub fits : (l z : List ℕ) → Dist l → ((y : ℕ) → In y l → In y z) → length l ≤ length z
fits [] z d f = omega arith
fits (x ∷ l) z d f =
    omega (
      arith,
      without_lt x z (f x (inl refl)),
      fits l (without x z) d.1 (λ y i. without_in y x z (λ e. d.0 (rw e at i)) (f y (inr i))),
    )

-- and are all of them, where they are as many
pub covers : (l z : List ℕ) → Dist l → ((y : ℕ) → In y l → In y z) → length z ≤ length l → (y : ℕ) → In y z → In y l
covers l z d f le y k =
    inside y l (λ i. i) (λ o. absurd (more (fits (y ∷ l) z (o, d) (λ w. ⊎_elim (λ e. rw e k) (f w)))))
  where
    more : suc (length l) ≤ length z → ⊥
    more h = omega arith

-- ---- lists put together

pub in_left : (y : ℕ) (a b : List ℕ) → In y a → In y (a ++ b)
in_left y [] b k = absurd k
in_left y (x ∷ a) b k = ⊎_elim (λ e. inl e) (λ i. inr (in_left y a b i)) k

pub in_right : (y : ℕ) (a b : List ℕ) → In y b → In y (a ++ b)
in_right y [] b k = k
in_right y (x ∷ a) b k = inr (in_right y a b k)

pub in_either : (y : ℕ) (a b : List ℕ) → In y (a ++ b) → In y a ⊎ In y b
in_either y [] b k = inr k
in_either y (x ∷ a) b (inl e) = inl (inl e)
in_either y (x ∷ a) b (inr k) = ⊎_elim (λ i. inl (inr i)) (λ i. inr i) (in_either y a b k)

pub dist_append : (a b : List ℕ) → Dist a → Dist b → ((y : ℕ) → In y a → In y b → ⊥) → Dist (a ++ b)
dist_append [] b d e f = e
dist_append (x ∷ a) b d e f =
    (λ k. ⊎_elim d.0 (f x (inl refl)) (in_either x a b k), dist_append a b d.1 e (λ y i j. f y (inr i) j))
