-- Accumulators as structs and the same as words: a copy from the one list to the other, one accumulator after the other, and accum in both.
use Rattle.std.specs.Prelude.{ℕ, suc, ◌+◌, ◌*◌, ◌≤◌, ◌<◌, ◌≡◌, refl, Bool, true, false, not, List, [], ◌∷◌, ◌++◌, eqb, leb, length, get_or, set, take, drop, ℤ, pos}
use Rattle.std.proofs.Common.{sym, ap, ◌∙◌, subst, arith, length-set, take-add, drop-cons, take_all, take-suc, take-suc-set, get_or-set_same, get_or-set_other}
use borrow.Author.Tests.{leb-true, not-false}
use Rattle.std.proofs.lemmas.List.{take-set-le}
use Rattle.model.specs.Counts.{both}
use Rattle.accum_laws.specs.declared.Accumulator.{Accumulator}
use Rattle.accum_laws.specs.Keeps.{zero_accumulator}
use Rattle.accum_laws.specs.Flat.{words_at, with_words, with_length}
use Rattle.accum_laws.specs.Triples.{flat}
use Rattle.accum_laws.specs.Calls.{count_fine, list_fine}
use Rattle.accum_laws.specs.Promise.{words_are}

pub flat_append : (xs ys : List Accumulator) → flat (xs ++ ys) ≡ flat xs ++ flat ys
flat_append [] ys = refl
flat_append (x ∷ xs) ys = ap (λ (r : List ℤ). x.a ∷ x.b ∷ x.c ∷ r) (flat_append xs ys)

-- ---- three words more

one_more_lem : (n : ℕ) → suc n ≡ n + 1
one_more_lem n = omega arith

two_more : (n : ℕ) → suc (suc n) ≡ n + 2
two_more n = omega arith

three_more : (n : ℕ) → suc (suc (suc n)) ≡ n + 3
three_more n = omega arith

next_three : (i : ℕ) → 3 * i + 3 ≡ 3 * suc i
next_three i = omega arith

-- the words from a place on, where there are three
three_left : (l : List ℤ) (n : ℕ) → n + 3 ≤ length l
    → drop n l ≡ get_or l n (pos 0) ∷ get_or l (n + 1) (pos 0) ∷ get_or l (n + 2) (pos 0) ∷ drop (n + 3) l
three_left l n h =
    rw (sym (one_more_lem n), sym (two_more n), sym (three_more n))
    (drop-cons l n (pos 0) (omega (arith, h))
    ∙ ap (λ (r : List ℤ). get_or l n (pos 0) ∷ r) (drop-cons l (suc n) (pos 0) (omega (arith, h))
    ∙ ap (λ (r : List ℤ). get_or l (suc n) (pos 0) ∷ r) (drop-cons l (suc (suc n)) (pos 0) (omega (arith, h)))))

three_taken : (l : List ℤ) (n : ℕ) → n + 3 ≤ length l → take (n + 3) l ≡ take n l ++ flat (words_at n l ∷ [])
unfolding words_at
three_taken l n h = take-add n 3 l ∙ ap (λ (r : List ℤ). take n l ++ take 3 r) (three_left l n h)

-- an accumulator whose words were put at a place is there, and the words before it stay
module _ (n : ℕ) (v : Accumulator) (l : List ℤ) (h : n + 3 ≤ length l) where
  abbrev one : List ℤ
  one = set l n v.a

  abbrev two : List ℤ
  two = set one (n + 1) v.b

  first : get_or (set two (n + 2) v.c) n (pos 0) ≡ v.a
  first =
      get_or-set_other two (n + 2) n v.c (pos 0) (λ e. omega arith) ∙ get_or-set_other one (n + 1) n v.b (pos 0) (λ e. omega arith)
      ∙ get_or-set_same l n v.a (pos 0) (omega (arith, h))

  second : get_or (set two (n + 2) v.c) (n + 1) (pos 0) ≡ v.b
  second =
      get_or-set_other two (n + 2) (n + 1) v.c (pos 0) (λ e. omega arith)
      ∙ get_or-set_same one (n + 1) v.b (pos 0) (omega (arith, h, length-set l n v.a))

  third : get_or (set two (n + 2) v.c) (n + 2) (pos 0) ≡ v.c
  third = get_or-set_same two (n + 2) v.c (pos 0) (omega (arith, h, length-set l n v.a, length-set one (n + 1) v.b))

  with_there : words_at n (with_words n v l) ≡ v
  unfolding words_at with_words
  with_there = λ i. record { a = first i; b = second i; c = third i }

with_before : (n : ℕ) (v : Accumulator) (l : List ℤ) → take n (with_words n v l) ≡ take n l
unfolding with_words
with_before n v l =
    take-set-le n (set (set l n v.a) (n + 1) v.b) (n + 2) v.c (omega arith)
    ∙ take-set-le n (set l n v.a) (n + 1) v.b (omega arith)
    ∙ take-set-le n l n v.a (omega arith)

-- ---- a copy of n accumulators, of which i are done

pub record Copied (n i : ℕ) (xs : List Accumulator) (l : List ℤ) : Type 0 where
  pub within : i ≤ n
  pub room : n ≤ length xs
  pub words : length l ≡ 3 * n
  pub are : flat (take i xs) ≡ take (3 * i) l

pub copied_start : (n : ℕ) (xs : List Accumulator) (l : List ℤ) → n ≤ length xs → length l ≡ 3 * n → Copied n 0 xs l
copied_start n xs l h e = record { within = omega arith; room = h; words = e; are = refl }

module _ (n i : ℕ) (xs : List Accumulator) (l : List ℤ) (c : Copied n i xs l) (k : i < n) where
  at_three : 3 * i + 3 ≤ length l
  at_three = omega (arith, k, c.words)

  at_one : i < length xs
  at_one = omega (arith, k, c.room)

  -- one accumulator more on both sides
  grows : (v : Accumulator) (ys : List Accumulator) (m : List ℤ) → length ys ≡ length xs → length m ≡ length l
      → take (suc i) ys ≡ take i xs ++ (v ∷ []) → take (3 * i + 3) m ≡ take (3 * i) l ++ flat (v ∷ []) → Copied n (i + 1) ys m
  grows v ys m d e p q = record {
    within = omega (arith, k);
    room = omega (arith, d, c.room);
    words = e ∙ c.words;
    are = ap (λ (j : ℕ). flat (take j ys)) (sym (one_more_lem i)) ∙ ap flat p ∙ flat_append (take i xs) (v ∷ [])
        ∙ ap (λ (w : List ℤ). w ++ flat (v ∷ [])) c.are ∙ sym q
        ∙ ap (λ (j : ℕ). take j m) (next_three i ∙ ap (λ (j : ℕ). 3 * j) (one_more_lem i));
  }

  -- from words to structs
  pub copied_taken : (v : Accumulator) → v ≡ words_at (3 * i) l → Copied n (i + 1) (set xs i v) l
  copied_taken v e =
      grows v (set xs i v) l (length-set xs i v) refl (take-suc-set xs i v at_one)
      (three_taken l (3 * i) at_three ∙ ap (λ (w : Accumulator). take (3 * i) l ++ flat (w ∷ [])) (sym e))

  -- and from structs to words
  pub copied_put : (m : List ℤ) → m ≡ with_words (3 * i) (get_or xs i zero_accumulator) l → Copied n (i + 1) xs m
  copied_put m f =
      let v = get_or xs i zero_accumulator in
      subst (Copied n (i + 1) xs) (sym f)
      (grows v xs (with_words (3 * i) v l) refl (with_length (3 * i) v l) (take-suc xs i zero_accumulator at_one)
      (three_taken (with_words (3 * i) v l) (3 * i) (omega (arith, at_three, with_length (3 * i) v l))
      ∙ ap (λ (w : List ℤ). w ++ flat (words_at (3 * i) (with_words (3 * i) v l) ∷ [])) (with_before (3 * i) v l)
      ∙ ap (λ (w : Accumulator). take (3 * i) l ++ flat (w ∷ [])) (with_there (3 * i) v l at_three)))

pub copied_out : (n i : ℕ) (xs : List Accumulator) (l : List ℤ) → Copied n i xs l → n ≤ i → flat (take n xs) ≡ l
copied_out n i xs l c h =
    ap (λ (j : ℕ). flat (take j xs)) same ∙ c.are ∙ take_all (3 * i) l (omega (arith, c.words, h))
  where
    same : n ≡ i
    same = omega (arith, c.within, h)

-- ---- accum in both

-- a list that passed the test: 1 to 64 accumulators, three words for each
module _ (n m words : ℕ) (ok : Bool) (o : ok ≡ list_fine n words) (f : not ok ≡ false) (w : m ≡ n) where
  passed : list_fine n words ≡ true
  passed = sym o ∙ not-false ok f

  pub listed_in : m ≤ 64
  unfolding list_fine count_fine
  listed_in = omega (arith, w, leb-true n 64 (both (leb 1 n) (leb n 64) (both (count_fine n) (eqb words (3 * n)) passed).0).1)

  pub listed_within : (m ≤ 64) × (words ≡ 3 * m)
  listed_within = (listed_in, words_are n words passed ∙ ap (λ (j : ℕ). 3 * j) (sym w))
