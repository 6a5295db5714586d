-- Laws of the list operations, list by list.
use Rattle.std.specs.Prelude.{ℕ, zero, suc, ◌+◌, ◌<◌, ◌≡◌, refl, ◌≢◌, false, List, [], ◌∷◌, length, get_or}
use Rattle.std.proofs.Common.{sym, ap, ap₂, ◌∙◌, subst, inl, inr, arith, not-suc-le-zero, ne_eqb}
use Rattle.ring_laws.specs.Lists.{In, ahead, test}
use Rattle.ring_laws.specs.Tabulate.{has, has_in, in_has}
use Rattle.simset_laws.specs.Sets.{each_set, where_in}

pub length_on : (f : ℕ → List ℕ → List ℕ) (n : ℕ) (ls : List (List ℕ)) → length (each_set f n ls) ≡ length ls
length_on f n [] = refl
length_on f n (l ∷ ls) = ap suc (length_on f (suc n) ls)

pub get_or_on : (f : ℕ → List ℕ → List ℕ) (n : ℕ) (ls : List (List ℕ)) (i : ℕ) → i < length ls
    → get_or (each_set f n ls) i [] ≡ f (n + i) (get_or ls i [])
get_or_on f n [] i l = absurd (not-suc-le-zero l)
get_or_on f n (k ∷ ls) zero l = ap (λ (j : ℕ). f j k) (omega arith)
get_or_on f n (k ∷ ls) (suc i) l =
    get_or_on f (suc n) ls i (omega arith) ∙ ap (λ (j : ℕ). f j (get_or ls i [])) (omega arith)

-- where f changes no list, nothing is changed
pub on_same : (f : ℕ → List ℕ → List ℕ) (n : ℕ) (ls : List (List ℕ)) → ((i : ℕ) → i < length ls → f (n + i) (get_or ls i []) ≡ get_or ls i [])
    → each_set f n ls ≡ ls
on_same f n [] g = refl
on_same f n (l ∷ ls) g =
    ap₂ (λ (k : List ℕ) (ks : List (List ℕ)). k ∷ ks)
    (subst (λ (j : ℕ). f j l ≡ l) (omega arith) (g 0 (omega arith)))
    (on_same f (suc n) ls (λ i h. subst (λ (j : ℕ). f j (get_or ls i []) ≡ get_or ls i []) (omega arith) (g (suc i) (omega arith))))

pub ahead_none : (y x b : ℕ) (l : List ℕ) → (In y l → ⊥) → b ≢ y → ahead y x l b ≡ l
ahead_none y x b [] f n = rw (ne_eqb b y n)
ahead_none y x b (z ∷ l) f n =
    rw (ne_eqb z y (λ e. f (inl (sym e)))) (ap (λ (r : List ℕ). z ∷ r) (ahead_none y x b l (λ i. f (inr i)) n))

-- ---- the list where x stands

not_has : (x : ℕ) (l : List ℕ) → (In x l → ⊥) → has x l ≡ false
not_has x l f = test (has x l) (λ e. absurd (f (has_in x l e))) (λ e. e)

module _ (f : ℕ → List ℕ → ℕ) (x : ℕ) where
  pub where_none : (g : ℕ) (ls : List (List ℕ)) → ((j : ℕ) → j < length ls → In x ((g + j) ∷ get_or ls j []) → ⊥) → where_in f x g ls ≡ 0
  where_none g [] n = refl
  where_none g (l ∷ ls) n =
      let e : g + 0 ≡ g = omega arith in
      rw (not_has x (g ∷ l) (λ i. n 0 (omega arith) (rw e i)))
      (where_none (suc g) ls (λ j h i. let q : g + suc j ≡ suc g + j = omega arith in n (suc j) (omega arith) (rw q i)))

  pub where_at : (g : ℕ) (ls : List (List ℕ)) (k : ℕ) → k < length ls → In x ((g + k) ∷ get_or ls k [])
      → ((j : ℕ) → j < k → In x ((g + j) ∷ get_or ls j []) → ⊥) → where_in f x g ls ≡ f (g + k) (get_or ls k [])
  where_at g [] k l on n = absurd (not-suc-le-zero l)
  where_at g (m ∷ ls) zero l on n =
      let e : g + 0 ≡ g = omega arith in
      rw (in_has x (g ∷ m) (rw e at on)) (ap (λ (j : ℕ). f j m) (sym e))
  where_at g (m ∷ ls) (suc k) l on n =
      let e : g + 0 ≡ g = omega arith in
      let q : g + suc k ≡ suc g + k = omega arith in
      rw (not_has x (g ∷ m) (λ i. n 0 (omega arith) (rw e i)), q)
      (where_at (suc g) ls k (omega arith) (rw q at on)
      (λ j h i. let w : g + suc j ≡ suc g + j = omega arith in n (suc j) (omega arith) (rw w i)))
