-- Lists given by a function of the place, and tests of membership.
use Rattle.std.specs.Prelude.{ℕ, zero, suc, ◌+◌, ◌<◌, ◌≤◌, ◌≡◌, refl, Bool, true, false, List, [], ◌∷◌, eqb, length, get_or, if◌then◌else◌}
use Rattle.std.proofs.Common.{sym, ap, ◌∙◌, inl, inr, ⊎_elim, arith, not-suc-le-zero, ext_get_or, eq-eqb, ne_eqb}
use Rattle.ring_laws.specs.Lists.{In, decide, clash}

-- the values of f at i, i + 1, .., n of them
abbrev pub listed : {A : Type 0} → (ℕ → A) → ℕ → ℕ → List A
listed f i zero = []
listed f i (suc n) = f i ∷ listed f (suc i) n

-- is the number in the list?
abbrev pub has : ℕ → List ℕ → Bool
has x [] = false
has x (y ∷ ys) = if eqb y x then true else has x ys

abbrev pub bit : Bool → ℕ
bit true = 1
bit false = 0

pub length_listed : {A : Type 0} (f : ℕ → A) (i n : ℕ) → length (listed f i n) ≡ n
length_listed f i zero = refl
length_listed f i (suc n) = ap suc (length_listed f (suc i) n)

pub listed_at : {A : Type 0} (f : ℕ → A) (d : A) (n i k : ℕ) → k < n → get_or (listed f i n) k d ≡ f (i + k)
listed_at f d zero i k h = absurd (not-suc-le-zero h)
listed_at f d (suc n) i zero h = ap f (omega arith)
listed_at f d (suc n) i (suc k) h = listed_at f d n (suc i) k (omega arith) ∙ ap f (omega arith)

-- ---- a table of p + 1 places, the first 0

pub table_at : (f : ℕ → ℕ) (p : ℕ) (t : List ℕ) → t ≡ 0 ∷ listed f 1 p → (y : ℕ) → 0 < y → y ≤ p → get_or t y 0 ≡ f y
table_at f p t e zero a b = absurd (not-suc-le-zero a)
table_at f p t e (suc i) a b = ap (λ (l : List ℕ). get_or l (suc i) 0) e ∙ listed_at f 0 p 1 i (omega arith) ∙ ap f (omega arith)

pub at_table : (f : ℕ → ℕ) (p : ℕ) (t : List ℕ) → length t ≡ p + 1 → get_or t 0 0 ≡ 0 → ((y : ℕ) → 0 < y → y ≤ p → get_or t y 0 ≡ f y)
    → t ≡ 0 ∷ listed f 1 p
at_table f p t len z g = ext_get_or 0 t (0 ∷ listed f 1 p) (omega (arith, length_listed f 1 p)) at
  where
    at : (i : ℕ) → i < length t → get_or t i 0 ≡ get_or (0 ∷ listed f 1 p) i 0
    at zero l = z
    at (suc i) l = g (suc i) (omega arith) (omega arith) ∙ ap f (omega arith) ∙ sym (listed_at f 0 p 1 i (omega arith))

pub length_table : (f : ℕ → ℕ) (p : ℕ) (t : List ℕ) → t ≡ 0 ∷ listed f 1 p → length t ≡ p + 1
length_table f p t e = ap length e ∙ omega (arith, length_listed f 1 p)

-- ---- the test of membership

pub has_in : (x : ℕ) (l : List ℕ) → has x l ≡ true → In x l
has_in x [] e = clash e
has_in x (y ∷ l) e = decide y x (λ f. inl (sym f)) (λ n. inr (has_in x l (rw (ne_eqb y x n) at e)))

pub in_has : (x : ℕ) (l : List ℕ) → In x l → has x l ≡ true
in_has x [] k = absurd k
in_has x (y ∷ l) k =
    decide y x (λ e. rw (eq-eqb y x e)) (λ n. rw (ne_eqb y x n) (⊎_elim (λ e. absurd (n (sym e))) (λ i. in_has x l i) k))

pub bit_one : (a b : Bool) → bit a ≡ bit b → a ≡ b
bit_one true true e = refl
bit_one false false e = refl
bit_one true false e = clash (let z : false ≡ true = absurd (none (sym e)) in z)
  where
    none : ◌≡◌ {A = ℕ} 0 1 → ⊥
    none z = omega arith
bit_one false true e = absurd (none e)
  where
    none : ◌≡◌ {A = ℕ} 0 1 → ⊥
    none z = omega arith
