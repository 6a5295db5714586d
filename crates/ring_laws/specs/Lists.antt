-- Plain lists of numbers: members, removal, and insertion beside a member or at the head's end.
use Rattle.std.specs.Prelude.{if◌then◌else◌, ℕ, ◌<◌, ◌≤◌, ◌≡◌, refl, ◌≢◌, ◌⊎◌, Bool, true, false, List, [], ◌∷◌, ◌++◌, eqb, replicate}
use Rattle.std.proofs.Common.{sym, ap, ◌∙◌, inl, inr, ⊎_elim, arith, eq-eqb, ne_eqb}
use Rattle.std.proofs.Math.Decide.{ℕ_discrete, dec_lt}

-- ---- definitions

-- x is a member of the list
abbrev pub In : ℕ → List ℕ → Type 0
In x [] = ⊥
In x (y ∷ ys) = (x ≡ y) ⊎ In x ys

-- x taken out of a list
abbrev pub without : ℕ → List ℕ → List ℕ
without x [] = []
without x (y ∷ ys) = if eqb y x then without x ys else y ∷ without x ys

-- x put right behind y in the list that follows a: first in it where a itself is y
abbrev pub behind : ℕ → ℕ → ℕ → List ℕ → List ℕ
behind y x a [] = if eqb a y then x ∷ [] else []
behind y x a (z ∷ zs) = if eqb a y then x ∷ z ∷ zs else z ∷ behind y x z zs

-- x put right in front of y in the list that comes before b: last in it where b itself is y
abbrev pub ahead : ℕ → ℕ → List ℕ → ℕ → List ℕ
ahead y x [] b = if eqb b y then x ∷ [] else []
ahead y x (z ∷ zs) b = if eqb z y then x ∷ z ∷ zs else z ∷ ahead y x zs b

-- n zeros
abbrev pub zeros : ℕ → List ℕ
zeros n = replicate n 0

-- ---- case splits

pub decide : {A : Type 0} (a b : ℕ) → (a ≡ b → A) → (a ≢ b → A) → A
decide {A} a b f g = go (ℕ_discrete a b)
  where
    go : Dec (a ≡ b) → A
    go (yes e) = f e
    go (no n) = g n

pub below : {A : Type 0} (a b : ℕ) → (a < b → A) → (b ≤ a → A) → A
below {A} a b f g = go (dec_lt a b)
  where
    go : Dec (a < b) → A
    go (yes l) = f l
    go (no n) = g (omega arith)

pub test : {A : Type 0} (b : Bool) → (b ≡ true → A) → (b ≡ false → A) → A
test true f g = f refl
test false f g = g refl

-- a test cannot have both answers
pub clash : {A : Type 0} → false ≡ true → A
clash e = let z : ◌≡◌ {A = ℕ} 0 1 = cc in absurd (none z)
  where
    none : ◌≡◌ {A = ℕ} 0 1 → ⊥
    none z = omega arith

pub inside : {A : Type 0} (y : ℕ) (l : List ℕ) → (In y l → A) → ((In y l → ⊥) → A) → A
inside y [] f g = g (λ k. k)
inside y (x ∷ l) f g =
    decide y x (λ e. f (inl e)) (λ n. inside y l (λ i. f (inr i)) (λ o. g (⊎_elim n o)))

-- ---- removal

pub in_without : (y x : ℕ) (l : List ℕ) → In y (without x l) → In y l
in_without y x [] k = k
in_without y x (z ∷ l) k =
    decide z x
    (λ e. inr (in_without y x l (rw (eq-eqb z x e) at k)))
    (λ n. ⊎_elim (λ e. inl e) (λ k'. inr (in_without y x l k')) (rw (ne_eqb z x n) at k))

pub without_in : (y x : ℕ) (l : List ℕ) → y ≢ x → In y l → In y (without x l)
without_in y x [] n k = k
without_in y x (z ∷ l) n (inl e) = rw (ne_eqb z x (λ f. n (e ∙ f))) (inl e)
without_in y x (z ∷ l) n (inr k) =
    decide z x
    (λ e. rw (eq-eqb z x e) (without_in y x l n k))
    (λ f. rw (ne_eqb z x f) (inr (without_in y x l n k)))

pub without_none : (x : ℕ) (l : List ℕ) → (In x l → ⊥) → l ≡ without x l
without_none x [] f = refl
without_none x (y ∷ l) f =
    rw (ne_eqb y x (λ e. f (inl (sym e)))) (ap (λ (r : List ℕ). y ∷ r) (without_none x l (λ i. f (inr i))))

-- x itself is gone
pub without_gone : (x : ℕ) (l : List ℕ) (y : ℕ) → In y (without x l) → y ≢ x
without_gone x [] y k = absurd k
without_gone x (z ∷ l) y k =
    decide z x
    (λ e. without_gone x l y (rw (eq-eqb z x e) at k))
    (λ n. ⊎_elim (λ e f. n (sym e ∙ f)) (λ i. without_gone x l y i) (rw (ne_eqb z x n) at k))

-- ---- insertion

-- the members are x and those there were
pub in_behind : (y x a : ℕ) (l : List ℕ) (z : ℕ) → In z (behind y x a l) → (z ≡ x) ⊎ In z l
in_behind y x a [] z k = decide a y (λ e. rw (eq-eqb a y e) at k) (λ n. absurd (rw (ne_eqb a y n) at k))
in_behind y x a (w ∷ l) z k =
    decide a y
    (λ e. rw (eq-eqb a y e) at k)
    (λ n. ⊎_elim (λ e. inr (inl e)) (λ i. ⊎_elim (λ e. inl e) (λ j. inr (inr j)) (in_behind y x w l z i)) (rw (ne_eqb a y n) at k))

pub behind_old : (y x a : ℕ) (l : List ℕ) (z : ℕ) → In z l → In z (behind y x a l)
behind_old y x a [] z k = absurd k
behind_old y x a (w ∷ l) z k =
    decide a y
    (λ e. rw (eq-eqb a y e) (inr k))
    (λ n. rw (ne_eqb a y n) (⊎_elim (λ e. inl e) (λ i. inr (behind_old y x w l z i)) k))

pub behind_new : (y x a : ℕ) (l : List ℕ) → In y (a ∷ l) → In x (behind y x a l)
behind_new y x a [] (inl e) = rw (eq-eqb a y (sym e)) (inl refl)
behind_new y x a [] (inr k) = absurd k
behind_new y x a (w ∷ l) (inl e) = rw (eq-eqb a y (sym e)) (inl refl)
behind_new y x a (w ∷ l) (inr k) =
    decide a y (λ e. rw (eq-eqb a y e) (inl refl)) (λ n. rw (ne_eqb a y n) (inr (behind_new y x w l k)))

-- where y is no member, nothing is put in
pub behind_none : (y x a : ℕ) (l : List ℕ) → (In y (a ∷ l) → ⊥) → behind y x a l ≡ l
behind_none y x a [] f = rw (ne_eqb a y (λ e. f (inl (sym e))))
behind_none y x a (z ∷ l) f =
    rw (ne_eqb a y (λ e. f (inl (sym e)))) (ap (λ (r : List ℕ). z ∷ r) (behind_none y x z l (λ i. f (inr i))))

-- behind the head: in front of all
pub behind_head : (y x : ℕ) (l : List ℕ) → behind y x y l ≡ x ∷ l
behind_head y x [] = rw (eq-eqb y y refl)
behind_head y x (z ∷ l) = rw (eq-eqb y y refl)

-- in front of the head: at the end of the list
pub ahead_end : (y x : ℕ) (l : List ℕ) → (In y l → ⊥) → ahead y x l y ≡ l ++ (x ∷ [])
ahead_end y x [] f = rw (eq-eqb y y refl)
ahead_end y x (z ∷ l) f =
    rw (ne_eqb z y (λ e. f (inl (sym e)))) (ap (λ (r : List ℕ). z ∷ r) (ahead_end y x l (λ i. f (inr i))))
