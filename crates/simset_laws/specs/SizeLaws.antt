-- Request 2.5 on lists: how many members a list has after x was put beside y, and what it means that some set has too many.
use Rattle.std.specs.Prelude.{ℕ, zero, suc, ◌-◌, ◌<◌, ◌≤◌, ◌≡◌, refl, true, false, List, [], ◌∷◌, ltb, length, get_or, set}
use Rattle.std.proofs.Common.{sym, ap, inl, inr, ⊎_elim, arith, eq-eqb, ne_eqb, le-ltb, lt-ltb, ltb-false}
use Rattle.std.proofs.Math.ListN.{get_or-map}
use Rattle.ring_laws.specs.Lists.{In, without, behind, ahead, decide, test, clash, behind_none}
use Rattle.ring_laws.specs.Distinct.{without_le}
use Rattle.model.specs.Counts.{most_members}
use Rattle.model_laws.specs.Tables.{members_of, Limited}
use Rattle.simset_laws.specs.Sets.{out_sets, clear_sets, exceeds}
use Rattle.simset_laws.specs.EachSet.{ahead_none}

-- ---- one list: f puts a number beside y, where y is its head g or a member

pub record Puts (y : ℕ) (f : ℕ → List ℕ → List ℕ) : Type 0 where
  pub more : (g : ℕ) (l : List ℕ) → In y (g ∷ l) → length (f g l) ≡ suc (length l)
  pub same : (g : ℕ) (l : List ℕ) → (In y (g ∷ l) → ⊥) → length (f g l) ≡ length l

behind_more : (y x a : ℕ) (l : List ℕ) → In y (a ∷ l) → length (behind y x a l) ≡ suc (length l)
behind_more y x a [] (inl e) = rw (eq-eqb a y (sym e)) refl
behind_more y x a [] (inr k) = absurd k
behind_more y x a (z ∷ l) (inl e) = rw (eq-eqb a y (sym e)) refl
behind_more y x a (z ∷ l) (inr k) =
    decide a y (λ e. rw (eq-eqb a y e) refl) (λ n. rw (ne_eqb a y n) (ap suc (behind_more y x z l k)))

pub puts_behind : (x y : ℕ) → Puts y (λ g l. behind y x g l)
puts_behind x y =
    record { more = λ g l k. behind_more y x g l k; same = λ g l n. ap length (behind_none y x g l n) }

ahead_more : (y x b : ℕ) (l : List ℕ) → In y (b ∷ l) → length (ahead y x l b) ≡ suc (length l)
ahead_more y x b [] (inl e) = rw (eq-eqb b y (sym e)) refl
ahead_more y x b [] (inr k) = absurd k
ahead_more y x b (z ∷ l) k =
    decide z y
    (λ e. rw (eq-eqb z y e) refl)
    (λ n. rw (ne_eqb z y n)
    (ap suc (ahead_more y x b l (⊎_elim (λ e. inl e) (⊎_elim (λ e. absurd (n (sym e))) (λ i. inr i)) k))))

pub puts_ahead : (x y : ℕ) → Puts y (λ g l. ahead y x l g)
puts_ahead x y =
    record {
      more = λ g l k. ahead_more y x g l k;
      same = λ g l n. ap length (ahead_none y x g l (λ i. n (inr i)) (λ e. n (inl (sym e))));
    }

-- ---- all lists

pub exceeds_at : (sets : List (List ℕ)) (i : ℕ) → most_members < length (get_or sets i []) → exceeds sets ≡ true
exceeds_at [] i l = absurd (none l)
  where
    none : most_members < 0 → ⊥
    none h = omega arith
exceeds_at (k ∷ ks) zero l = rw (lt-ltb most_members (length k) l) refl
exceeds_at (k ∷ ks) (suc i) l =
    test (ltb most_members (length k)) (λ e. rw e refl) (λ e. rw e (exceeds_at ks i l))

pub exceeds_not : (sets : List (List ℕ)) → ((i : ℕ) → length (get_or sets i []) ≤ most_members) → exceeds sets ≡ false
exceeds_not [] f = refl
exceeds_not (k ∷ ks) f = rw (le-ltb most_members (length k) (f 0)) (exceeds_not ks (λ i. f (suc i)))

pub at_most : (sets : List (List ℕ)) → exceeds sets ≡ false → (i : ℕ) → length (get_or sets i []) ≤ most_members
at_most [] e i = omega arith
at_most (k ∷ ks) e i =
    test (ltb most_members (length k))
    (λ q. clash (sym (rw q at e)))
    (λ q. go i (ltb-false most_members (length k) q) (at_most ks (rw q at e)))
  where
    go : (j : ℕ) → length k ≤ most_members → ((n : ℕ) → length (get_or ks n []) ≤ most_members) → length (get_or (k ∷ ks) j []) ≤ most_members
    go zero l f = l
    go (suc j) l f = f j

-- ---- out and clear leave no more members than there were

pub out_few : (x : ℕ) (sets : List (List ℕ)) (h : ℕ) → length (members_of (out_sets x sets) h) ≤ length (members_of sets h)
out_few x sets h = omega (arith, ap length (get_or-map (without x) sets (h - 1) []), without_le x (get_or sets (h - 1) []))

pub out_limited : (x : ℕ) (sets : List (List ℕ)) → Limited sets → Limited (out_sets x sets)
out_limited x sets l h = omega (arith, out_few x sets h, l h)

emptied : (sets : List (List ℕ)) (i j : ℕ) → length (get_or (set sets i []) j []) ≤ length (get_or sets j [])
emptied [] i j = omega arith
emptied (l ∷ ls) zero zero = omega arith
emptied (l ∷ ls) zero (suc j) = omega arith
emptied (l ∷ ls) (suc i) zero = omega arith
emptied (l ∷ ls) (suc i) (suc j) = emptied ls i j

pub clear_few : (x : ℕ) (sets : List (List ℕ)) (h : ℕ) → length (members_of (clear_sets x sets) h) ≤ length (members_of sets h)
clear_few x sets h = emptied sets (x - 1) (h - 1)

pub clear_limited : (x : ℕ) (sets : List (List ℕ)) → Limited sets → Limited (clear_sets x sets)
clear_limited x sets l h = omega (arith, clear_few x sets h, l h)
