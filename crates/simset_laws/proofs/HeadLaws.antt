-- The walk from a link to its head finds the head in whose list the link stands; what that head is, and how many clear removes.
use Rattle.std.specs.Prelude.{ℕ, zero, suc, ◌<◌, ◌≤◌, ◌≡◌, refl, ◌⊎◌, Bool, List, [], ◌∷◌, leb, length, get_or}
use Rattle.std.proofs.Common.{sym, ap, ◌∙◌, inl, inr, ⊎_elim, arith, le-leb, leb-true, leb-false}
use Rattle.std.proofs.lemmas.Bool.{lt-leb}
use Rattle.ring_laws.specs.Lists.{In}
use Rattle.ring_laws.specs.Chain.{Chain}
use Rattle.ring_laws.specs.Rings.{Head, Link}
use Rattle.ring_laws.specs.Stores.{sucs, pres, suc_at}
use Rattle.ring_laws.proofs.Spell.{spells_few}
use Rattle.model_laws.specs.Tables.{set_head, members_of, SpellsSets}
use Rattle.simset_laws.specs.Walk.{first_from, head_at, from_found, from_on}
use Rattle.simset_laws.specs.Told.{head_of}
use Rattle.simset_laws.specs.Laws.{nowhere}
use Rattle.simset_laws.specs.QueryLaws.{found, lost}

-- ---- along the ring of h

module _ (m H : ℕ) (t : List ℕ) (h : ℕ) (head : h ≤ H) where
  abbrev is_head : ℕ → Bool
  is_head i = leb i H

  abbrev to_head : ℕ → ℕ → ℕ
  to_head k i = first_from is_head H t k i

  -- from a on come the members l, then h
  along : (a : ℕ) (l : List ℕ) (k : ℕ) → Chain (sucs m t) (pres m t) a l h → a < m → ((y : ℕ) → In y l → (H < y) × (y < m))
      → length l < k → to_head k (get_or t a 0) ≡ h
  along a [] k c b f few =
      ap (to_head k) (sym (suc_at m t a b) ∙ c.next) ∙ from_found is_head H t k h (omega arith) (le-leb h H head)
  along a (z ∷ l) zero c b f few = omega arith
  along a (z ∷ l) (suc k) c b f few =
      let over : H < z = (f z (inl refl)).0 in
      ap (to_head (suc k)) (sym (suc_at m t a b) ∙ c.0.next)
      ∙ from_on is_head H t k z (lt-leb z H over) over
      ∙ along z l k c.1 (f z (inl refl)).1 (λ y i. f y (inr i)) (omega arith)

  from_member : (a : ℕ) (l : List ℕ) (k x : ℕ) → Chain (sucs m t) (pres m t) a l h → ((y : ℕ) → In y l → (H < y) × (y < m))
      → In x l → length l ≤ k → to_head k (get_or t x 0) ≡ h
  from_member a [] k x c f i few = absurd i
  from_member a (z ∷ l) k x c f (inl e) few =
      ap (λ (j : ℕ). to_head k (get_or t j 0)) e
      ∙ along z l k c.1 (f z (inl refl)).1 (λ y i. f y (inr i)) (omega arith)
  from_member a (z ∷ l) k x c f (inr i) few = from_member z l k x c.1 (λ y j. f y (inr j)) i (omega arith)

-- ---- of the sets

module _ (m H : ℕ) (sets : List (List ℕ)) (t : List ℕ) (s : SpellsSets m H sets t) (b : H < m) where
  -- the walk from x ends at the head in whose list x stands
  pub head_at_lem : (x h : ℕ) → Head m (set_head H) h → In x (members_of sets h) → head_at m H x t ≡ h
  head_at_lem x h a i =
      from_member m H t h (leb-true h H a.is) h (members_of sets h) m x (s.spelled.rings.ring h a)
      (λ y j.
      let k : Link m (set_head H) y = s.spelled.rings.only h y a j in
      (leb-false y H k.isn't, k.within))
      i (spells_few m (set_head H) (members_of sets) t s.spelled h a)

  pub head_in : (x h : ℕ) → Head m (set_head H) h → In x (members_of sets h) → head_of x sets ≡ h
  head_in x h a i = found m H sets t s b (λ g l. g) x h a (inr i)

  module _ (x : ℕ) (k : Link m (set_head H) x) where
    off : sucs m t x ≡ 0 → head_of x sets ≡ 0
    off z = lost m H sets t s b (λ g l. g) x z

    -- the walk on the table finds what the lists say
    pub head_says : head_at m H x t ≡ head_of x sets
    head_says =
        ⊎_elim
        (λ w. head_at_lem x w.0 w.1 w.2 ∙ sym (head_in x w.0 w.1 w.2))
        (λ z.
        ap (first_from (λ i. leb i H) H t m) (sym (suc_at m t x k.within) ∙ z.0)
        ∙ from_found (λ i. leb i H) H t m 0 (omega arith) (le-leb 0 H (omega arith))
        ∙ sym (off z.0))
        (s.spelled.rings.whole x k)

    -- "the head of the set that the link left, or none if it was in none"
    pub head_or_none : (Head m (set_head H) (head_of x sets) × In x (members_of sets (head_of x sets)))
        ⊎ ((head_of x sets ≡ 0) × ((h : ℕ) → Head m (set_head H) h → In x (members_of sets h) → ⊥))
    head_or_none =
        ⊎_elim
        (λ w. inl (rw (head_in x w.0 w.1 w.2) (w.1, w.2)))
        (λ z. inr (off z.0, λ h a i. nowhere m H sets t s x h z.0 a (inr i)))
        (s.spelled.rings.whole x k)
