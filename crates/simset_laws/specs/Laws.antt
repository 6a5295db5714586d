-- The procedures do to the sets what the list operations say, for every table that spells sets.
use Rattle.std.specs.Prelude.{ℕ, ◌+◌, ◌-◌, ◌<◌, ◌≤◌, ◌≡◌, refl, ◌≢◌, List, [], ◌∷◌, length, get_or}
use Rattle.std.proofs.Common.{sym, ap, ◌∙◌, subst, inl, inr, ⊎_elim, arith, leb-true, le-leb}
use Rattle.std.proofs.lemmas.List.{length-map}
use Rattle.std.proofs.Math.ListN.{get_or-map}
use Rattle.ring_laws.specs.Lists.{In, without, behind, ahead, behind_none}
use Rattle.ring_laws.specs.Rings.{Head, Link, Rings, kind, next_place_lem}
use Rattle.ring_laws.specs.Table.{unlinked, linked_behind, linked_before}
use Rattle.ring_laws.specs.Stores.{sucs, pres}
use Rattle.ring_laws.specs.Spell.{spells_cong}
use Rattle.ring_laws.proofs.Spell.{spells_unlinked, spells_behind, spells_before}
use Rattle.ring_laws.specs.Spell as ring
use Rattle.model_laws.specs.Tables.{set_head, members_of, SpellsSets}
use Rattle.simset_laws.specs.Sets.{each_set, out_sets, put_behind, put_ahead}
use Rattle.simset_laws.specs.EachSet.{length_on, get_or_on, on_same, ahead_none}

-- the heads are 1 .. H
pub set_head_lem : (m H h : ℕ) → 0 < h → h ≤ H → H < m → Head m (set_head H) h
set_head_lem m H h a b l = record { some = a; within = omega arith; is = le-leb h H b }

module _ (m H : ℕ) (sets : List (List ℕ)) (t : List ℕ) (s : SpellsSets m H sets t) where
  abbrev S : ℕ → ℕ
  S = sucs m t

  abbrev P : ℕ → ℕ
  P = pres m t

  r : Rings m (set_head H) (members_of sets) (sucs m t) (pres m t)
  r = s.spelled.rings

  -- a place with a successor is on a ring; one without is on none
  pub stands : (y : ℕ) → y < m → S y ≢ 0 → (h : ℕ) × Head m (set_head H) h × In y (h ∷ members_of sets h)
  stands y l n =
      ⊎_elim (λ z. absurd (n (ap S z ∙ r.zero_s)))
      (⊎_elim (λ a. (y, a, inl refl)) (λ x. ⊎_elim (λ w. (w.0, w.1, inr w.2)) (λ z. absurd (n z.0)) (r.whole y x)))
      (kind m (set_head H) y l)

  pub nowhere : (y h : ℕ) → S y ≡ 0 → Head m (set_head H) h → In y (h ∷ members_of sets h) → ⊥
  nowhere y h z a i = omega (arith, next_place_lem m (set_head H) (members_of sets) S P r h y a i)

  -- the list at index i is that of head i + 1
  at_index : (i : ℕ) → i < length sets → H < m → Head m (set_head H) (1 + i)
  at_index i l b = set_head_lem m H (1 + i) (omega arith) (omega (arith, s.all)) b

  -- ---- out

  pub sets_out : (x : ℕ) → Link m (set_head H) x → SpellsSets m H (out_sets x sets) (unlinked m x t)
  sets_out x lx =
      record {
        all = length-map sets (without x) ∙ s.all;
        spelled =
            spells_cong m (set_head H) (λ h. without x (members_of sets h)) (members_of (out_sets x sets)) (unlinked m x t)
            (λ h a. sym (get_or-map (without x) sets (h - 1) []))
            (spells_unlinked m (set_head H) (members_of sets) t s.spelled x lx);
      }

  -- ---- put beside y

  put_at : (f : ℕ → List ℕ → List ℕ) (u : List ℕ) → ring.Spells m (set_head H) (λ g. f g (members_of sets g)) u
      → SpellsSets m H (each_set f 1 sets) u
  put_at f u sp =
      record {
        all = length_on f 1 sets ∙ s.all;
        spelled =
            spells_cong m (set_head H) (λ g. f g (members_of sets g)) (members_of (each_set f 1 sets)) u
            (λ g b.
            let i : g ≤ H = leb-true g H b.is in
            let e : 1 + (g - 1) ≡ g = omega (arith, b.some) in
            sym (get_or_on f 1 sets (g - 1) (omega (arith, b.some, s.all)) ∙ ap (λ (j : ℕ). f j (members_of sets g)) e))
            sp;
      }

  pub sets_behind : (x y h : ℕ) → Link m (set_head H) x → S x ≡ 0 → Head m (set_head H) h → In y (h ∷ members_of sets h)
      → SpellsSets m H (put_behind x y sets) (linked_behind m x y t)
  sets_behind x y h lx z a on =
      put_at (λ g l. behind y x g l) (linked_behind m x y t) (spells_behind m (set_head H) (members_of sets) t s.spelled x y h lx z a on)

  pub sets_ahead : (x y h : ℕ) → Link m (set_head H) x → S x ≡ 0 → Head m (set_head H) h → In y (h ∷ members_of sets h)
      → SpellsSets m H (put_ahead x y sets) (linked_before m x y t)
  sets_ahead x y h lx z a on =
      put_at (λ g l. ahead y x l g) (linked_before m x y t)
      (spells_before m (set_head H) (members_of sets) t s.spelled x y h lx z a (⊎_elim (λ e. inr e) (λ i. inl i) on))

  -- beside a y that stands nowhere nothing is put
  pub behind_nowhere : (x y : ℕ) → H < m → S y ≡ 0 → put_behind x y sets ≡ sets
  behind_nowhere x y b z =
      on_same (λ g l. behind y x g l) 1 sets
      (λ i l.
      let e : 1 + i - 1 ≡ i = omega arith in
      behind_none y x (1 + i) (get_or sets i [])
      (λ k. nowhere y (1 + i) z (at_index i l b) (subst (λ (j : ℕ). In y ((1 + i) ∷ get_or sets j [])) (sym e) k)))

  pub ahead_nowhere : (x y : ℕ) → H < m → S y ≡ 0 → put_ahead x y sets ≡ sets
  ahead_nowhere x y b z =
      on_same (λ g l. ahead y x l g) 1 sets
      (λ i l.
      let e : 1 + i - 1 ≡ i = omega arith in
      let off : In y ((1 + i) ∷ get_or sets i []) → ⊥ =
      λ k. nowhere y (1 + i) z (at_index i l b) (subst (λ (j : ℕ). In y ((1 + i) ∷ get_or sets j [])) (sym e) k) in
      ahead_none y x (1 + i) (get_or sets i []) (λ k. off (inr k)) (λ q. off (inl (sym q))))
