-- Clear empties the list of its head: the fuel never runs out.
use Rattle.std.specs.Prelude.{ℕ, zero, suc, ◌+◌, ◌-◌, ◌<◌, ◌≤◌, ◌≡◌, refl, List, [], ◌∷◌, length, get_or, set}
use Rattle.std.proofs.Common.{sym, ap, ◌∙◌, subst, inl, arith, length-set, ext_get_or, get_or-set_same, get_or-set_other, set-set, leb-true, eq-eqb}
use Rattle.std.proofs.lemmas.List.{length-map, set-get_or}
use Rattle.std.proofs.Math.ListN.{get_or-map}
use Rattle.ring_laws.specs.Lists.{In, without, decide, without_none}
use Rattle.ring_laws.specs.Chain.{Chain}
use Rattle.ring_laws.specs.Rings.{Head, Link, Rings, rings_apart, rings_dist}
use Rattle.ring_laws.specs.Table.{unlinked}
use Rattle.ring_laws.specs.Stores.{sucs, pres, suc_at}
use Rattle.model_laws.specs.Tables.{set_head, members_of, SpellsSets}
use Rattle.simset_laws.specs.Sets.{out_sets, clear_sets}
use Rattle.simset_laws.specs.Procedures.{clearing}
use Rattle.simset_laws.specs.Moves.{clearing_done, clearing_on}
use Rattle.simset_laws.specs.Laws.{set_head_lem, sets_out}

module _ (m H : ℕ) (sets : List (List ℕ)) (t : List ℕ) (s : SpellsSets m H sets t) (b : H < m) (h : ℕ) (a : Head m (set_head H) h) where
  r : Rings m (set_head H) (members_of sets) (sucs m t) (pres m t)
  r = s.spelled.rings

  h_at : h - 1 < length sets
  h_at = omega (arith, s.all, leb-true h H a.is, a.some)

  -- what follows the head in the table is its list's first
  pub head_first : (l : List ℕ) → members_of sets h ≡ l → Chain (sucs m t) (pres m t) h l h
  head_first l e = subst (λ (k : List ℕ). Chain (sucs m t) (pres m t) h k h) e (r.ring h a)

  -- the first taken out of every list is the first taken out of the head's
  pub out_first : (z : ℕ) (l : List ℕ) → members_of sets h ≡ z ∷ l → out_sets z sets ≡ set sets (h - 1) l
  out_first z l e =
      ext_get_or [] (out_sets z sets) (set sets (h - 1) l)
      (length-map sets (without z) ∙ sym (length-set sets (h - 1) l))
      (λ i k.
      let il : i < length sets = omega (arith, length-map sets (without z)) in
      get_or-map (without z) sets i []
      ∙ decide i (h - 1)
      (λ q. ap (λ (j : ℕ). without z (get_or sets j [])) q
      ∙ ap (without z) e
      ∙ own
      ∙ sym (ap (λ (j : ℕ). get_or (set sets (h - 1) l) j []) q ∙ get_or-set_same sets (h - 1) l [] h_at))
      (λ n. sym (without_none z (get_or sets i []) (λ j. n (other i il j)))
      ∙ sym (get_or-set_other sets (h - 1) i l [] n)))
    where
      first_only : In z l → ⊥
      first_only = (rw e at (rings_dist m (set_head H) (members_of sets) (sucs m t) (pres m t) r h a).1).0

      own : without z (z ∷ l) ≡ l
      own = rw (eq-eqb z z refl) (sym (without_none z l first_only))

      other : (i : ℕ) → i < length sets → In z (get_or sets i []) → i ≡ h - 1
      other i il j =
          let w : 1 + i - 1 ≡ i = omega arith in
          let g : Head m (set_head H) (1 + i) = set_head_lem m H (1 + i) (omega arith) (omega (arith, s.all)) b in
          let q : 1 + i ≡ h =
          rings_apart m (set_head H) (members_of sets) (sucs m t) (pres m t) r (1 + i) h z g a
          (subst (λ (k : ℕ). In z (get_or sets k [])) (sym w) j) (rw e (inl refl)) in
          omega arith

-- the fuel is at least the length of the list
pub clear_list : (m H k : ℕ) (sets : List (List ℕ)) (t : List ℕ) (s : SpellsSets m H sets t) → H < m → (h : ℕ) (a : Head m (set_head H) h)
    → (l : List ℕ) → members_of sets h ≡ l → length l ≤ k → SpellsSets m H (clear_sets h sets) (clearing m h k t)
clear_list m H k sets t s b h a [] e f =
    let c = head_first m H sets t s b h a [] e in
    let q : set sets (h - 1) [] ≡ sets = ap (set sets (h - 1)) (sym e) ∙ set-get_or sets (h - 1) [] in
    rw (clearing_done m h k t (sym (suc_at m t h a.within) ∙ c.next), q) s
clear_list m H zero sets t s b h a (z ∷ l) e f = absurd (none f)
  where
    none : suc (length l) ≤ 0 → ⊥
    none g = omega arith
clear_list m H (suc k) sets t s b h a (z ∷ l) e f =
    let c = head_first m H sets t s b h a (z ∷ l) e in
    let first : get_or t h 0 ≡ z = sym (suc_at m t h a.within) ∙ c.0.next in
    let in_h : In z (members_of sets h) = rw e (inl refl) in
    let lz : Link m (set_head H) z = s.spelled.rings.only h z a in_h in
    let d = rings_dist m (set_head H) (members_of sets) (sucs m t) (pres m t) s.spelled.rings h a in
    let q : out_sets z sets ≡ set sets (h - 1) l = out_first m H sets t s b h a z l e in
    let o : SpellsSets m H (set sets (h - 1) l) (unlinked m z t) = rw q at (sets_out m H sets t s z lz) in
    let now : members_of (set sets (h - 1) l) h ≡ l = get_or-set_same sets (h - 1) l [] (h_at m H sets t s b h a) in
    let rest = clear_list m H k (set sets (h - 1) l) (unlinked m z t) o b h a l now (omega arith) in
    rw (clearing_on m h k t (λ g. d.0 (subst (λ (j : ℕ). In j (members_of sets h)) (sym first ∙ g) in_h)), first)
    (rw (set-set sets (h - 1) l []) at rest)
