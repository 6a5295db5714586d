-- The walk along a ring to its first process finds what the list says.
use Rattle.std.specs.Prelude.{ℕ, zero, suc, ◌+◌, ◌-◌, ◌<◌, ◌≤◌, ◌≡◌, refl, true, false, List, [], ◌∷◌, ltb, eqb, length, get_or}
use Rattle.std.proofs.Common.{sym, ap, ◌∙◌, inl, inr, arith, ne_eqb, le-ltb, leb-true, leb-false}
use Rattle.ring_laws.specs.Lists.{In, below, test}
use Rattle.ring_laws.specs.Chain.{Chain}
use Rattle.ring_laws.specs.Rings.{Head, on_place}
use Rattle.ring_laws.specs.Stores.{sucs, pres, suc_at}
use Rattle.ring_laws.proofs.Spell.{spells_few}
use Rattle.model.specs.declared.Counts.{Counts}
use Rattle.model.specs.Counts.{is_process, total}
use Rattle.model_laws.specs.Tables.{set_head, members_of, SpellsSets}
use Rattle.simset_laws.specs.Procedures.{link_or}
use Rattle.simset_laws.specs.Calls.{or_none}
use Rattle.simset_laws.specs.QueryLaws.{or_link, or_none_lem}
use Rattle.simset_laws.specs.Walk.{from_found, from_head, from_on}
use Rattle.sheet.specs.Accepted.{operand_base}
use Rattle.machine.specs.Operands.{first_process}
use Rattle.run_laws.specs.OnTables.{process_from, process_at, operand_with}

-- a head is no process: the walk ends there with none
at_head : (c : Counts) (links : List ℕ) (k i : ℕ) → i ≤ c.heads → process_from c links k i ≡ 0
at_head c links k i l = from_head (is_process c) c.heads links k i (rw (le-ltb c.heads i l)) l

-- where the first place is a process there is no walk
pub no_walk : (c : Counts) (links : List ℕ) (v : ℕ) → is_process c v ≡ true → v ≡ process_from c links (total c + 1) v
no_walk c links v e = sym (from_found (is_process c) c.heads links (total c + 1) v (omega arith) e)

-- a first member that is a process or none is what the walk finds
at_first_lem : (c : Counts) (links : List ℕ) (v : ℕ) → or_none (is_process c (link_or c.heads v)) (link_or c.heads v) ≡ true
    → process_from c links (total c + 1) v ≡ link_or c.heads v
at_first_lem c links v h =
    below c.heads v
    (λ l. let e : link_or c.heads v ≡ v = or_link c.heads v l in
    let p : is_process c v ≡ true = rw (e, ne_eqb v 0 (λ z. omega arith)) at h in
    sym (no_walk c links v p) ∙ sym e)
    (λ l. at_head c links (total c + 1) v l ∙ sym (or_none_lem c.heads v l))

-- so where an operand with no walk is a process or none, it is what the operation takes
pub at_hand_lem : (c : Counts) (links : List ℕ) (f v : ℕ)
    → or_none (is_process c (operand_with c false links f v)) (operand_with c false links f v) ≡ true
    → operand_with c true links f v ≡ operand_with c false links f v
unfolding operand_with
at_hand_lem c links f v h =
    test (ltb v operand_base)
    (λ e. rw e)
    (λ e. test (eqb v operand_base) (λ q. rw (e, q)) (λ q. rw (e, q) (at_first_lem c links (get_or links (v - operand_base) 0) (rw (e, q) at h))))

-- ---- the walk finds what the list says

module _ (c : Counts) (m : ℕ) (t : List ℕ) (h : ℕ) (head : h ≤ c.heads) where
  along : (a : ℕ) (l : List ℕ) (k : ℕ) → Chain (sucs m t) (pres m t) a l h → ((y : ℕ) → In y (a ∷ l) → y < m)
      → ((y : ℕ) → In y l → c.heads < y) → length l ≤ k
      → process_from c t k (get_or t a 0) ≡ first_process c l
  along a [] k ch b f few =
      ap (process_from c t k) (sym (suc_at m t a (b a (inl refl))) ∙ ch.next) ∙ at_head c t k h head
  along a (z ∷ l) zero ch b f few = omega arith
  along a (z ∷ l) (suc k) ch b f few =
      let e : get_or t a 0 ≡ z = sym (suc_at m t a (b a (inl refl))) ∙ ch.0.next in
      ap (process_from c t (suc k)) e
      ∙ test (is_process c z)
      (λ p. rw p (from_found (is_process c) c.heads t (suc k) z (omega arith) p))
      (λ p. rw p (from_on (is_process c) c.heads t k z p (f z (inl refl))
      ∙ along z l k ch.1 (λ y i. b y (inr i)) (λ y i. f y (inr i)) (omega arith)))

-- on links that spell the sets, the first process along the ring of h is the first process of its list
module _ (c : Counts) (sets : List (List ℕ)) (t : List ℕ) (s : SpellsSets (total c + 1) c.heads sets t) where
  abbrev m : ℕ
  m = total c + 1

  pub process_of : (h : ℕ) → Head m (set_head c.heads) h → process_at c t h ≡ first_process c (members_of sets h)
  process_of h a =
      along c m t h (leb-true h c.heads a.is) h (members_of sets h) m (s.spelled.rings.ring h a)
      (λ y i. (on_place m (set_head c.heads) (members_of sets) (sucs m t) (pres m t) s.spelled.rings h y a i).1)
      (λ y i. leb-false y c.heads (s.spelled.rings.only h y a i).isn't)
      (spells_few m (set_head c.heads) (members_of sets) t s.spelled h a)
