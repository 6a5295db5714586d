-- "A fresh model has empty sets and one notice, main at 0": its tables by the published statements, and the lists they spell.
use Prim.Native.Nat.{ℕ, zero, suc, ◌+◌, ◌*◌, ◌-◌, ◌<◌, ◌≤◌}
use Rattle.std.specs.Prelude.{◌≡◌, refl, ◌≢◌, ◌⊎◌, Bool, true, false, ◌&&◌, length, get_or, replicate, if◌then◌else◌, Ok, Err}
use Rattle.std.proofs.Math.Path.{sym, ap}
use Rattle.std.proofs.Common.{◌∙◌, subst}
use Rattle.std.proofs.Math.Logic.{inl, inr, ⊎_elim}
use mathlib.Core.List.{List, [], ◌∷◌}
use native.Mathlib.Omega.{arith}
use Rattle.std.proofs.lemmas.List.{length-replicate}
use borrow.Author.Tests.{eq-eqb, eqb-true, eqb-false, ne_eqb, leb-true, leb-false}
use Rattle.ring_laws.specs.Lists.{ahead, decide, zeros, clash}
use Rattle.ring_laws.specs.Rings.{Link}
use Rattle.ring_laws.specs.Table.{self_linked, linked_before}
use Rattle.ring_laws.specs.Stores.{sucs, pres, suc_at}
use Rattle.ring_laws.specs.Spell.{spells_cong}
use Rattle.ring_laws.proofs.Spell.{spells_before}
use Rattle.ring_laws.specs.Empty.{spells_empty, length_zeros, get_or_zeros, self_length, self_s, self_p, other_s, other_p}
use Rattle.model.specs.declared.Counts.{Counts}
use Rattle.model.specs.declared.Refusal.{Refusal}
use Rattle.model.specs.declared.Refusal.TheVariants.{Size}
use Rattle.model.specs.Answers.{Verdict}
use Rattle.model.specs.Counts.{in_limits, Allowed, total, main}
use Rattle.axis_laws.specs.Notices.{due_of}
use Rattle.ring_laws.specs.Tabulate.{listed, at_table}
use Rattle.model_laws.specs.Tables.{Tables, Lists, After, set_head, members_of, SpellsSets, Spells}
use Rattle.axis_laws.specs.AxisRing.{axis_head, SpellsAxis}
use Rattle.model_laws.specs.Judge.{lengths_fine}
use Rattle.axis_laws.specs.AxisRing.{axis_head_lem, axis_layout}

-- class head: "SUC :- PRED :- this linkage", for each of the heads 1 .. n
unfoldable pub fresh_heads : ℕ → ℕ → List ℕ → List ℕ
fresh_heads m zero t = t
fresh_heads m (suc n) t = self_linked m (suc n) (fresh_heads m n t)

-- "SQS :- new head; .. main.EVENT :- new EVENT NOTICE (0,main)", which goes into SQS: the axis of p processes
unfoldable pub fresh_axis : ℕ → List ℕ
fresh_axis p = linked_before (p + 2) 1 (p + 1) (self_linked (p + 2) (p + 1) (zeros (2 * (p + 2))))

unfoldable pub fresh_tables : Counts → Tables
fresh_tables c =
    record {
      links = fresh_heads (total c + 1) c.heads (zeros (2 * (total c + 1)));
      axis = fresh_axis c.processes;
      times = zeros (c.processes + 1);
      marks = zeros (c.processes + 1);
    }

-- the lists of a fresh model
abbrev pub fresh_lists : Counts → Lists
fresh_lists c = record { sets = replicate c.heads []; notices = record { who = main c; due = 0 } ∷ []; terminated = [] }

-- lent tables of the right lengths are filled, others refused and left alone
unfoldable pub freshed : Counts → Tables → After Verdict
freshed c t =
    if in_limits c && lengths_fine c t then record { tables = fresh_tables c; answer = Ok tt } else record { tables = t; answer = Err Size }

-- a refused call changes nothing
pub fresh_kept : (c : Counts) (t : Tables) (r : Refusal) → (freshed c t).answer ≡ Err r → (freshed c t).tables ≡ t
unfolding freshed
fresh_kept c t r e = go (in_limits c && lengths_fine c t) e
  where
    after : Bool → After Verdict
    after b = if b then record { tables = fresh_tables c; answer = Ok tt } else record { tables = t; answer = Err Size }

    go : (b : Bool) → (after b).answer ≡ Err r → (after b).tables ≡ t
    go true q = let z : false ≡ true = cc in clash z
    go false q = refl

-- ---- the links

pub heads_length : (m n : ℕ) (t : List ℕ) → length t ≡ 2 * m → n < m → length (fresh_heads m n t) ≡ 2 * m
unfolding fresh_heads
heads_length m zero t two l = two
heads_length m (suc n) t two l = self_length m (fresh_heads m n t) (suc n) (heads_length m n t two (omega arith)) l

module _ (m : ℕ) (t : List ℕ) (two : length t ≡ 2 * m) where
  heads_off : (n i : ℕ) → n < m → (i ≡ 0) ⊎ (n < i) → (sucs m (fresh_heads m n t) i ≡ sucs m t i)
      × (pres m (fresh_heads m n t) i ≡ pres m t i)
  unfolding fresh_heads
  heads_off zero i l o = (refl, refl)
  heads_off (suc n) i l o =
      let ne : i ≢ suc n = λ e. ⊎_elim (λ z. omega arith) (λ z. omega arith) o in
      let r = heads_off n i (omega arith) (⊎_elim (λ z. inl z) (λ z. inr (omega arith)) o) in
      let k = heads_length m n t two (omega arith) in (
        other_s m (fresh_heads m n t) (suc n) k l i ne ∙ r.0,
        other_p m (fresh_heads m n t) (suc n) k l i ne ∙ r.1,
      )

  heads_on : (n i : ℕ) → n < m → 0 < i → i ≤ n → (sucs m (fresh_heads m n t) i ≡ i) × (pres m (fresh_heads m n t) i ≡ i)
  unfolding fresh_heads
  heads_on zero i l a b = absurd (none a b)
    where
      none : 0 < i → i ≤ 0 → ⊥
      none a b = omega arith
  heads_on (suc n) i l a b =
      let k = heads_length m n t two (omega arith) in
      decide i (suc n)
      (λ e. (
        ap (sucs m (self_linked m (suc n) (fresh_heads m n t))) e ∙ self_s m (fresh_heads m n t) (suc n) k l ∙ sym e,
        ap (pres m (self_linked m (suc n) (fresh_heads m n t))) e ∙ self_p m (fresh_heads m n t) (suc n) k l ∙ sym e,
      ))
      (λ ne.
      let r = heads_on n i (omega arith) a (omega arith) in (
        other_s m (fresh_heads m n t) (suc n) k l i ne ∙ r.0,
        other_p m (fresh_heads m n t) (suc n) k l i ne ∙ r.1,
      ))

zeros_s : (m i : ℕ) → i < m → sucs m (zeros (2 * m)) i ≡ 0
zeros_s m i l = suc_at m (zeros (2 * m)) i l ∙ get_or_zeros (2 * m) i

none_of : (H h : ℕ) → ◌≡◌ {A = List ℕ} (get_or (replicate H []) h []) []
none_of zero h = refl
none_of (suc H) zero = refl
none_of (suc H) (suc h) = none_of H h

links_fresh : (m H : ℕ) → H < m → SpellsSets m H (replicate H []) (fresh_heads m H (zeros (2 * m)))
links_fresh m H l =
    let t : List ℕ = zeros (2 * m) in
    let two : length (zeros (2 * m)) ≡ 2 * m = length_zeros (2 * m) in
    let off = heads_off m (zeros (2 * m)) two H in
    record {
      all = length-replicate H [];
      spelled =
          spells_cong m (set_head H) (λ h. []) (members_of (replicate H [])) (fresh_heads m H (zeros (2 * m)))
          (λ h a. sym (none_of H (h - 1)))
          (spells_empty m (set_head H) (fresh_heads m H (zeros (2 * m)))
          (heads_length m H (zeros (2 * m)) two l)
          (λ h a. heads_on m (zeros (2 * m)) two H h l a.some (leb-true h H a.is))
          (λ x a. let r = off x l (inr (leb-false x H a.isn't)) in (r.0 ∙ zeros_s m x a.within, r.1 ∙ get_or_zeros (2 * m) (m + x)))
          ((off 0 l (inl refl)).0 ∙ zeros_s m 0 (omega arith))
          ((off 0 l (inl refl)).1 ∙ get_or_zeros (2 * m) (m + 0)));
    }

-- ---- the axis

module _ (p : ℕ) (some : 1 ≤ p) where
  abbrev m : ℕ
  m = p + 2

  abbrev t : List ℕ
  t = zeros (2 * (p + 2))

  two : length t ≡ 2 * m
  two = length_zeros (2 * (p + 2))

  pub started : SpellsAxis m [] (self_linked m (p + 1) t)
  started =
      let in_m : p + 1 < m = omega arith in
      let off-s = other_s m t (p + 1) two in_m in
      let off-p = other_p m t (p + 1) two in_m in
      spells_empty m (axis_head m) (self_linked m (p + 1) t) (self_length m t (p + 1) two in_m)
      (λ h a.
      let e : h ≡ p + 1 = eqb-true h (m - 1) a.is ∙ omega arith in (
        ap (sucs m (self_linked m (p + 1) t)) e ∙ self_s m t (p + 1) two in_m ∙ sym e,
        ap (pres m (self_linked m (p + 1) t)) e ∙ self_p m t (p + 1) two in_m ∙ sym e,
      ))
      (λ x a.
      let n : x ≢ p + 1 = λ e. eqb-false x (m - 1) a.isn't (omega arith) in
      (off-s x n ∙ zeros_s m x a.within, off-p x n ∙ get_or_zeros (2 * m) (m + x)))
      (off-s 0 (λ e. omega arith) ∙ zeros_s m 0 (omega arith))
      (off-p 0 (λ e. omega arith) ∙ get_or_zeros (2 * m) (m + 0))

  pub axis_fresh : SpellsAxis m (1 ∷ []) (fresh_axis p)
  unfolding fresh_axis
  axis_fresh =
      let u = self_linked m (p + 1) t in
      let x : Link m (axis_head m) 1 = (axis_layout p).in_link 1 (omega arith) (omega arith) in
      spells_cong m (axis_head m) (λ g. ahead (p + 1) 1 [] g) (λ g. 1 ∷ []) (linked_before m 1 (p + 1) u)
      (λ g a. let e : g ≡ p + 1 = eqb-true g (m - 1) a.is ∙ omega arith in rw (eq-eqb g (p + 1) e))
      (spells_before m (axis_head m) (λ h. []) u started 1 (p + 1) (p + 1) x
      (other_s m t (p + 1) two (omega arith) 1 (λ e. omega arith) ∙ zeros_s m 1 (omega arith))
      (axis_head_lem p) (inr refl))

-- ---- the whole

pub fresh_spells : (c : Counts) → Allowed c → Spells c (fresh_lists c) (fresh_tables c)
unfolding fresh_tables
fresh_spells c a =
    let one : main c - c.heads ≡ 1 = omega arith in
    record {
      links = links_fresh (total c + 1) c.heads (omega arith);
      limited = λ h. omega (arith, ap length (none_of c.heads (h - 1)));
      axis = subst (λ (j : ℕ). SpellsAxis (c.processes + 2) (j ∷ []) (fresh_axis c.processes)) (sym one)
          (axis_fresh c.processes a.some);
      times = all_zero (λ p. due_of (c.heads + p) (record { who = main c; due = 0 } ∷ [])) c.processes (λ y. due y);
      marks = all_zero (λ p. 0) c.processes (λ y. refl);
      some = omega arith;
      in_order = (tt, tt);
      within = (omega arith, tt);
      ended = λ x k. absurd k;
    }
  where
    due : (y : ℕ) → due_of (c.heads + y) (record { who = main c; due = 0 } ∷ []) ≡ 0
    due y =
        decide (main c) (c.heads + y) (λ e. rw (eq-eqb (main c) (c.heads + y) e)) (λ n. rw (ne_eqb (main c) (c.heads + y) n))

    all_zero : (f : ℕ → ℕ) (p : ℕ) → ((y : ℕ) → f y ≡ 0) → zeros (p + 1) ≡ 0 ∷ listed f 1 p
    all_zero f p g =
        at_table f p (zeros (p + 1)) (length_zeros (p + 1)) (get_or_zeros (p + 1) 0) (λ y a b. get_or_zeros (p + 1) y ∙ sym (g y))
