-- Tables that spell a list of notices, and what dropping a notice and linking one behind a place do to that list.
use Rattle.std.specs.Prelude.{ℕ, suc, ◌+◌, ◌-◌, ◌<◌, ◌≡◌, refl, ◌≢◌, List, ◌∷◌, get_or, set}
use Rattle.std.proofs.Common.{sym, ap, ◌∙◌, inr, ⊎_elim, arith, get_or-take, eq-eqb, ne_eqb}
use Rattle.ring_laws.specs.Lists.{In}
use Rattle.ring_laws.specs.Chain.{Chain}
use Rattle.ring_laws.specs.Distinct.{Dist}
use Rattle.ring_laws.specs.Rings.{Head, Link, apart, next_place_lem}
use Rattle.ring_laws.specs.Stores.{sucs, pres}
use Rattle.ring_laws.proofs.Spell.{spells_dist}
use Rattle.axis_laws.specs.AxisRing.{axis_head, SpellsAxis}
use Rattle.axis_laws.specs.AxisRing.{axis_unlinked, axis_drop}
use Rattle.ring_laws.specs.Tabulate.{listed, listed_at}
use Rattle.model.specs.declared.Counts.{Counts}
use Rattle.axis_laws.specs.Notices.{Process, Notice, due_of, whos, places}
use Rattle.axis_laws.specs.NoticeOps.{dropped}
use Rattle.axis_laws.specs.NoticeLaws.{drop_due}
use Rattle.axis_laws.specs.Reading.{Timed, timed as timed-by, who_place, dist_whos}
use Rattle.model_laws.specs.Now.{half}
use Rattle.simulation_laws.specs.Procedures.{Sqs, drop_on}
use Rattle.axis_laws.specs.ByDue.{listed_set, due_dropped, places_in}

pub record SpellsTime (c : Counts) (ns : List Notice) (a : Sqs) : Type 0 where
  pub axis : SpellsAxis (half c) (places c ns) a.axis
  pub times : a.times ≡ 0 ∷ listed (λ p. due_of (c.heads + p) ns) 1 c.processes

module _ (c : Counts) (ns : List Notice) (a : Sqs) (sp : SpellsTime c ns a) where
  abbrev m : ℕ
  m = half c

  abbrev t : List ℕ
  t = a.axis

  pub head : Head m (axis_head m) (m - 1)
  head = record { some = omega arith; within = omega arith; is = eq-eqb (m - 1) (m - 1) refl }

  pub chain : Chain (sucs m t) (pres m t) (m - 1) (places c ns) (m - 1)
  chain = sp.axis.rings.ring (m - 1) head

  pub member : (y : ℕ) → In y (places c ns) → Link m (axis_head m) y
  member y i = sp.axis.rings.only (m - 1) y head i

  pub off_head : (y : ℕ) → In y (places c ns) → y ≢ m - 1
  off_head y i e = apart m (axis_head m) (m - 1) y head (member y i) (sym e)

  pub dist_all : Dist ((m - 1) ∷ places c ns)
  dist_all = spells_dist m (axis_head m) (λ h. places c ns) t sp.axis (m - 1) head

  pub once : Dist (whos ns)
  once = dist_whos c ns dist_all.1

  pub is_process_lem : (x : ℕ) → In x (whos ns) → Process c x
  is_process_lem x i =
      let l : Link m (axis_head m) (x - c.heads) = member (x - c.heads) (who_place c ns x i) in
      let n : x - c.heads ≢ m - 1 = off_head (x - c.heads) (who_place c ns x i) in
      record { over = omega (arith, l); upto = omega (arith, l) }

  pub a_link : (x : ℕ) → Process c x → Link m (axis_head m) (x - c.heads)
  a_link x p =
      record { some = omega (arith, p); within = omega (arith, p); isn't = ne_eqb (x - c.heads) (m - 1) (λ e. omega (arith, p)) }

  -- each process's time
  pub times_at : (x : ℕ) → Process c x → get_or a.times (x - c.heads) 0 ≡ due_of x ns
  times_at x p =
      let e : x - c.heads ≡ suc (x - c.heads - 1) = omega (arith, p) in
      let f : c.heads + (1 + (x - c.heads - 1)) ≡ x = omega (arith, p) in
      rw (sp.times, e)
      (listed_at (λ j. due_of (c.heads + j) ns) 0 c.processes 1 (x - c.heads - 1) (omega (arith, p)) ∙ ap (λ (j : ℕ). due_of j ns) f)

  pub timed : Timed c a.times ns
  timed = timed-by c a.times ns once (λ x i. times_at x (is_process_lem x i))

  -- idle, or not
  pub linked : (x : ℕ) → In x (whos ns) → 0 < get_or t (x - c.heads) 0
  linked x i =
      let l : Link m (axis_head m) (x - c.heads) = member (x - c.heads) (who_place c ns x i) in
      rw (get_or-take m t (x - c.heads) 0 l.within) at (next_place_lem m (axis_head m) (λ h. places c ns) (sucs m t) (pres m t)
      sp.axis.rings (m - 1) (x - c.heads) head (inr (who_place c ns x i))).0

  pub same_who : (x : ℕ) → Process c x → In (x - c.heads) (places c ns) → In x (whos ns)
  same_who x p i =
      let r = places_in c (x - c.heads) ns i in
      let q : Process c r.0 = is_process_lem r.0 r.2 in
      let e : r.0 ≡ x = omega (arith, p, q, r.1) in
      rw e at r.2

  pub unlinked_is : (x : ℕ) → Process c x → (In x (whos ns) → ⊥) → sucs m t (x - c.heads) ≡ 0
  unlinked_is x p f =
      ⊎_elim (λ w. absurd (f (same_who x p w.2))) (λ z. z.0) (sp.axis.rings.whole (x - c.heads) (a_link x p))

  pub idle_is : (x : ℕ) → Process c x → (In x (whos ns) → ⊥) → get_or t (x - c.heads) 0 ≡ 0
  idle_is x p f = sym (get_or-take m t (x - c.heads) 0 (a_link x p).within) ∙ unlinked_is x p f

  -- ---- the times after one store

  pub times_set : (ns' : List Notice) (x v : ℕ) → Process c x → due_of x ns' ≡ v → ((z : ℕ) → z ≢ x → due_of z ns' ≡ due_of z ns)
      → set a.times (x - c.heads) v ≡ 0 ∷ listed (λ p. due_of (c.heads + p) ns') 1 c.processes
  times_set ns' x v p e f =
      let k = x - c.heads - 1 in
      let h : x - c.heads ≡ suc k = omega (arith, p) in
      let g : c.heads + (1 + k) ≡ x = omega (arith, p) in
      rw (sp.times, h)
      (ap (λ (r : List ℕ). 0 ∷ r)
      (listed_set (λ j. due_of (c.heads + j) ns) (λ j. due_of (c.heads + j) ns') c.processes 1 k v (omega (arith, p))
      (ap (λ (j : ℕ). due_of j ns') g ∙ e)
      (λ j d. f (c.heads + j) (λ q. d (omega arith)))))

  -- ---- a notice is dropped

  pub drop_spells : (x : ℕ) → Process c x → SpellsTime c (dropped x ns) (drop_on m (x - c.heads) a)
  unfolding drop_on
  drop_spells x p =
      record {
        axis = rw (axis_drop c x ns p.over (λ z i. (is_process_lem z i).over)) at (axis_unlinked m (places c ns) t sp.axis (x - c.heads)
            (a_link x p));
        times = times_set (dropped x ns) x 0 p (due_dropped x ns) (λ z d. drop_due x ns z d);
      }
