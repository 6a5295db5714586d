-- Hold on tables that spell lists does what the plain call does to the lists, with the same refusals; and what agreeing means.
use Rattle.std.specs.Prelude.{ℕ, suc, ◌+◌, ◌-◌, ◌≤◌, ◌≡◌, true, false, List, [], ◌∷◌, leb, ℤ, get_or, set}
use Rattle.std.proofs.Math.Path.{refl}
use Rattle.std.proofs.Common.{sym, ◌∙◌, subst, inl, inr, arith, get_or-take, eq-eqb, ne_eqb, lt-ltb, le-ltb, leb-true}
use Rattle.std.proofs.lemmas.Bool.{lt-leb}
use Rattle.ring_laws.specs.Lists.{below, test}
use Rattle.model.specs.declared.Counts.{Counts}
use Rattle.model.specs.Counts.{limit}
use Rattle.axis_laws.specs.Notices.{Notice, InOrder}
use Rattle.model_laws.specs.Tables.{Tables, Lists, Spells}
use Rattle.model_laws.specs.Now.{time_of, first_of, half}
use Rattle.axis_laws.specs.NoticeOps.{behind_all}
use Rattle.simulation_laws.specs.Plain.{above, hold}
use Rattle.axis_laws.specs.NoticeLaws.{rest_drop}
use Rattle.axis_laws.specs.PutLaws.{last_ins, last_sorted}
use Rattle.simulation_laws.specs.NoticesKept.{NoticesKept, kept_ins}
use Rattle.simulation_laws.specs.Procedures.{Sqs, next_on, lone, found, drop_on, ranked, held_at, held_to, held}
use Rattle.axis_laws.specs.ByDue.{by_due, by_behind}
use Rattle.simulation_laws.specs.Calls.{sqs_of}
use Rattle.simulation_laws.specs.Places.{SpellsTime, chain, off_head, once, is_process_lem, times_at, times_set, drop_spells}
use Rattle.axis_laws.specs.Notices.{Process}
use Rattle.simulation_laws.specs.Spots.{put_spells, found_spot}
-- ---- what a call leaves, and what the machine answers
use Rattle.simulation_laws.specs.Agree.{Agrees, its_time, its_kept, respell}

-- ---- the first notices

module _ (c : Counts) (n : Notice) (ns : List Notice) (a : Sqs) (sp : SpellsTime c (n ∷ ns) a) where
  abbrev m : ℕ
  m = half c

  pub first_is : first_of m a.axis ≡ n.who - c.heads
  first_is = sym (get_or-take m a.axis (m - 1) 0 (omega arith)) ∙ (chain c (n ∷ ns) a sp).0.next

  pub process_first : Process c n.who
  process_first = is_process_lem c (n ∷ ns) a sp n.who (inl refl)

  pub time_is : time_of m a.axis a.times ≡ n.due
  time_is = rw first_is (times_at c (n ∷ ns) a sp n.who process_first ∙ (rw (eq-eqb n.who n.who refl)))

  -- out of the list, the first leaves the rest
  pub rest_spells : SpellsTime c ns (drop_on m (first_of m a.axis) a)
  rest_spells =
      rw first_is (rw (← (rest_drop n ns (once c (n ∷ ns) a sp))) at (drop_spells c (n ∷ ns) a sp n.who process_first))

  -- the first, due at u, stays first
  pub stays_spells : (u : ℕ) → SpellsTime c (record { who = n.who; due = u } ∷ ns)
      (record { axis = a.axis; times = set a.times (first_of m a.axis) u })
  stays_spells u =
      record {
        axis = sp.axis;
        times =
            rw first_is
            (times_set c (n ∷ ns) a sp (record { who = n.who; due = u } ∷ ns) n.who u process_first
            (rw (eq-eqb n.who n.who refl))
            (λ z d. rw (ne_eqb n.who z (λ e. d (sym e)))));
      }

pub suc_none : (c : Counts) (n : Notice) (a : Sqs) → SpellsTime c (n ∷ []) a → next_on a (first_of (half c) a.axis) ≡ half c - 1
suc_none c n a sp =
    rw (first_is c n [] a sp)
    (sym (get_or-take (half c) a.axis (n.who - c.heads) 0 (omega (arith, process_first c n [] a sp))) ∙ (chain c (n ∷ []) a sp).1.next)

pub suc_some : (c : Counts) (n k : Notice) (ks : List Notice) (a : Sqs) → SpellsTime c (n ∷ k ∷ ks) a
    → next_on a (first_of (half c) a.axis) ≡ k.who - c.heads
suc_some c n k ks a sp =
    rw (first_is c n (k ∷ ks) a sp)
    (sym (get_or-take (half c) a.axis (n.who - c.heads) 0 (omega (arith, process_first c n (k ∷ ks) a sp)))
    ∙ (chain c (n ∷ k ∷ ks) a sp).1.0.next)

pub lone_yes : (c : Counts) (n : Notice) (a : Sqs) → SpellsTime c (n ∷ []) a → lone (half c) a ≡ true
lone_yes c n a sp = eq-eqb _ _ (suc_none c n a sp)

pub lone_no : (c : Counts) (n k : Notice) (ks : List Notice) (a : Sqs) → SpellsTime c (n ∷ k ∷ ks) a → lone (half c) a ≡ false
lone_no c n k ks a sp = ne_eqb _ _ (λ e. off_head c (n ∷ k ∷ ks) a sp (k.who - c.heads) (inr (inl refl))
    (sym (suc_some c n k ks a sp) ∙ e))

-- ---- hold

pub held_spells : (c : Counts) (n : Notice) (ns : List Notice) (a : Sqs) (u : ℕ) → SpellsTime c (n ∷ ns) a → InOrder (n ∷ ns)
    → SpellsTime c (behind_all (record { who = n.who; due = u }) ns) (held_to (half c) u a)
unfolding held_at
held_spells c n [] a u sp o = rw (lone_yes c n a sp) (stays_spells c n [] a sp u)
held_spells c n (k ∷ ks) a u sp o =
    let f : Notice = record { who = n.who; due = u } in
    let e : get_or a.times (next_on a (first_of (half c) a.axis)) 0 ≡ k.due =
    rw (suc_some c n k ks a sp)
    (times_at c (n ∷ k ∷ ks) a sp k.who (is_process_lem c (n ∷ k ∷ ks) a sp k.who (inr (inl refl)))
    ∙ (rw (ne_eqb n.who k.who (λ q. (once c (n ∷ k ∷ ks) a sp).0 (inl q)), eq-eqb k.who k.who refl))) in
    below u k.due
    (λ l. rw (lone_no c n k ks a sp, e, lt-ltb u k.due l, lt-leb k.due u l) (stays_spells c n (k ∷ ks) a sp u))
    (λ l.
    let r : SpellsTime c (k ∷ ks) (drop_on (half c) (first_of (half c) a.axis) a) = rest_spells c n (k ∷ ks) a sp in
    let q : SpellsTime c (by_due (suc u) f (k ∷ ks)) (ranked (half c) (n.who - c.heads) u
    (drop_on (half c) (first_of (half c) a.axis) a)) =
    put_spells c (k ∷ ks) (drop_on (half c) (first_of (half c) a.axis) a) r f
    (found (half c) (suc u) (drop_on (half c) (first_of (half c) a.axis) a)) (by_due (suc u) f (k ∷ ks))
    (process_first c n (k ∷ ks) a sp) (once c (n ∷ k ∷ ks) a sp).0
    (found_spot c (k ∷ ks) (drop_on (half c) (first_of (half c) a.axis) a) r f (suc u) o.1) in
    rw (lone_no c n k ks a sp, e, le-ltb u k.due l)
    (subst (λ (z : ℕ). SpellsTime c (behind_all f (k ∷ ks)) (ranked (half c) z u (drop_on (half c) (first_of (half c) a.axis) a)))
    (sym (first_is c n (k ∷ ks) a sp))
    (subst (λ (l : List Notice). SpellsTime c l (ranked (half c) (n.who - c.heads) u (drop_on (half c) (first_of (half c) a.axis) a)))
    (by_behind f (k ∷ ks)) q)))

module _ (c : Counts) (M : Lists) (t : Tables) (sp : Spells c M t) (n : Notice) (ns : List Notice) (e : M.notices ≡ n ∷ ns) where
  abbrev a : Sqs
  a = sqs_of t

  pub st : SpellsTime c (n ∷ ns) a
  st = rw e at (its_time c M t sp)

  pub kt : NoticesKept M.terminated (n ∷ ns)
  kt = rw e at (its_kept c M t sp)

  -- the first notice at another time
  held_kept : (u : ℕ) → u ≤ limit → NoticesKept M.terminated (behind_all (record { who = n.who; due = u }) ns)
  held_kept u l =
      let f : Notice = record { who = n.who; due = u } in
      kept_ins M.terminated f ns (behind_all f ns) (last_ins f ns) (last_sorted f ns kt.in_order.1) l kt.within.1
      (λ x i j. kt.idle x i (inr j)) (λ i. kt.idle n.who i (inl refl))

  pub hold_agrees : (z : ℤ) → Agrees c t (hold z M) (held (half c) (above z) a)
  unfolding hold held
  hold_agrees z =
      rw (e, time_is c n ns a st)
      (test (leb (n.due + above z) limit)
      (λ l. rw l (
        refl,
        respell c M t sp _ _ (held_kept (n.due + above z) (leb-true _ _ l))
            (held_spells c n ns a (n.due + above z) st kt.in_order),
      ))
      (λ l. rw l (refl, refl)))
