-- ACTIVATE on tables that spell lists does what activate and reactivate do to the lists, with the same refusals.
use Rattle.std.specs.Prelude.{ℕ, suc, ◌+◌, ◌-◌, ◌≤◌, ◌≡◌, Bool, ◌&&◌, ◌||◌, leb, ℤ, get_or, if◌then◌else◌}
use Rattle.std.proofs.Math.Path.{refl, sym, ap}
use Rattle.std.proofs.Common.{◌∙◌, subst, arith}
use Rattle.std.proofs.Math.Bool.{true, false, not}
use mathlib.Core.List.{List, [], ◌∷◌}
use Rattle.std.proofs.Math.Dec.{eqb}
use borrow.Author.Tests.{eq-eqb, ne_eqb, eqb-false, le-leb, leb-true}
use Rattle.ring_laws.specs.Lists.{clash, In, decide, test}
use Rattle.ring_laws.specs.Tabulate.{has, bit, listed_at}
use Rattle.model.specs.declared.Counts.{Counts}
use Rattle.model.specs.Counts.{limit, is_process}
use Rattle.axis_laws.specs.Notices.{Notice, whos, due_of}
use Rattle.model_laws.specs.Tables.{Tables, Lists, Spells}
use Rattle.simset_laws.specs.Calls.{or_none}
use Rattle.axis_laws.specs.Reading.{due_none}
use Rattle.model_laws.specs.Now.{time, time_of, half}
use Rattle.model_laws.specs.Result.{done}
use Rattle.simulation_laws.specs.Choice.{and_left, and_right}
use Rattle.axis_laws.specs.NoticeOps.{dropped, has_notice}
use Rattle.simulation_laws.specs.Plain.{with_notices, above, leaving, due_for, placed, no_effect, timed_need}
use Rattle.axis_laws.specs.NoticeLaws.{ins_new, drop_in, drop_gone, drop_old, drop_sorted, drop_from, drop_due}
use Rattle.axis_laws.specs.BesideLaws.{before_none, after_none}
use Rattle.simulation_laws.specs.NoticesKept.{NoticesKept, kept_ins, dropped_within, dropped_idle}
use Rattle.simulation_laws.specs.Replace.{timed_drop_first}
use Rattle.simulation_laws.specs.PlacedLaws.{placed_sorted, due_beside, not_ended, others_y}
use Rattle.simulation_laws.specs.Procedures.{Sqs, made, idle_at, drop_on, cancelled, vain, due_at, put_by_clause}
use Rattle.simulation_laws.specs.Procedures.{activated}
use Rattle.simulation_laws.specs.Places.{SpellsTime, is_process_lem, times_at, drop_spells}
use Rattle.axis_laws.specs.Notices.{Process}
use Rattle.simulation_laws.specs.Spots.{Spot, put_spells, place_spot}
use Rattle.simulation_laws.specs.Agree.{Agrees, its_time, its_kept, respell}
use Rattle.simulation_laws.proofs.Agree.{st, time_is}
use Rattle.simulation_laws.specs.AgreeEnds.{Party, party, has_in, has_none, idle_has}
use Rattle.simulation_laws.proofs.AgreeEnds.{drop_agrees}
use Rattle.simulation_laws.specs.Calls.{sqs_of}
-- ---- numbers and tests
use Rattle.simulation_laws.specs.AgreeTimed.{delay_is, bit_not, not_not, and_tail, from_first}

module _ (c : Counts) (M : Lists) (t : Tables) (sp : Spells c M t) (n : Notice) (ns : List Notice) (e : M.notices ≡ n ∷ ns) where
  abbrev a : Sqs
  a = sqs_of t

  abbrev m : ℕ
  m = half c

  spt : SpellsTime c M.notices a
  spt = its_time c M t sp

  pub time_here : time_of m a.axis a.times ≡ time M
  time_here = rw e (time_is c n ns a (st c M t sp n ns e))

  pub marks_at : (x : ℕ) → Process c x → get_or t.marks (x - c.heads) 0 ≡ bit (has x M.terminated)
  marks_at x p =
      let h : x - c.heads ≡ suc (x - c.heads - 1) = omega (arith, p) in
      let f : c.heads + (1 + (x - c.heads - 1)) ≡ x = omega (arith, p) in
      rw (sp.marks, h)
      (listed_at (λ j. bit (has (c.heads + j) M.terminated)) 0 c.processes 1 (x - c.heads - 1) (omega (arith, p))
      ∙ ap (λ (j : ℕ). bit (has j M.terminated)) f)

  -- each process's time, and 0 for none
  pub due_of_lem : (y : ℕ) → Party c y → get_or t.times (y - c.heads) 0 ≡ due_of y M.notices
  due_of_lem y (Party.none q) =
      let z : y - c.heads ≡ 0 = omega arith in
      rw (sp.times, z) (sym (due_none M.notices y (λ i. omega (arith, is_process_lem c M.notices a spt y i))))
  due_of_lem y (Party.proc p) = times_at c M.notices a spt y p

  pub due_is : (k y : ℕ) (z : ℤ) → (5 ≤ k → Party c y) → due_at k (y - c.heads) (above z) (time_of m a.axis a.times) a.times
      ≡ due_for k y z M
  unfolding due_at due_for
  due_is k y z g =
      test (eqb k 0) (λ q. rw q time_here) (λ q.
      test (leb 5 k) (λ l. rw (q, l) (due_of_lem y (g (leb-true 5 k l)))) (λ l.
      test (eqb k 2 || eqb k 4)
      (λ d. rw (q, l, d, time_here) (sym (delay_is (time M) z)))
      (λ d. rw (q, l, d, time_here))))

  same_party : (x y : ℕ) → Process c x → Party c y → eqb (x - c.heads) (y - c.heads) ≡ eqb x y
  same_party x y p (Party.none q) = ne_eqb (x - c.heads) (y - c.heads) (λ f. omega (arith, p)) ∙ sym (ne_eqb x y (λ f. omega (arith, p)))
  same_party x y p (Party.proc r) =
      decide x y
      (λ f. rw (eq-eqb x y f, eq-eqb (x - c.heads) (y - c.heads) (ap (λ (j : ℕ). j - c.heads) f)))
      (λ d. rw (ne_eqb x y d, ne_eqb (x - c.heads) (y - c.heads) (λ f. d (omega (arith, p, r)))))

  pub vain_is : (again : Bool) (k x y : ℕ) → Party c x → (5 ≤ k → Party c y)
      → vain again k (x - c.heads) (y - c.heads) t.marks t.axis ≡ no_effect again k x y M
  unfolding vain no_effect
  vain_is again k x y (Party.none q) g = rw (eq-eqb x 0 q, eq-eqb (x - c.heads) 0 (omega arith))
  vain_is again k x y (Party.proc p) g =
      let ea : eqb (x - c.heads) 0 ≡ eqb x 0 = ne_eqb (x - c.heads) 0 (λ f. omega (arith, p))
      ∙ sym (ne_eqb x 0 (λ f. omega (arith, p))) in
      let eb : not (eqb (get_or t.marks (x - c.heads) 0) 0) ≡ has x M.terminated =
      ap (λ (j : ℕ). not (eqb j 0)) (marks_at x p) ∙ bit_not (has x M.terminated) in
      let ec : not (idle_at a (x - c.heads)) ≡ has_notice x M.notices =
      ap not (idle_has c M.notices a spt x (Party.proc p)) ∙ not_not (has_notice x M.notices) in
      let ed : (leb 5 k && eqb (x - c.heads) (y - c.heads)) ≡ (leb 5 k && eqb x y) =
      and_tail (leb 5 k) _ _ (λ l. same_party x y p (g (leb-true 5 k l))) in
      rw (ea, eb, ec, ed)

  not_placed : (k x y u : ℕ) → 5 ≤ k → k ≤ 6 → has_notice y M.notices ≡ false
      → placed k y (record { who = x; due = u }) (dropped x M.notices) ≡ dropped x M.notices
  unfolding placed
  not_placed k x y u l k6 h =
      let f : In y (whos (dropped x M.notices)) → ⊥ = λ i. has_none y M.notices h (drop_in x M.notices y i) in
      test (eqb k 5)
      (λ q. rw q (before_none y (record { who = x; due = u }) (dropped x M.notices) f))
      (λ q. rw (q, eq-eqb k 6 (omega (arith, eqb-false k 5 q))) (after_none y (record { who = x; due = u }) (dropped x M.notices) f))

  leaving_some : (x : ℕ) (l : List Notice) → In x (whos l) → leaving M l ≡ done (with_notices M l)
  leaving_some x [] i = absurd i
  leaving_some x (k ∷ ks) i = refl

  kept : NoticesKept M.terminated M.notices
  kept = its_kept c M t sp

  -- an effective call within the limit
  effective : (again : Bool) (k x y u : ℕ) → Process c x → (5 ≤ k → Party c y) → k ≤ 6 → u ≤ limit → (5 ≤ k → u ≡ due_of y M.notices)
      → no_effect again k x y M ≡ false
      → Agrees c t (leaving M (placed k y (record { who = x; due = u }) (dropped x M.notices)))
      (if leb 5 k && idle_at a (y - c.heads) then cancelled m (x - c.heads) a
      else made (put_by_clause m k (x - c.heads) (y - c.heads) (time_of m a.axis a.times) u a))
  unfolding put_by_clause
  effective again k x y u p g k6 ul ud f =
      test (leb 5 k && idle_at a (y - c.heads))
      (λ q.
      let l : 5 ≤ k = leb-true 5 k (and_left (leb 5 k) _ q) in
      let h : has_notice y M.notices ≡ false =
      not_true' (has_notice y M.notices) (sym (idle_has c M.notices a spt y (g l)) ∙ and_right (leb 5 k) _ q) in
      rw (q, not_placed k x y u l k6 h) (subst (λ (l : List Notice). Agrees c t (leaving M (dropped x l)) (cancelled m (x - c.heads) a))
      (sym e) (drop_agrees c M t sp n ns e x (Party.proc p))))
      (λ q.
      let on : 5 ≤ k → In y (whos (dropped x M.notices)) =
      λ l. stands l (test (has_notice y M.notices) (λ h. h)
      (λ h. clash (sym (rw (le-leb 5 k l, idle_has c M.notices a spt y (g l), h) at q)))) in
      let s = place_spot c (dropped x M.notices) (drop_on m (x - c.heads) a) (drop_spells c M.notices a spt x p)
      (drop_sorted x M.notices kept.in_order) k y (time_of m a.axis a.times) (record { who = x; due = u }) k6
      on
      (drop_from x (time_of m a.axis a.times) M.notices (rw time_here (rw e (from_first n ns (rw e at kept.in_order))))) in
      rw (
        q,
        leaving_some x (placed k y (record { who = x; due = u }) (dropped x M.notices))
            (ins_new (record { who = x; due = u }) s.puts),
      ) (
        refl,
        respell c M t sp _ _ (stays on s) (put_spells c (dropped x M.notices) (drop_on m (x - c.heads) a)
            (drop_spells c M.notices a spt x p) (record { who = x; due = u }) _ _ p (λ i. drop_gone x M.notices x i refl) s),
      ))
    where
      not_true' : (b : Bool) → not b ≡ true → b ≡ false
      not_true' true q = sym q
      not_true' false q = refl

      stays : (5 ≤ k → In y (whos (dropped x M.notices))) → {q : ℕ}
          → Spot c (dropped x M.notices) (record { who = x; due = u }) q
          (placed k y (record { who = x; due = u }) (dropped x M.notices))
          → NoticesKept M.terminated (placed k y (record { who = x; due = u }) (dropped x M.notices))
      stays on s =
          kept_ins M.terminated (record { who = x; due = u }) (dropped x M.notices)
          (placed k y (record { who = x; due = u }) (dropped x M.notices))
          s.puts
          (placed_sorted k y (record { who = x; due = u }) (dropped x M.notices)
          (λ h. (on h, ud h ∙ sym (drop_due x M.notices y (drop_gone x M.notices y (on h)))))
          (drop_sorted x M.notices kept.in_order))
          ul
          (dropped_within M.terminated M.notices kept x)
          (dropped_idle M.terminated M.notices kept x)
          (not_ended again k x y M f)

      stands : 5 ≤ k → has_notice y M.notices ≡ true → In y (whos (dropped x M.notices))
      stands l h = drop_old x M.notices y (others_y again k x y M l f h) (has_in y M.notices h)

  its_process : (again : Bool) (k x y : ℕ) → Party c x → no_effect again k x y M ≡ false → Process c x
  unfolding no_effect
  its_process again k x y (Party.none q) f = clash (sym (rw (eq-eqb x 0 q) at f))
  its_process again k x y (Party.proc p) f = p

  pub timed_agrees : (again : Bool) (k x y : ℕ) (z : ℤ) → timed_need c k x y ≡ true
      → Agrees c t (timed_drop_first c again k x y z M) (activated m again k (x - c.heads) (y - c.heads) (above z) t.marks a)
  unfolding timed_drop_first activated
  timed_agrees again k x y z g =
      let px : Party c x = party c x (and_right (leb k 6) _ (and_left (leb k 6 && or_none (is_process c x) x) _ g)) in
      let k6 : k ≤ 6 = leb-true k 6 (and_left (leb k 6) _ (and_left (leb k 6 && or_none (is_process c x) x) _ g)) in
      let py : 5 ≤ k → Party c y = λ l. party c y (or_need (leb 5 k) (or_none (is_process c y) y) (le-leb 5 k l)
      (and_right (leb k 6 && or_none (is_process c x) x) _ g)) in
      rw (g, vain_is again k x y px py, due_is k y z py)
      (test (no_effect again k x y M)
      (λ q. rw q (refl, sp))
      (λ q. rw q
      (test (leb (due_for k y z M) limit)
      (λ l. rw l (effective again k x y (due_for k y z M) (its_process again k x y px q) py k6 (leb-true _ _ l) (λ h. due_beside k y z M h)
      q))
      (λ l. rw l (refl, refl)))))
    where
      or_need : (b d : Bool) → b ≡ true → (not b || d) ≡ true → d ≡ true
      or_need true d q r = r
      or_need false d q r = clash q
