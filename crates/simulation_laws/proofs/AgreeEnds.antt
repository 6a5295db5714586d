-- Passivate, cancel, finish and wait on tables that spell lists do what the plain calls do, with the same refusals.
use Rattle.std.specs.Prelude.{ℕ, suc, ◌+◌, ◌-◌, ◌<◌, ◌≡◌, refl, true, false, not, eqb, set, if◌then◌else◌}
use Rattle.std.proofs.Math.Path.{sym, subst}
use Rattle.std.proofs.Common.{ap, ◌∙◌, inl, inr, ⊎_elim, arith}
use mathlib.Core.List.{List, [], ◌∷◌}
use Rattle.std.proofs.Math.ListN.{length}
use borrow.Author.Tests.{eq-eqb, ne_eqb}
use Rattle.ring_laws.specs.Lists.{clash, In, decide, test}
use Rattle.ring_laws.specs.Tabulate.{listed, has, bit}
use Rattle.model.specs.declared.Counts.{Counts}
use Rattle.model.specs.declared.Refusal.TheVariants.{NoNotice}
use Rattle.model.specs.Counts.{main, is_head, is_process}
use Rattle.axis_laws.specs.Notices.{Notice, whos}
use Rattle.model_laws.specs.Tables.{Tables, Lists, Spells}
use Rattle.model_laws.specs.Now.{first, current, half, first_of}
use Rattle.model_laws.specs.Result.{refused}
use Rattle.simset_laws.specs.Calls.{or_none}
use Rattle.simset_laws.specs.Sets.{precede_sets, exceeds}
use Rattle.simset_laws.specs.Plain.{with_sets}
use Rattle.axis_laws.specs.NoticeOps.{dropped, has_notice, rest}
use Rattle.simulation_laws.specs.Plain.{with_notices, with_terminated, leaving, passivate, wait, cancel, finish}
use Rattle.axis_laws.specs.NoticeLaws.{drop_old, drop_none}
use Rattle.simulation_laws.specs.NoticesKept.{NoticesKept, some_in, kept_drop, kept_rest}
use Rattle.simulation_laws.specs.Procedures.{made, turned_down, lone, drop_on, passivated, cancelled, finished_marks}
use Rattle.axis_laws.specs.ByDue.{listed_set}
use Rattle.simulation_laws.specs.Places.{SpellsTime, once, is_process_lem, drop_spells}
use Rattle.axis_laws.specs.Notices.{Process}
use Rattle.simulation_laws.specs.Agree.{with_sqs, Agrees, AgreesMarked, respell}
use Rattle.simulation_laws.proofs.Agree.{first_is, process_first, rest_spells, lone_yes}
use Rattle.simulation_laws.proofs.Agree.{lone_no, st, kt}
use Rattle.simulation_laws.specs.Calls.{sqs_of}
use Rattle.simulation_laws.specs.AgreeEnds.{Ended, Party, party, has_in, has_none, leaving_some, idle_has}

module _ (c : Counts) (M : Lists) (t : Tables) (sp : Spells c M t) (n : Notice) (ns : List Notice) (e : M.notices ≡ n ∷ ns) where
  pub passivate_agrees : Agrees c t (passivate M) (passivated (half c) (sqs_of t))
  unfolding passivate passivated
  passivate_agrees = subst (λ (l : List Notice). Agrees c t (leaving M (rest l)) (passivated (half c) (sqs_of t))) (sym e)
      (go ns (kt c M t sp n ns e) (st c M t sp n ns e))
    where
      go : (ns : List Notice) → NoticesKept M.terminated (n ∷ ns) → SpellsTime c (n ∷ ns) (sqs_of t)
          → Agrees c t (leaving M ns)
          (if lone (half c) (sqs_of t) then turned_down NoNotice (sqs_of t) else made (drop_on (half c) (first_of (half c) t.axis) (sqs_of t)))
      go [] w s = rw (lone_yes c n (sqs_of t) s) (refl, refl)
      go (k ∷ ks) w s =
          rw (lone_no c n k ks (sqs_of t) s)
          (refl, respell c M t sp (k ∷ ks) _ (kept_rest M.terminated n (k ∷ ks) w (omega arith)) (rest_spells c n (k ∷ ks) (sqs_of t) s))

  -- x's notice goes
  pub drop_agrees : (x : ℕ) → Party c x → Agrees c t (leaving M (dropped x (n ∷ ns))) (cancelled (half c) (x - c.heads) (sqs_of t))
  unfolding cancelled
  drop_agrees x p =
      test (has_notice x (n ∷ ns))
      (λ h. rw (idle_has c (n ∷ ns) (sqs_of t) (st c M t sp n ns e) x p, h)
      (some ns (kt c M t sp n ns e) (st c M t sp n ns e) (has_in x (n ∷ ns) h)))
      (λ h.
      rw (idle_has c (n ∷ ns) (sqs_of t) (st c M t sp n ns e) x p, h, drop_none x (n ∷ ns) (has_none x (n ∷ ns) h))
      (refl, respell c M t sp (n ∷ ns) (sqs_of t) (kt c M t sp n ns e) (st c M t sp n ns e)))
    where
      some : (ns : List Notice) → NoticesKept M.terminated (n ∷ ns) → SpellsTime c (n ∷ ns) (sqs_of t) → In x (whos (n ∷ ns))
          → Agrees c t (leaving M (dropped x (n ∷ ns)))
          (if lone (half c) (sqs_of t) then turned_down NoNotice (sqs_of t) else made (drop_on (half c) (x - c.heads) (sqs_of t)))
      some [] w s (inl q) = rw (lone_yes c n (sqs_of t) s, eq-eqb n.who x (sym q)) (refl, refl)
      some [] w s (inr i) = absurd i
      some (k ∷ ks) w s i =
          let r : 0 < length (dropped x (n ∷ k ∷ ks)) → Spells c (with_notices M (dropped x (n ∷ k ∷ ks)))
          (with_sqs t (drop_on (half c) (x - c.heads) (sqs_of t))) =
          λ l. respell c M t sp (dropped x (n ∷ k ∷ ks)) (drop_on (half c) (x - c.heads) (sqs_of t))
          (kept_drop M.terminated (n ∷ k ∷ ks) w x l) (drop_spells c (n ∷ k ∷ ks) (sqs_of t) s x
          (is_process_lem c (n ∷ k ∷ ks) (sqs_of t) s x i)) in
          rw (lone_no c n k ks (sqs_of t) s)
          (decide n.who x
          (λ q.
          let o = drop_old x (n ∷ k ∷ ks) k.who (λ g. (once c (n ∷ k ∷ ks) (sqs_of t) s).0 (inl (q ∙ sym g))) (inr (inl refl)) in
          rw (leaving_some M k.who (dropped x (n ∷ k ∷ ks)) o) (refl, r (some_in k.who (dropped x (n ∷ k ∷ ks)) o)))
          (λ d.
          let o = drop_old x (n ∷ k ∷ ks) n.who d (inl refl) in
          rw (leaving_some M n.who (dropped x (n ∷ k ∷ ks)) o) (refl, r (some_in n.who (dropped x (n ∷ k ∷ ks)) o))))

  pub cancel_agrees : (x : ℕ) → or_none (is_process c x) x ≡ true → Agrees c t (cancel c x M) (cancelled (half c) (x - c.heads) (sqs_of t))
  unfolding cancel
  cancel_agrees x g =
      rw g (subst (λ (l : List Notice). Agrees c t (leaving M (dropped x l)) (cancelled (half c) (x - c.heads) (sqs_of t))) (sym e)
      (drop_agrees x (party c x g)))

  marks_set : (x : ℕ) → Process c x → set t.marks (x - c.heads) 1
      ≡ 0 ∷ listed (λ p. bit (has (c.heads + p) (x ∷ M.terminated))) 1 c.processes
  marks_set x p =
      let k = x - c.heads - 1 in
      let h : x - c.heads ≡ suc k = omega (arith, p) in
      let g : c.heads + (1 + k) ≡ x = omega (arith, p) in
      rw (sp.marks, h)
      (ap (λ (r : List ℕ). 0 ∷ r)
      (listed_set (λ j. bit (has (c.heads + j) M.terminated)) (λ j. bit (has (c.heads + j) (x ∷ M.terminated))) c.processes 1 k 1
      (omega (arith, p))
      (rw (eq-eqb x (c.heads + (1 + k)) (sym g)))
      (λ j d. rw (ne_eqb x (c.heads + j) (λ q. d (omega arith))))))

  pub finish_agrees : not (eqb (current M) (main c)) ≡ true
      → AgreesMarked c t (finish c M) (passivated (half c) (sqs_of t)) (finished_marks (half c) t.marks (sqs_of t))
  unfolding finish passivated finished_marks
  finish_agrees g =
      rw g (subst (λ (l : List Notice). AgreesMarked c t (leaving (with_terminated M ((first l).who ∷ M.terminated)) (rest l))
      (passivated (half c) (sqs_of t)) (finished_marks (half c) t.marks (sqs_of t))) (sym e)
      (go ns (kt c M t sp n ns e) (st c M t sp n ns e)))
    where
      own : Process c n.who → (ns : List Notice) → (In n.who (whos ns) → ⊥) → Ended c n.who ns
      own p ns f = (p.over, p.upto, λ q. off q, f)
        where
          off : n.who ≡ main c → ⊥
          off q = clash (sym (rw (e, eq-eqb n.who (main c) q)) ∙ g)

      go : (ns : List Notice) → NoticesKept M.terminated (n ∷ ns) → SpellsTime c (n ∷ ns) (sqs_of t)
          → AgreesMarked c t (leaving (with_terminated M (n.who ∷ M.terminated)) ns) (passivated (half c) (sqs_of t))
          (finished_marks (half c) t.marks (sqs_of t))
      go [] w s = rw (lone_yes c n (sqs_of t) s) (refl, refl, refl)
      go (k ∷ ks) w s =
          let r : SpellsTime c (k ∷ ks) (drop_on (half c) (first_of (half c) t.axis) (sqs_of t)) = rest_spells c n (k ∷ ks) (sqs_of t) s in
          rw (lone_no c n k ks (sqs_of t) s) (
            refl,
            record {
              links = sp.links;
              limited = sp.limited;
              axis = r.axis;
              times = r.times;
              marks = rw (first_is c n (k ∷ ks) (sqs_of t) s) (marks_set n.who (process_first c n (k ∷ ks) (sqs_of t) s));
              some = omega arith;
              in_order = w.in_order.1;
              within = w.within.1;
              ended = λ x i. ⊎_elim
                  (λ q. subst (λ (j : ℕ). Ended c j (k ∷ ks)) (sym q) (own (process_first c n (k ∷ ks) (sqs_of t) s) (k ∷ ks)
                  (once c (n ∷ k ∷ ks) (sqs_of t) s).0))
                  (λ j. let e = sp.ended x j in (e.0, e.1, e.2, λ g. w.idle x j (inr g)))
                  i;
            },
          )

-- ---- wait: with no second notice it is refused, whatever becomes of the sets; else it is into, then passivate
module _ (c : Counts) (M : Lists) (t : Tables) (sp : Spells c M t) (n : Notice) (ns : List Notice) (e : M.notices ≡ n ∷ ns) where
  pub lone_leaves : (M' : Lists) → lone (half c) (sqs_of t) ≡ true → leaving M' (rest M.notices) ≡ refused NoNotice
  lone_leaves M' l = subst (λ (k : List Notice). leaving M' (rest k) ≡ refused NoNotice) (sym e) (go ns (st c M t sp n ns e))
    where
      go : (ns : List Notice) → SpellsTime c (n ∷ ns) (sqs_of t) → leaving M' ns ≡ refused NoNotice
      go [] s = refl
      go (k ∷ ks) s = clash (sym (lone_no c n k ks (sqs_of t) s) ∙ l)

  -- t is what `into` left, M the machine with its sets
  pub wait_agrees : (y : ℕ) (M₀ : Lists) → or_none (is_head c y) y ≡ true → exceeds (precede_sets (current M₀) y M₀.sets) ≡ false
      → M ≡ with_sets M₀ (precede_sets (current M₀) y M₀.sets) → Agrees c t (wait c y M₀) (passivated (half c) (sqs_of t))
  unfolding wait passivate
  wait_agrees y M₀ g room q =
      rw (g, room) (subst (λ (k : Lists). Agrees c t (leaving k (rest k.notices)) (passivated (half c) (sqs_of t))) q
      (passivate_agrees c M t sp n ns e))
