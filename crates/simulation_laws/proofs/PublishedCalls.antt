-- Demand 2 for the class SIMULATION: for every well-formed model each public sequencing call leaves the notices, sets, terminated processes
-- and answer that the published procedure leaves, or refuses as stated: 4 for ERROR, 5 for a time above the limit, 3 for an operand of the
-- wrong kind, which `need` puts first. The published procedures are those of Published.antt; set calls have theirs, statement by
-- statement, in simset_laws/specs/Procedures.antt, and Meaning.antt beside it.
use Rattle.std.specs.Prelude.{ℕ, ◌+◌, ◌≡◌, refl, ◌≢◌, Bool, not, eqb, leb, ℤ}
use Rattle.std.proofs.Common.{sym, ◌∙◌, subst, inl, arith, eqb-true}
use Rattle.std.proofs.Math.Path.{ap}
use mathlib.Core.List.{List, [], ◌∷◌}
use Rattle.std.proofs.lemmas.Bool.{eqb-false}
use Rattle.ring_laws.specs.Lists.{In, test}
use Rattle.ring_laws.specs.Distinct.{Dist}
use Rattle.model.specs.declared.Counts.{Counts}
use Rattle.model.specs.Counts.{main, is_head, is_process}
use Rattle.model.specs.Answers.{Answered}
use Rattle.axis_laws.specs.Notices.{Notice, whos, InOrder}
use Rattle.model_laws.specs.Tables.{Tables, Lists, After, Sized, Spells}
use Rattle.model_laws.specs.Formed.{notice_each, notice_process}
use Rattle.model_laws.specs.Called.{called}
use Rattle.model_laws.specs.Result.{Follows, need, done, Result}
use Rattle.model_laws.specs.NowLaws.{Split, splits}
use Rattle.model_laws.specs.Now.{time, current}
use Rattle.simset_laws.specs.Calls.{or_none}
use Rattle.simset_laws.specs.Sets.{precede_sets, exceeds}
use Rattle.simset_laws.specs.Plain.{with_sets, unless_full}
use Rattle.axis_laws.specs.NoticeOps.{behind_all, dropped, has_notice, rest}
use Rattle.axis_laws.specs.NoticeLaws.{drop_old, drop_none, rest_drop}
use Rattle.simulation_laws.specs.AgreeEnds.{has_none}
use Rattle.simulation_laws.specs.Calls.{hold_step, passivate_step, cancel_step, timed_step, finish_step, wait_step, on_sqs, on_marks, on_sets}
use Rattle.simulation_laws.specs.Plain.{with_notices, with_terminated, up_to, leaving, above, timed_need}
use Rattle.simulation_laws.specs.Plain as plain
use Rattle.simulation_laws.specs.Published.{added_to, held_first, clause_code, clause_prior, ACTIVATE}
use Rattle.simulation_laws.specs.Published as published
use Rattle.simulation_laws.proofs.RankLaws.{rank_behind}
use Rattle.simulation_laws.specs.ActivateLaws.{error_is}
use Rattle.simulation_laws.proofs.ActivateLaws.{activate_is}
use Rattle.simulation_laws.proofs.Meaning.{hold_means, passivate_means, wait_means, cancel_means, finish_means, timed_means}
-- ---- the plain machine's calls are the published procedures
use Rattle.simulation_laws.specs.PublishedCalls.{added_is}

held_first_lem : (n : Notice) (ns : List Notice) → InOrder ns → held_first n ns ≡ behind_all n ns
held_first_lem n [] o = refl
held_first_lem n (k ∷ ks) o =
    test (leb k.due n.due)
    (λ e. rw e (rank_behind n (k ∷ ks) o ∙ (rw e refl)))
    (λ e. rw e refl)

module _ (l : Lists) (n : Notice) (ns : List Notice) (e : l.notices ≡ n ∷ ns) (o : InOrder (n ∷ ns)) (d : Dist (whos (n ∷ ns))) where
  pub hold_is : (T : ℤ) → published.hold T l ≡ plain.hold T l
  unfolding published.hold plain.hold
  hold_is T =
      rw (added_is (time l) T)
      (ap (λ (k : List Notice). up_to (time l + above T) (done (with_notices l k)))
      (held_first_lem (record { who = current l; due = time l + above T }) (rest l.notices)
      (subst (λ (ms : List Notice). InOrder (rest ms)) (sym e) o.1)))

  -- current's notice taken out is all but the first
  out_is : dropped (current l) l.notices ≡ rest l.notices
  out_is = rw e (sym (rest_drop n ns d))

  pub passivate_is : published.passivate l ≡ plain.passivate l
  unfolding published.passivate plain.passivate
  passivate_is = error_is l (dropped (current l) l.notices) ∙ ap (leaving l) out_is

  pub wait_is : (c : Counts) (y : ℕ)
      → need (or_none (is_head c y) y) (unless_full (exceeds (precede_sets (current l) y l.sets)) (published.wait y l)) ≡ plain.wait c y l
  unfolding published.wait published.passivate plain.wait
  wait_is c y =
      let k : Lists = with_sets l (precede_sets (current l) y l.sets) in
      ap (λ (r : Result Lists). need (or_none (is_head c y) y) (unless_full (exceeds k.sets) r))
      (error_is k (dropped (current l) l.notices) ∙ ap (leaving k) out_is)

  pub finish_is : (c : Counts) → need (not (eqb (current l) (main c))) (published.terminate l) ≡ plain.finish c l
  unfolding published.terminate published.passivate plain.finish
  finish_is c =
      let k : Lists = with_terminated l (current l ∷ l.terminated) in
      ap (need (not (eqb (current l) (main c)))) (error_is k (dropped (current l) l.notices) ∙ ap (leaving k) out_is)

  -- another's notice taken out leaves current's
  others_left : (x : ℕ) → x ≢ current l → done (with_notices l (dropped x l.notices)) ≡ leaving l (dropped x l.notices)
  others_left x f =
      go (dropped x l.notices)
      (drop_old x l.notices (current l) (λ q. f (sym q)) (rw e (inl refl)))
    where
      go : (k : List Notice) → In (current l) (whos k) → done (with_notices l k) ≡ leaving l k
      go [] i = absurd i
      go (a ∷ k) i = refl

  cancelled_is : (In 0 (whos l.notices) → ⊥) → (x : ℕ) → published.cancel x l ≡ leaving l (dropped x l.notices)
  unfolding published.cancel published.passivate
  cancelled_is f x =
      test (eqb x (current l))
      (λ q. rw q (error_is l (dropped (current l) l.notices) ∙ ap (λ (p : ℕ). leaving l (dropped p l.notices))
      (sym (eqb-true x (current l) q))))
      (λ q.
      let same : (In x (whos l.notices) → ⊥) → done l ≡ leaving l (dropped x l.notices) =
      λ g. ap (λ (k : List Notice). done (with_notices l k)) (sym (drop_none x l.notices g))
      ∙ others_left x (eqb-false x (current l) q) in
      rw q (test (eqb x 0)
      (λ z. rw z (same (λ i. f (subst (λ (p : ℕ). In p (whos l.notices)) (eqb-true x 0 z) i))))
      (λ z. rw z (test (has_notice x l.notices)
      (λ h. rw h (others_left x (eqb-false x (current l) q)))
      (λ h. rw h (same (has_none x l.notices h)))))))

  pub cancel_is : (In 0 (whos l.notices) → ⊥) → (c : Counts) (x : ℕ)
      → need (or_none (is_process c x) x) (published.cancel x l) ≡ plain.cancel c x l
  unfolding plain.cancel
  cancel_is f c x = ap (need (or_none (is_process c x) x)) (cancelled_is f x)

-- ---- what the public calls leave

module _ (c : Counts) (l : Lists) (t : Tables) (w : Sized c t) (s : Spells c l t) where
  sp : Split l.notices
  sp = splits l.notices s.some

  o : InOrder (sp.head ∷ sp.rest)
  o = rw sp.is at s.in_order

  d : Dist (whos (sp.head ∷ sp.rest))
  d = rw sp.is at (notice_each c l t s)

  no_zero : In 0 (whos l.notices) → ⊥
  no_zero i = omega (arith, notice_process c l t s 0 i)

  leaves : (r q : Result Lists) (a : After Answered) → r ≡ q → Follows c t q a → Follows c t r a
  leaves r q a p f = subst (λ (r : Result Lists). Follows c t r a) (sym p) f

  pub hold_leaves : (T : ℤ) → Follows c t (published.hold T l) (called c (on_sqs (λ k a. hold_step c T a)) t)
  hold_leaves T = leaves _ _ _ (hold_is l sp.head sp.rest sp.is o d T) (hold_means c l t w s T)

  pub passivate_leaves : Follows c t (published.passivate l) (called c (on_sqs (λ k a. passivate_step c a)) t)
  passivate_leaves = leaves _ _ _ (passivate_is l sp.head sp.rest sp.is o d) (passivate_means c l t w s)

  pub wait_leaves : (y : ℕ)
      → Follows c t (need (or_none (is_head c y) y) (unless_full (exceeds (precede_sets (current l) y l.sets)) (published.wait y l)))
      (called c (on_sets (λ k a. wait_step c y k a)) t)
  wait_leaves y = leaves _ _ _ (wait_is l sp.head sp.rest sp.is o d c y) (wait_means c l t w s y)

  pub cancel_leaves : (x : ℕ)
      → Follows c t (need (or_none (is_process c x) x) (published.cancel x l)) (called c (on_sqs (λ k a. cancel_step c x a)) t)
  cancel_leaves x = leaves _ _ _ (cancel_is l sp.head sp.rest sp.is o d no_zero c x) (cancel_means c l t w s x)

  -- main can't finish by call
  pub finish_leaves : Follows c t (need (not (eqb (current l) (main c))) (published.terminate l))
      (called c (on_marks (λ k a. finish_step c k a)) t)
  finish_leaves = leaves _ _ _ (finish_is l sp.head sp.rest sp.is o d c) (finish_means c l t w s)

  -- activate with again false, reactivate with again true; k is the clause
  pub activate_leaves : (again : Bool) (k x y : ℕ) (T : ℤ)
      → Follows c t (need (timed_need c k x y) (ACTIVATE again x (clause_code k) T y (clause_prior k) l))
      (called c (on_sqs (λ m a. timed_step c again k x y T m a)) t)
  activate_leaves again k x y T = leaves _ _ _ (activate_is c again k x y T l sp.head sp.rest sp.is s.in_order
      s.within no_zero) (timed_means c l t w s again k x y T)
