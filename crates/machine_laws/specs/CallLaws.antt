-- The laws of each call, and so of a turn: what it schedules, how the notices stand then, and that time does not go back.
use Prim.Native.Nat.{ℕ, ◌+◌, ◌≤◌}
use Rattle.std.specs.Prelude.{◌≡◌, Bool, not, List, [], ◌∷◌, ℤ}
use Rattle.std.proofs.Math.Path.{refl}
use Rattle.std.proofs.Common.{ap, subst, inl}
use Rattle.std.proofs.Math.Bool.{true, false}
use native.Mathlib.Omega.{arith}
use Rattle.std.proofs.Math.Dec.{leb, eqb}
use borrow.Author.Tests.{eq-eqb, eqb-false, leb-true, leb-false}
use Rattle.ring_laws.specs.Lists.{In, test}
use Rattle.ring_laws.specs.Distinct.{Dist}
use Rattle.model.specs.declared.Counts.{Counts}
use Rattle.model.specs.Counts.{limit, main, is_head, is_process}
use Rattle.axis_laws.specs.Notices.{Notice, whos, InOrder}
use Rattle.model_laws.specs.Tables.{Lists}
use Rattle.model_laws.specs.Result.{need, done, refused, Result}
use Rattle.model_laws.specs.Now.{first, time, current}
use Rattle.simset_laws.specs.Calls.{or_none}
use Rattle.simset_laws.specs.Sets.{precede_sets, exceeds}
use Rattle.simset_laws.specs.Plain.{with_sets, sets_after, kinds_fine, crowds, unless_full}
use Rattle.axis_laws.specs.NoticeOps.{behind_all, dropped, has_notice, rest}
use Rattle.axis_laws.specs.NoticeLaws.{rest_drop, drop_in}
use Rattle.axis_laws.specs.BesideLaws.{before_none, after_none}
use Rattle.simulation_laws.specs.AgreeEnds.{has_in, has_none}
use Rattle.simulation_laws.specs.PlacedLaws.{due_beside, others_y}
use Rattle.simulation_laws.specs.StepPromise.{clause_in}
use Rattle.simulation_laws.specs.Replace.{timed_drop_first}
use Rattle.simulation_laws.proofs.Replace.{drop_first}
use Rattle.simulation_laws.specs.Ties.{is_behind}
use Rattle.simulation_laws.specs.Forward.{Later}
use Rattle.simulation_laws.proofs.Forward.{hold_forward, passivate_forward, cancel_forward, finish_forward, wait_forward}
use Rattle.simulation_laws.proofs.Forward.{timed_forward}
use Rattle.simulation_laws.specs.Plain.{with_notices, with_terminated, above, leaving, up_to, due_for, placed, no_effect, timed_need}
use Rattle.simulation_laws.specs.Plain as plain
use Rattle.machine.specs.Calls.{ListCall, on_set, hold, passivate, wait, cancel, activate, if_empty, finish, lists_after}
use Rattle.machine.specs.History.{behind, Placing, nothing, places, how_of, clause_placing, timed_placing, list_placing, Stepwise}
use Rattle.machine_laws.specs.StepLaws.{stepwise_same, stepwise_drop, stepwise_placed}

-- refused, or done with the notices of this law
abbrev pub Notices : Placing → List Notice → Result Lists → Type 0
Notices p old (refused r) = Unit {0}
Notices p old (done l) = Stepwise p old l.notices

module _ (p : Placing) (old : List Notice) where
  by_need : (b : Bool) (r : Result Lists) → Notices p old r → Notices p old (need b r)
  by_need true r f = f
  by_need false r f = tt

  by_full : (b : Bool) (r : Result Lists) → Notices p old r → Notices p old (unless_full b r)
  by_full true r f = tt
  by_full false r f = f

  by_limit : (u : ℕ) (r : Result Lists) → Notices p old r → Notices p old (up_to u r)
  by_limit u r f = test (leb u limit) (λ e. rw e f) (λ e. rw e tt)

  by_leaving : (l : Lists) (ns : List Notice) → Stepwise p old ns → Notices p old (leaving l ns)
  by_leaving l [] f = tt
  by_leaving l (k ∷ ks) f = f

module _ (c : Counts) (l : Lists) (n : Notice) (ns : List Notice) (e : l.notices ≡ n ∷ ns) (o : InOrder l.notices)
    (d : Dist (whos l.notices))
    (no_zero : In 0 (whos l.notices) → ⊥) where
  abbrev old : List Notice
  old = l.notices

  -- all but the first is: current's taken out
  rest_is : rest l.notices ≡ dropped (current l) l.notices
  rest_is = rw e (rest_drop n ns (rw e at d))

  rest_gone : Stepwise nothing old (rest old)
  rest_gone = rw rest_is (stepwise_drop (current l) old)

  hold_notices : (z : ℤ) → Notices (places (current l) behind) old (plain.hold z l)
  unfolding plain.hold how_of
  hold_notices z =
      let u : ℕ = time l + above z in
      let m : Notice = record { who = current l; due = u } in
      by_limit (places (current l) behind) old u (done (with_notices l (behind_all m (rest old))))
      (rw rest_is
      (subst (Stepwise (places (current l) behind) old) (is_behind 0 m (dropped (current l) old) 1 (inl refl))
      (stepwise_placed 1 0 m old o d (omega arith) (λ f. absurd (five f)))))
    where
      five : 5 ≤ 1 → ⊥
      five f = omega arith

  -- x's notice by its clause; beside a Y without one it is only taken out
  module _ (again : Bool) (k x y : ℕ) (z : ℤ) (k6 : k ≤ 6) (f : no_effect again k x y l ≡ false) where
    abbrev its : Notice
    its = record { who = x; due = due_for k y z l }

    left_out : leb 5 k ≡ true → has_notice y old ≡ false → placed k y its (dropped x old) ≡ dropped x old
    unfolding placed
    left_out l5 h =
        let none : In y (whos (dropped x old)) → ⊥ = λ i. has_none y old h (drop_in x old y i) in
        test (eqb k 5)
        (λ q. rw q (before_none y its (dropped x old) none))
        (λ q. rw (q, six q) (after_none y its (dropped x old) none))
      where
        six : eqb k 5 ≡ false → eqb k 6 ≡ true
        six q = eq-eqb k 6 (omega (arith, eqb-false k 5 q, leb-true 5 k l5))

    clause_notices : Stepwise (clause_placing k x y l) old (placed k y its (dropped x old))
    unfolding clause_placing
    clause_notices =
        test (leb 5 k)
        (λ l5. test (has_notice y old)
        (λ h. rw (l5, h)
        (stepwise_placed k y its old o d k6 (λ q. (has_in y old h, others_y again k x y l q f h, due_beside k y z l q))))
        (λ h. rw (l5, h, left_out l5 h) (stepwise_drop x old)))
        (λ l5. rw l5 (stepwise_placed k y its old o d k6 (λ q. absurd (less q l5))))
      where
        less : 5 ≤ k → leb 5 k ≡ false → ⊥
        less q l5 = omega (arith, leb-false 5 k l5)

  dropped_notices : (again : Bool) (k x y : ℕ) (z : ℤ) → Notices (timed_placing again k x y l) old (timed_drop_first c again k x y z l)
  unfolding timed_drop_first
  dropped_notices again k x y z =
      test (timed_need c k x y)
      (λ g. rw g (test (no_effect again k x y l)
      (λ f. rw f (stepwise_same old))
      (λ f. rw f (by_limit (clause_placing k x y l) old (due_for k y z l) _
      (by_leaving (clause_placing k x y l) old l _ (clause_notices again k x y z (clause_in c k x y g) f))))))
      (λ g. rw g tt)

  timed_notices : (again : Bool) (k x y : ℕ) (z : ℤ) → Notices (timed_placing again k x y l) old (plain.timed c again k x y z l)
  timed_notices again k x y z =
      subst (Notices (timed_placing again k x y l) old) (drop_first c again k x y z l o no_zero) (dropped_notices again k x y z)

  pub call_notices : (k : ListCall) → Notices (list_placing k l) old (lists_after c k l)
  unfolding list_placing lists_after plain.passivate plain.wait plain.cancel plain.finish
  call_notices (on_set k) =
      by_need nothing old (kinds_fine c k) _
      (by_full nothing old (crowds k l.sets) (done (with_sets l (sets_after k l.sets))) (stepwise_same old))
  call_notices (hold z) = hold_notices z
  call_notices passivate = by_leaving nothing old l (rest old) rest_gone
  call_notices (wait y) =
      by_need nothing old (or_none (is_head c y) y) _
      (by_full nothing old (exceeds (precede_sets (current l) y l.sets)) _
      (by_leaving nothing old (with_sets l (precede_sets (current l) y l.sets)) (rest old) rest_gone))
  call_notices (cancel x) = by_need nothing old (or_none (is_process c x) x)
      _ (by_leaving nothing old l (dropped x old) (stepwise_drop x old))
  call_notices (activate again k x y z) = timed_notices again k x y z
  call_notices (if_empty x) = by_need nothing old (is_head c x) (done l) (stepwise_same old)
  call_notices finish =
      by_need nothing old (not (eqb (current l) (main c))) _
      (by_leaving nothing old (with_terminated l (current l ∷ l.terminated)) (rest old) rest_gone)

  -- no call takes time back
  set_later : (b f : Bool) (k : Lists) → k.notices ≡ old → Later (time l) (need b (unless_full f (done k)))
  set_later true false k q = rw (ap (λ (m : List Notice). (first m).due) q) (omega arith)
  set_later true true k q = tt
  set_later false f k q = tt

  pub call_forward : (k : ListCall) → Later (time l) (lists_after c k l)
  unfolding lists_after
  call_forward (on_set k) = set_later (kinds_fine c k) (crowds k l.sets) (with_sets l (sets_after k l.sets)) refl
  call_forward (hold z) = hold_forward l n ns e (rw e at o) z
  call_forward passivate = passivate_forward l n ns e (rw e at o)
  call_forward (wait y) = wait_forward l n ns e (rw e at o) c y
  call_forward (cancel x) = cancel_forward l n ns e (rw e at o) c x
  call_forward (activate again k x y z) = timed_forward l n ns e (rw e at o) c no_zero again k x y z
  call_forward (if_empty x) = set_later (is_head c x) false l refl
  call_forward finish = finish_forward l n ns e (rw e at o) c
