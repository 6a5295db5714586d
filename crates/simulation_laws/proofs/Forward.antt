-- No call takes time back: after an accepted sequencing call the time is at least what it was.
use Rattle.std.specs.Prelude.{ℕ, ◌+◌, ◌≤◌, ◌≡◌, Bool, not, List, ◌∷◌, eqb, leb, ℤ}
use Rattle.std.proofs.Common.{subst, arith, leb-true}
use Rattle.ring_laws.specs.Lists.{In, test}
use Rattle.model.specs.declared.Counts.{Counts}
use Rattle.model.specs.Counts.{main, is_head, is_process}
use Rattle.axis_laws.specs.Notices.{Notice, whos, From, InOrder}
use Rattle.model_laws.specs.Tables.{Lists}
use Rattle.model_laws.specs.Now.{time, current}
use Rattle.simset_laws.specs.Calls.{or_none}
use Rattle.simset_laws.specs.Sets.{precede_sets, exceeds}
use Rattle.simset_laws.specs.Plain.{with_sets}
use Rattle.axis_laws.specs.NoticeOps.{dropped, rest}
use Rattle.simulation_laws.specs.Plain.{with_terminated, above, hold, passivate, wait, cancel, finish}
use Rattle.simulation_laws.specs.Plain.{due_for, placed, no_effect, timed_need, timed}
use Rattle.axis_laws.specs.NoticeLaws.{drop_in, from_due, drop_from}
use Rattle.simulation_laws.specs.StepPromise.{clause_in}
use Rattle.simulation_laws.specs.Replace.{timed_drop_first}
use Rattle.simulation_laws.proofs.Replace.{drop_first}
use Rattle.simulation_laws.specs.Forward.{Later, leaving_later, need_later, unless_later, upto_later, placed_from, behind_later}

-- ---- the calls, on lists whose notices are in order

module _ (l : Lists) (n : Notice) (ns : List Notice) (e : l.notices ≡ n ∷ ns) (o : InOrder (n ∷ ns)) where
  all_from : From (time l) l.notices
  all_from = rw e (omega arith, o.0)

  rest_from : From (time l) (rest l.notices)
  rest_from = rw e o.0

  pub hold_forward : (z : ℤ) → Later (time l) (hold z l)
  unfolding hold
  hold_forward z = upto_later (time l) (time l + above z) _ (behind_later (time l) l _ (rest l.notices) rest_from (omega arith))

  pub passivate_forward : Later (time l) (passivate l)
  unfolding passivate
  passivate_forward = leaving_later (time l) l (rest l.notices) rest_from

  pub cancel_forward : (c : Counts) (x : ℕ) → Later (time l) (cancel c x l)
  unfolding cancel
  cancel_forward c x =
      need_later (time l) (or_none (is_process c x) x) _ (leaving_later (time l) l (dropped x l.notices)
      (drop_from x (time l) l.notices all_from))

  pub finish_forward : (c : Counts) → Later (time l) (finish c l)
  unfolding finish
  finish_forward c =
      need_later (time l) (not (eqb (current l) (main c))) _
      (leaving_later (time l) (with_terminated l (current l ∷ l.terminated)) (rest l.notices) rest_from)

  pub wait_forward : (c : Counts) (y : ℕ) → Later (time l) (wait c y l)
  unfolding wait
  wait_forward c y =
      need_later (time l) (or_none (is_head c y) y) _
      (unless_later (time l) (exceeds (precede_sets (current l) y l.sets)) _
      (leaving_later (time l) (with_sets l (precede_sets (current l) y l.sets)) (rest l.notices) rest_from))

  -- the new notice is due from the present on, if Y has a notice where the clause uses it
  due_forward : (k y : ℕ) (z : ℤ) → (5 ≤ k → In y (whos l.notices)) → time l ≤ due_for k y z l
  unfolding due_for
  due_forward k y z g =
      test (eqb k 0) (λ q. rw q (omega arith)) (λ q.
      test (leb 5 k)
      (λ h. rw (q, h) (from_due (time l) y l.notices all_from (g (leb-true 5 k h))))
      (λ h. rw (q, h) (omega arith)))

  dropped_forward : (c : Counts) (again : Bool) (k x y : ℕ) (z : ℤ) → Later (time l) (timed_drop_first c again k x y z l)
  unfolding timed_drop_first
  dropped_forward c again k x y z =
      test (timed_need c k x y)
      (λ g. rw g
      (test (no_effect again k x y l)
      (λ q. rw q (omega arith))
      (λ q. rw q (upto_later (time l) (due_for k y z l) _
      (leaving_later (time l) l (placed k y (record { who = x; due = due_for k y z l }) (dropped x l.notices))
      (placed_from (time l) k y (record { who = x; due = due_for k y z l }) (dropped x l.notices) (clause_in c k x y g)
      (λ on. due_forward k y z (λ h. drop_in x l.notices y (on h)))
      (drop_from x (time l) l.notices all_from)))))))
      (λ g. rw g tt)

  pub timed_forward : (c : Counts) → (In 0 (whos l.notices) → ⊥) → (again : Bool) (k x y : ℕ) (z : ℤ)
      → Later (time l) (timed c again k x y z l)
  timed_forward c f again k x y z = subst (Later (time l)) (drop_first c again k x y z l (rw e o) f) (dropped_forward c again k x y z)
