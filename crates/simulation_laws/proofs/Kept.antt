-- A refused sequencing call changes no word, whatever the tables.
use Prim.Native.Nat.{ℕ, ◌+◌}
use Rattle.std.specs.Prelude.{◌≡◌, refl, Bool, ◌&&◌, List, eqb, ℤ, if◌then◌else◌}
use Rattle.std.proofs.Math.Bool.{true, false}
use Rattle.std.proofs.Math.Dec.{leb}
use Rattle.ring_laws.specs.Lists.{test, clash}
use Rattle.model.specs.declared.Counts.{Counts}
use Rattle.model.specs.declared.Refusal.TheVariants.{Operand, NoNotice, TimeLimit}
use Rattle.model.specs.Counts.{limit, is_head, is_process, place_of, linkage_at}
use Rattle.model_laws.specs.Now.{half, first_of, time_of}
use Rattle.model_laws.specs.Result.{KeepsRefused}
use Rattle.simset_laws.specs.Calls.{or_none}
use Rattle.simset_laws.specs.Full.{full_for}
use Rattle.simulation_laws.specs.Plain.{above, timed_need}
use Rattle.simulation_laws.specs.Procedures.{Sqs, made, turned_down, idle_at, lone, drop_on, held_to, held, passivated}
use Rattle.simulation_laws.specs.Procedures.{cancelled, vain, due_at, put_by_clause, activated, finished_marks}
use Rattle.simulation_laws.specs.Calls.{y_place, sqs_of, hold_step, passivate_step, cancel_step, timed_step, finish_step, wait_step, on_sqs}
use Rattle.simulation_laws.specs.Calls.{on_marks, on_sets}
-- ---- on the sequencing set
use Rattle.simulation_laws.specs.Kept.{Keeps, made_kept, down_kept, if_kept, sqs_kept}

module _ (m : ℕ) (a : Sqs) where
  held_kept : (d : ℕ) → Keeps a (held m d a)
  unfolding held
  held_kept d =
      if_kept a (leb (time_of m a.axis a.times + d) limit) (made (held_to m (time_of m a.axis a.times + d) a))
      (turned_down TimeLimit a)
      (made_kept a _) (down_kept a TimeLimit)

  passivated_kept : Keeps a (passivated m a)
  unfolding passivated
  passivated_kept = if_kept a (lone m a) (turned_down NoNotice a) (made (drop_on m (first_of m a.axis) a)) (down_kept a NoNotice)
      (made_kept a _)

  cancelled_kept : (x : ℕ) → Keeps a (cancelled m x a)
  unfolding cancelled
  cancelled_kept x =
      if_kept a (idle_at a x) (made a) (if lone m a then turned_down NoNotice a else made (drop_on m x a))
      (made_kept a a) (if_kept a (lone m a) (turned_down NoNotice a) (made (drop_on m x a)) (down_kept a NoNotice) (made_kept a _))

  activated_kept : (again : Bool) (k x y d : ℕ) (marks : List ℕ) → Keeps a (activated m again k x y d marks a)
  unfolding activated
  activated_kept again k x y d marks =
      let now : ℕ = time_of m a.axis a.times in
      let u : ℕ = due_at k y d now a.times in
      if_kept a (vain again k x y marks a.axis) (made a)
      (if leb u limit then (if leb 5 k && idle_at a y then cancelled m x a else made
      (put_by_clause m k x y now u a)) else turned_down TimeLimit a)
      (made_kept a a)
      (if_kept a (leb u limit) (if leb 5 k && idle_at a y then cancelled m x a else made (put_by_clause m k x y now u a))
      (turned_down TimeLimit a)
      (if_kept a (leb 5 k && idle_at a y) (cancelled m x a) (made (put_by_clause m k x y now u a)) (cancelled_kept x) (made_kept a _))
      (down_kept a TimeLimit))

module _ (c : Counts) where
  pub hold_steps : (z : ℤ) → KeepsRefused (on_sqs (λ k a. hold_step c z a))
  unfolding hold_step
  hold_steps z = sqs_kept _ (λ k a. held_kept (half c) a (above z))

  pub passivate_steps : KeepsRefused (on_sqs (λ k a. passivate_step c a))
  unfolding passivate_step
  passivate_steps = sqs_kept _ (λ k a. passivated_kept (half c) a)

  pub cancel_steps : (x : ℕ) → KeepsRefused (on_sqs (λ k a. cancel_step c x a))
  unfolding cancel_step
  cancel_steps x =
      sqs_kept _ (λ k a.
      if_kept a (or_none (is_process c x) x) (cancelled (half c) (place_of c x) a) (turned_down Operand a)
      (cancelled_kept (half c) a (place_of c x)) (down_kept a Operand))

  pub timed_steps : (again : Bool) (k x y : ℕ) (z : ℤ) → KeepsRefused (on_sqs (λ m a. timed_step c again k x y z m a))
  unfolding timed_step
  timed_steps again k x y z =
      sqs_kept _ (λ m a.
      if_kept a (timed_need c k x y) (activated (half c) again k (place_of c x) (y_place c k y) (above z) m a) (turned_down Operand a)
      (activated_kept (half c) a again k (place_of c x) (y_place c k y) (above z) m) (down_kept a Operand))

  pub finish_steps : KeepsRefused (on_marks (λ k a. finish_step c k a))
  unfolding finish_step finished_marks passivated
  finish_steps t r =
      test (eqb (first_of (half c) t.axis) 1)
      (λ q. rw q (λ e. refl))
      (λ q. rw q (test (lone (half c) (sqs_of t)) (λ h. rw h (λ e. refl)) (λ h. rw h (λ e. let z : false ≡ true = cc in clash z))))

  pub wait_steps : (y : ℕ) → KeepsRefused (on_sets (λ k a. wait_step c y k a))
  unfolding wait_step
  wait_steps y t r =
      test (or_none (is_head c y) y)
      (λ q. rw q (test (full_for c (linkage_at c (first_of (half c) t.axis)) y t.links)
      (λ f. rw f (λ e. refl))
      (λ f. rw f (test (lone (half c) (sqs_of t)) (λ h. rw h (λ e. refl)) (λ h. rw h (λ e. let z : false ≡ true = cc in clash z))))))
      (λ q. rw q (λ e. refl))
