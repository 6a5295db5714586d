-- Activation with no clause, and after a delay, by the first notice's place and time.
use Rattle.std.specs.Prelude.{Ok, Err}
use Prim.Native.Nat.{ℕ, suc, ◌+◌, ◌-◌, ◌<◌, ◌≤◌}
use mathlib.Core.Path.{◌≡◌, refl, sym, ◌∙◌}
use mathlib.Core.Bool.{Bool, true, false, not}
use mathlib.Core.Logic.{inl}
use mathlib.Core.List.{List}
use native.Mathlib.Omega.{arith}
use lib.IntN.{ℤ}
use borrow.Author.Tests.{lt-leb}
use Rattle.model.specs.declared.Counts.{Counts}
use Rattle.model.specs.declared.Refusal.TheVariants.{Operand, TimeLimit}
use Rattle.model.specs.Counts.{limit, is_process, place_of}
use Rattle.model.specs.Answers.{Answered}
use Rattle.model.specs.declared.answer.Answer.TheVariants.{Done}
use Rattle.model_laws.specs.Now.{AxisSound, half}
use Rattle.simset_laws.specs.Calls.{or_none}
use Rattle.simulation_laws.specs.Plain.{above}
use Rattle.simulation_laws.specs.Procedures.{put_by_clause, activated}
use Rattle.simulation_laws.specs.Calls.{timed_step}
use Rattle.simulation_laws.specs.Promise.{sqs, Left, Answers, Noticed, Vain, capped_fine, capped_over}
use Rattle.simulation_laws.specs.StepPromise.{need_x, need_plain, refused_3, passed_3}
use Rattle.simulation_procedures.proofs.Arms.{beside_not, due_direct, due_after}
use Rattle.simulation_procedures.proofs.Chained.{active_5, active_0}

-- its time is the first notice's
pub active_now : (m x f time : ℕ) (a t marks : List ℕ) (v : Bool) → Vain false 0 x 0 marks a v → v ≡ false → Noticed m f time a t
    → (a' t' : List ℕ) → Left m (put_by_clause m 0 x 0 time time (sqs a t)) a' t' → Answers m (activated m false 0 x 0 0 marks (sqs a t)) a' t' (Ok Done)
active_now m x f time a t marks v va e n a' t' l =
    let z : time ≡ time + 0 = omega arith in
    active_0 m a t false 0 x 0 0 marks v va e f time time n.place n.read
    (due_direct 0 0 0 time t time refl (z ∙ sym (capped_fine (time + 0) (omega (arith, n.within)))))
    n.within false (beside_not 0 0 a (omega arith)) a' t' refl l

-- or that and the delay
module _ (m x f time d : ℕ) (a t marks : List ℕ) (v : Bool) (va : Vain false 2 x 0 marks a v) (e : v ≡ false) (n : Noticed m f time a t) where
  pub late_5 : AxisSound m a → limit - time < d → Answers m (activated m false 2 x 0 d marks (sqs a t)) a t (Err TimeLimit)
  late_5 s l =
      active_5 m a t false 2 x 0 d marks v va e f time (suc limit) n.place n.read
      (due_after 2 0 d time t (suc limit) (inl refl) (sym (capped_over (time + d) (omega (arith, n.within)))))
      s (omega arith)

  pub late_0 : d ≤ limit - time → (u : ℕ) → u ≡ time + d → (a' t' : List ℕ) → Left m (put_by_clause m 2 x 0 time u (sqs a t)) a' t'
      → Answers m (activated m false 2 x 0 d marks (sqs a t)) a' t' (Ok Done)
  late_0 l u eu a' t' k =
      let h : u ≤ limit = omega (arith, n.within) in
      active_0 m a t false 2 x 0 d marks v va e f time u n.place n.read
      (due_after 2 0 d time t u (inl refl) (eu ∙ sym (capped_fine (time + d) (omega (arith, n.within)))))
      h false (beside_not 2 0 a (omega arith)) a' t' refl k

module _ (c : Counts) (x : ℕ) (axis times marks : List ℕ) (ok : Bool) (is : ok ≡ or_none (is_process c x) x) (k : ℕ) (low : k < 5) (t : ℤ) where
  -- X is no process
  pub soon_3 : AxisSound (half c) axis → not ok ≡ true → Answers (half c) (timed_step c false k x 0 t marks (sqs axis times)) axis times (Err Operand)
  unfolding timed_step
  soon_3 s n = refused_3 _ _ _ _ _ s (sym (need_x c k x 0 (omega arith) ok is n))

  pub soon_0 : not ok ≡ false → (a u : List ℕ) (r : Answered) → Answers (half c) (activated (half c) false k (place_of c x) 0 (above t) marks (sqs axis times)) a u r
      → Answers (half c) (timed_step c false k x 0 t marks (sqs axis times)) a u r
  unfolding timed_step
  soon_0 n a u r w = passed_3 _ _ _ _ _ _ _ (sym (need_plain c k x 0 (omega arith) ok is n low)) (rw (lt-leb 5 k low) w)
