-- What the calls' code answers, from its tests and calls.
use Rattle.std.specs.Prelude.{ℕ, ◌+◌, ◌<◌, ◌≤◌, ◌≡◌, ◌≢◌, Bool, true, false, not, ◌&&◌, ◌||◌, leb, ltb, if◌then◌else◌, Err}
use Rattle.std.proofs.Common.{sym, ap₂, ◌∙◌, arith, eq-eqb, ne_eqb, le-leb, leb-true}
use mathlib.Core.List.{List}
use Rattle.std.proofs.lemmas.Bool.{lt-leb, not-true, not-false}
use Rattle.ring_laws.specs.Lists.{test, clash}
use Rattle.ring_laws.specs.Table.{Sound}
use Rattle.model.specs.declared.Counts.{Counts}
use Rattle.model.specs.declared.Refusal.TheVariants.{Operand}
use Rattle.model.specs.Counts.{total, is_process, place_of, both}
use Rattle.model.specs.Answers.{Answered}
use Rattle.model_laws.specs.Now.{AxisSound, half, first_of}
use Rattle.simset_laws.specs.Calls.{or_none}
use Rattle.simset_laws.specs.Promise.{none_or}
use Rattle.simulation_laws.specs.Plain.{timed_need}
use Rattle.simulation_laws.specs.Procedures.{Outcome, turned_down, passivated, finished_marks}
use Rattle.simulation_laws.specs.Calls.{y_place, Marked, Waited, finish_step}
use Rattle.simulation_laws.specs.Promise.{sqs, Answers, AnswersMarked, Place, Judged}

pub record FinishMade (c : Counts) (want : Marked) (axis times marks : List ℕ) (r : Answered) : Type 0 where
  pub is : record { outcome = record { answer = r; left = sqs axis times }; marks = marks } ≡ want
  pub sound : AxisSound (half c) axis

pub record WaitMade (c : Counts) (want : Waited) (links axis times : List ℕ) (r : Answered) : Type 0 where
  pub is : record { links = links; outcome = record { answer = r; left = sqs axis times } } ≡ want
  pub links_sound : Sound (total c + 1) links
  pub sound : AxisSound (half c) axis

-- ---- operands that passed are places of the axis

pub process_in : (c : Counts) (x : ℕ) → or_none (is_process c x) x ≡ true → place_of c x < half c
process_in c x e =
    let l : x < c.heads + c.processes + 1 =
    none_or (is_process c x) x (c.heads + c.processes)
    (λ f. let p = both (ltb c.heads x) (leb x (c.heads + c.processes)) f in omega (arith, leb-true x (c.heads + c.processes) p.1))
    e in
    omega arith

pub y_in : (c : Counts) (k x y : ℕ) → timed_need c k x y ≡ true → y_place c k y < half c
y_in c k x y e =
    test (leb 5 k)
    (λ l. rw l (process_in c y (needs_y (leb k 6 && or_none (is_process c x) x) (leb 5 k) (or_none (is_process c y) y) l e)))
    (λ l. rw l (omega arith))
  where
    needs_y : (a b d : Bool) → b ≡ true → (a && (not b || d)) ≡ true → d ≡ true
    needs_y true b d l f = rw l at f
    needs_y false b d l f = clash f

pub clause_in : (c : Counts) (k x y : ℕ) → timed_need c k x y ≡ true → k ≤ 6
clause_in c k x y e =
    let p = both (leb k 6 && or_none (is_process c x) x) (not (leb 5 k) || or_none (is_process c y) y) e in
    leb-true k 6 (both (leb k 6) (or_none (is_process c x) x) p.0).0

pub x_in : (c : Counts) (k x y : ℕ) → timed_need c k x y ≡ true → place_of c x < half c
x_in c k x y e =
    let p = both (leb k 6 && or_none (is_process c x) x) (not (leb 5 k) || or_none (is_process c y) y) e in
    process_in c x (both (leb k 6) (or_none (is_process c x) x) p.0).1

-- ---- the test of clause and parties

module _ (c : Counts) (k x y : ℕ) where
  pub need_clause : 6 < k → false ≡ timed_need c k x y
  need_clause l = rw (lt-leb k 6 l)

  module _ (l : k ≤ 6) (a : Bool) (e : a ≡ or_none (is_process c x) x) where
    pub need_x : not a ≡ true → false ≡ timed_need c k x y
    need_x n = rw (le-leb k 6 l, sym e ∙ not-true a n)

    module _ (n : not a ≡ false) where
      pub need_plain : k < 5 → true ≡ timed_need c k x y
      need_plain h = rw (le-leb k 6 l, sym e ∙ not-false a n, lt-leb 5 k h)

      pub need_y : (r : Bool) → 5 ≤ k → r ≡ or_none (is_process c y) y → r ≡ timed_need c k x y
      need_y r h f = rw (le-leb k 6 l, sym e ∙ not-false a n, le-leb 5 k h) f

-- ---- refused by an operand, or on to the procedure

module _ (m : ℕ) (b : Bool) (o : Outcome) (axis times : List ℕ) where
  pub refused_3 : AxisSound m axis → b ≡ false → Answers m (if b then o else turned_down Operand (sqs axis times)) axis times
      (Err Operand)
  refused_3 s e = record { is = rw e; sound = s }

  pub passed_3 : (d : Outcome) (r : Answered) → b ≡ true → Answers m o axis times r → Answers m (if b then o else d) axis times r
  passed_3 d r e k = rw e k

-- ---- finish

module _ (c : Counts) (axis times marks : List ℕ) (f : ℕ) (p : Place (half c) (first_of (half c) axis) f) where
  pub finish_main : AxisSound (half c) axis → f ≡ 1 → FinishMade c (finish_step c marks (sqs axis times)) axis times marks (Err Operand)
  unfolding finish_step
  finish_main s e = record { is = rw (eq-eqb (first_of (half c) axis) 1 (sym p.is ∙ e)); sound = s }

  pub finish_other : (a t k : List ℕ) (r : Answered) → f ≢ 1
      → AnswersMarked (half c) (passivated (half c) (sqs axis times)) (finished_marks (half c) marks (sqs axis times)) a t k r
      → FinishMade c (finish_step c marks (sqs axis times)) a t k r
  unfolding finish_step
  finish_other a t k r n w =
      record {
        is =
            rw (ne_eqb (first_of (half c) axis) 1 (λ e. n (p.is ∙ e)))
            (ap₂ (λ (o : Outcome) (j : List ℕ). record { outcome = o; marks = j }) w.is w.marked);
        sound = w.sound;
      }

-- the first notice is a process's
pub first_low : (c : Counts) (axis : List ℕ) → Judged c axis → (f : ℕ) → Place (half c) (first_of (half c) axis) f → f ≤ c.processes
first_low c axis j f p = omega (arith, j.first_in_lem, p.is)
