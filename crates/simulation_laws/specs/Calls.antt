-- The sequencing calls on judged tables: refusal 3 by the operands, of wait 10, else the published procedure with its refusals 4, 5 and 6.
use Rattle.std.specs.Prelude.{ℕ, ◌+◌, ◌-◌, Bool, List, eqb, leb, ℤ, get_or, if◌then◌else◌, Ok, Err}
use Rattle.model.specs.declared.Counts.{Counts}
use Rattle.model.specs.declared.Refusal.TheVariants.{Operand, NoNotice, Idle, Full}
use Rattle.model.specs.Counts.{total, is_head, is_process, place_of, linkage_at}
use Rattle.model.specs.Answers.{Answered}
use Rattle.model.specs.declared.answer.Answer.TheVariants.{Linkage, Number, Truth}
use Rattle.model_laws.specs.Tables.{Tables, After, model_of}
use Rattle.model_laws.specs.Now.{half, time_of, first_of}
use Rattle.simset_laws.specs.Calls.{or_none, told_if}
use Rattle.simset_laws.specs.Procedures.{preceded}
use Rattle.simset_laws.specs.Full.{full_for}
use Rattle.simset_laws.specs.Walk.{head_at}
use Rattle.simulation_laws.specs.Plain.{above, timed_need}
use Rattle.simulation_laws.specs.Procedures.{Sqs, Outcome, made, turned_down, next_on, idle_at, lone, drop_on, held, passivated}
use Rattle.simulation_laws.specs.Procedures.{cancelled, finished_marks, activated}

-- ---- calls that change the sequencing set alone

unfoldable pub hold_step : Counts → ℤ → Sqs → Outcome
hold_step c t a = held (half c) (above t) a

unfoldable pub passivate_step : Counts → Sqs → Outcome
passivate_step c a = passivated (half c) a

unfoldable pub cancel_step : Counts → ℕ → Sqs → Outcome
cancel_step c x a = if or_none (is_process c x) x then cancelled (half c) (place_of c x) a else turned_down Operand a

-- "Outside a sheet, y and T are not judged where the clause does not use them"
abbrev pub y_place : Counts → ℕ → ℕ → ℕ
y_place c k y = if leb 5 k then place_of c y else 0

unfoldable pub timed_step : Counts → Bool → ℕ → ℕ → ℕ → ℤ → List ℕ → Sqs → Outcome
timed_step c again k x y t marks a =
    if timed_need c k x y then activated (half c) again k (place_of c x) (y_place c k y) (above t) marks a else turned_down Operand a

-- ---- finish: "main can't finish by call"

pub record Marked : Type 0 where
  pub outcome : Outcome
  pub marks : List ℕ

unfoldable pub finish_step : Counts → List ℕ → Sqs → Marked
finish_step c marks a =
    if eqb (first_of (half c) a.axis) 1 then record { outcome = turned_down Operand a; marks = marks }
    else record { outcome = passivated (half c) a; marks = finished_marks (half c) marks a }

-- ---- wait: "Wait(S) is into(S) by current, then passivate"; a refused wait does not enter the set

pub record Waited : Type 0 where
  pub links : List ℕ
  pub outcome : Outcome

unfoldable pub wait_step : Counts → ℕ → List ℕ → Sqs → Waited
wait_step c y links a =
    if or_none (is_head c y) y then
    (if full_for c (linkage_at c (first_of (half c) a.axis)) y links then record { links = links; outcome = turned_down Full a }
    else if lone (half c) a then record { links = links; outcome = turned_down NoNotice a }
    else record {
      links = preceded (total c + 1) (linkage_at c (first_of (half c) a.axis)) y links;
      outcome = made (drop_on (half c) (first_of (half c) a.axis) a);
    })
    else record { links = links; outcome = turned_down Operand a }

-- before it: the head of the ring on which current lies, or none
unfoldable pub wait_told : Counts → List ℕ → List ℕ → Answered
wait_told c links axis = Ok (Linkage (head_at (total c + 1) c.heads (linkage_at c (first_of (half c) axis)) links))

-- ---- queries: a process is read, so none is refused

unfoldable pub current_told : Counts → Sqs → Answered
current_told c a = Ok (Linkage (linkage_at c (first_of (half c) a.axis)))

unfoldable pub time_told : Counts → Sqs → Answered
time_told c a = Ok (Number (time_of (half c) a.axis a.times))

-- "idle := EVENT == none"
unfoldable pub idle_told : Counts → ℕ → Sqs → Answered
idle_told c x a = told_if (is_process c x) (Ok (Truth (idle_at a (place_of c x))))

unfoldable pub terminated_told : Counts → ℕ → List ℕ → Answered
terminated_told c x marks = told_if (is_process c x) (Ok (Truth (eqb (get_or marks (place_of c x) 0) 1)))

-- "if idle then ERROR else evtime := EVENT.EVTIME": refusal 6
unfoldable pub evtime_told : Counts → ℕ → Sqs → Answered
evtime_told c x a =
    told_if (is_process c x) (if idle_at a (place_of c x) then Err Idle else Ok (Number (get_or a.times (place_of c x) 0)))

-- "nextev :- if idle then none else if EVENT.suc == none then none else EVENT.suc.PROC"
unfoldable pub nextev_told : Counts → ℕ → Sqs → Answered
nextev_told c x a =
    told_if (is_process c x)
    (if idle_at a (place_of c x) then Ok (Linkage 0)
    else (if eqb (next_on a (place_of c x)) (half c - 1) then Ok (Linkage 0) else Ok (Linkage (linkage_at c (next_on a (place_of c x))))))

-- ---- on the whole model

abbrev pub sqs_of : Tables → Sqs
sqs_of t = record { axis = t.axis; times = t.times }

abbrev pub on_sqs : (List ℕ → Sqs → Outcome) → Tables → After Answered
on_sqs f t =
    let o = f t.marks (sqs_of t) in
    record {
      tables = model_of t.links o.left.axis o.left.times t.marks;
      answer = o.answer;
    }

abbrev pub on_marks : (List ℕ → Sqs → Marked) → Tables → After Answered
on_marks f t =
    let o = f t.marks (sqs_of t) in
    record {
      tables = model_of t.links o.outcome.left.axis o.outcome.left.times o.marks;
      answer = o.outcome.answer;
    }

abbrev pub on_sets : (List ℕ → Sqs → Waited) → Tables → After Answered
on_sets f t =
    let o = f t.links (sqs_of t) in
    record {
      tables = model_of o.links o.outcome.left.axis o.outcome.left.times t.marks;
      answer = o.outcome.answer;
    }
