-- A run on lent tables: the judge, the step, the turns, and the call. Each is what the code computes; Refine and Demand3 say what it
-- means.
use Rattle.std.specs.Prelude.{ℕ, zero, suc, ◌+◌, ◌*◌, ◌/◌, Bool, ◌&&◌, List, leb, eqb, ℤ, pos, length, get_or, set, if◌then◌else◌, Ok, Err, Result}
use Rattle.model.specs.declared.Counts.{Counts}
use Rattle.model.specs.declared.Refusal.{Refusal}
use Rattle.model.specs.declared.Refusal.TheVariants.{Size}
use Rattle.model.specs.Counts.{linkage_at}
use Rattle.model.specs.Refusals.{refusal_number}
use Rattle.model.specs.Answers.{Answered}
use Rattle.model.specs.declared.answer.Answer.TheVariants.{Done, Linkage, Number, Truth}
use Rattle.model.specs.Answers.{Verdict}
use Rattle.model_laws.specs.Tables.{Tables, model_of}
use Rattle.model_laws.specs.Judge.{lengths_fine, judged, positions_judged}
use Rattle.model_laws.specs.Now.{half, time_of, first_of}
use Rattle.simset_laws.specs.Procedures.{empty_of}
use Rattle.sheet.specs.declared.records.Record.{Record}
use Rattle.sheet.specs.Sheet.{record_with}
use Rattle.sheet.specs.Accepted.{Checked, checked}
use Rattle.trace.specs.Lines.{put, line_bytes}
use Rattle.machine.specs.declared.End.{End}
use Rattle.machine.specs.declared.End.TheVariants.{Finished, Full, Refused}
use Rattle.machine.specs.Calls.{Call, on_list, finish}
use Rattle.machine.specs.Operands.{takes_process}
use Rattle.machine.specs.Steps.{call_of, next_of}
use Rattle.machine.specs.Run.{line_size, trace_limit}
use Rattle.run_laws.specs.OnTables.{operand_with, Carried, carried_out}
use Rattle.run_laws.specs.declared.Ran.{Ran}
use Rattle.run_laws.specs.declared.Turn.{Turn}
use Rattle.run_laws.specs.declared.Turn.TheVariants.{Finished as AtEnd, Made}
use Rattle.sheet.specs.declared.header.Header.{Header}

-- a run's lent tables: the model's four, the positions ("P + 1 words of 32 bits, place 0 zero"), and the words of 64 accumulators
pub record RunTables : Type 0 where
  pub model : Tables
  pub positions : List ℕ
  pub words : List ℤ

-- "64 accumulators", each of three words
abbrev pub run_words : ℕ
run_words = 192

-- by the model's tables, the positions and the words
abbrev pub run_of : Tables → List ℕ → List ℤ → RunTables
run_of t ps w = record { model = t; positions = ps; words = w }

-- by the words of the slices that are lent
abbrev pub lent : List ℕ → List ℕ → List ℕ → List ℕ → List ℕ → List ℤ → RunTables
lent links axis times marks positions words =
    run_of (model_of links axis times marks) positions words

-- ---- refusals 1 and 2

abbrev pub after_tables : Verdict → Verdict → Verdict
after_tables (Ok tt) v = v
after_tables (Err r) v = Err r

-- "Order: 8, 1, 2": a table of another length and a trace that is too long come before tables or positions that are not as they must be
unfoldable pub run_judged : Counts → ℕ → RunTables → ℕ → Verdict
run_judged c R u len =
    if lengths_fine c u.model
    && (eqb (length u.positions) (c.processes + 1) && (eqb (length u.words) run_words && leb len trace_limit))
    then after_tables (judged c u.model) (positions_judged c R u.positions)
    else Err Size

-- ---- a step

-- at position 0 a record of operation 0, which stands for finish
abbrev pub end_record : Record
end_record = record { next = 0; operation = 0; clause = 0; x = 0; y = 0; t = pos 0 }

unfoldable pub record_got : ℕ → List ℕ → ℕ → Record
record_got P bytes r = if eqb r 0 then end_record else record_with P bytes r

-- what v, which is x or y of record q, means where current is at place f
abbrev pub record_operand : Counts → List ℕ → ℕ → Record → ℕ → ℕ
record_operand c links f q v = operand_with c (takes_process q.operation) links f v

-- the record with its operands resolved, where current is at place f, and next where the process goes
unfoldable pub resolved : Counts → List ℕ → ℕ → Record → Record
resolved c links f q =
    let x = record_operand c links f q q.x in
    record {
      next = next_of q (empty_of x links);
      operation = q.operation;
      clause = q.clause;
      x = x;
      y = record_operand c links f q q.y;
      t = q.t;
    }

abbrev pub due_now : Counts → List ℕ → List ℕ → List ℕ → ℕ → Record
due_now c bytes links axis r = resolved c links (first_of (half c) axis) (record_got c.processes bytes r)

unfoldable pub call_due : Record → Call
call_due d = if eqb d.operation 0 then on_list finish else call_of d d.x d.y

-- does the run go on after this answer, and the process at which record?
pub data Turned : Type 0 where
  On : ℕ → Turned
  Off : Refusal → Turned

unfoldable pub turned_of : Answered → ℕ → Turned
turned_of (Ok a) next = On next
turned_of (Err r) next = Off r

pub record Stepped : Type 0 where
  pub run : RunTables
  pub trace : List ℕ
  pub turned : Turned

-- an accepted call moves the process and writes its line at byte i
abbrev pub moved : Turned → Carried → List ℕ → ℕ → List ℕ → ℕ → List ℕ → Stepped
moved (On next) a positions f tr i line =
    record { run = run_of a.tables (set positions f next) a.words; trace = put tr i line; turned = On next }
moved (Off r) a positions f tr i line =
    record { run = run_of a.tables positions a.words; trace = tr; turned = Off r }

-- current's place, its record's number, the record, and the call
abbrev pub record_at_now : Counts → RunTables → ℕ
record_at_now c u = get_or u.positions (first_of (half c) u.model.axis) 0

abbrev pub due_in : Counts → List ℕ → RunTables → Record
due_in c bytes u = due_now c bytes u.model.links u.model.axis (record_at_now c u)

abbrev pub line_in : Counts → RunTables → List ℕ
line_in c u = line_bytes (time_of (half c) u.model.axis u.model.times) (linkage_at c (first_of (half c) u.model.axis))
    (record_at_now c u)

unfoldable pub step_on : Counts → List ℕ → ℕ → RunTables → List ℕ → Stepped
step_on c bytes i u tr =
    let d = due_in c bytes u in
    let a = carried_out c (call_due d) u.model u.words in
    moved (turned_of a.answer d.next) a u.positions (first_of (half c) u.model.axis) tr i (line_in c u)

-- ---- turns

-- "main current at position 0"; main's place is 1
unfoldable pub ends_now : Counts → List ℕ → List ℕ → Bool
ends_now c axis positions = eqb (first_of (half c) axis) 1 && eqb (get_or positions 1 0) 0

-- what a turn comes to, or why its step is turned down
abbrev pub Taken : Type 0
Taken = Result Turn Refusal

-- what a turn leaves, and what it comes to: "main current at position 0, finished", else one step
pub record TurnedOn : Type 0 where
  pub run : RunTables
  pub trace : List ℕ
  pub turn : Taken

abbrev pub turn_by : Turned → Taken
turn_by (On next) = Ok Made
turn_by (Off r) = Err r

unfoldable pub turn_on : Counts → List ℕ → ℕ → RunTables → List ℕ → TurnedOn
turn_on c bytes i u tr =
    let s = step_on c bytes i u tr in
    if ends_now c u.model.axis u.positions then record { run = u; trace = tr; turn = (Ok AtEnd) }
    else record { run = s.run; trace = s.trace; turn = turn_by s.turned }

-- what a run call leaves
pub record RanOn : Type 0 where
  pub run : RunTables
  pub trace : List ℕ
  pub result : Ran

abbrev pub refused_ran : Refusal → Ran
refused_ran r = record { lines = 0; end = Refused r }

abbrev pub stopped_on : ℕ → End → RunTables → List ℕ → RanOn
stopped_on n e u tr = record { run = u; trace = tr; result = record { lines = n; end = e } }

-- after n lines, with room for k more
unfoldable pub turns_on : Counts → List ℕ → ℕ → ℕ → RunTables → List ℕ → RanOn
turns_on c bytes n zero u tr = if ends_now c u.model.axis u.positions then stopped_on n Finished u tr else stopped_on n Full u tr
turns_on c bytes n (suc k) u tr =
    let s = step_on c bytes (line_size * n) u tr in
    if ends_now c u.model.axis u.positions then stopped_on n Finished u tr
    else elim s.turned [ On next ↦ turns_on c bytes (suc n) k s.run s.trace | Off r ↦ stopped_on n (Refused r) s.run s.trace ]

-- ---- a call

-- 8, then 1 and 2, then turns; a line takes 16 bytes
abbrev pub judged_run : Verdict → Counts → List ℕ → RunTables → List ℕ → RanOn
judged_run (Ok tt) c bytes u tr = turns_on c bytes 0 (length tr / line_size) u tr
judged_run (Err r) c bytes u tr = stopped_on 0 (Refused r) u tr

abbrev pub checked_run : Checked → List ℕ → RunTables → List ℕ → RanOn
checked_run (Ok h) bytes u tr = judged_run (run_judged h.counts h.records u (length tr)) h.counts bytes u tr
checked_run (Err r) bytes u tr = stopped_on 0 (Refused r) u tr

unfoldable pub run_on : List ℕ → RunTables → List ℕ → RanOn
run_on bytes u tr = checked_run (checked bytes) bytes u tr

-- ---- the answer as a number: "lines × 256 + code: 0 finished, 200 full, else the refusal"

unfoldable pub end_code : End → ℕ
end_code Finished = 0
end_code Full = 200
end_code (Refused r) = refusal_number r

unfoldable pub ran_number : Ran → ℕ
ran_number r = r.lines * 256 + end_code r.end
