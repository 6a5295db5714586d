-- The calls of a step on a run's tables: the published procedures on the model's, accum on the flat list of words.
use Rattle.std.specs.Prelude.{ℕ, ◌+◌, ◌-◌, Bool, List, ltb, eqb, ℤ, get_or, if◌then◌else◌, Ok}
use Rattle.model.specs.declared.Counts.{Counts}
use Rattle.model.specs.Counts.{is_head, is_process, linkage_at, total}
use Rattle.model.specs.Answers.{Answered}
use Rattle.model.specs.declared.answer.Answer.TheVariants.{Done}
use Rattle.model_laws.specs.Tables.{Tables, After}
use Rattle.model_laws.specs.Now.{time_of, first_of, half}
use Rattle.simset_laws.specs.Procedures as sets
use Rattle.simset_laws.specs.Calls.{told_if, on_links}
use Rattle.simset_laws.specs.Plain.{links_after}
use Rattle.simset_laws.specs.Walk.{first_from}
use Rattle.simulation_laws.specs.Calls.{hold_step, passivate_step, cancel_step, timed_step, finish_step, wait_step, on_sqs, on_marks, on_sets}
use Rattle.accum_laws.specs.Flat.{updated_in}
use Rattle.machine.specs.Calls.{ListCall, on_set, hold, passivate, wait, cancel, activate, if_empty, finish, Call, on_list, accum}
use Rattle.sheet.specs.Accepted.{operand_base}

-- ---- reading

-- current, and the first member of head h
abbrev pub current_at : Counts → List ℕ → ℕ
current_at c axis = linkage_at c (first_of (half c) axis)

abbrev pub first_at : Counts → List ℕ → ℕ → ℕ
first_at c links h = sets.suc_of c.heads h links

-- along a ring from i on, by at most k places: the first process, none where the head is reached
abbrev pub process_from : Counts → List ℕ → ℕ → ℕ → ℕ
process_from c links k i = first_from (is_process c) c.heads links k i

-- "the first member of head h that is a process, or none"
abbrev pub process_at : Counts → List ℕ → ℕ → ℕ
process_at c links h = process_from c links (total c + 1) (get_or links h 0)

-- the member of head h that an operand means; takes, where the operation takes a process
abbrev pub member_at : Counts → Bool → List ℕ → ℕ → ℕ
member_at c takes links h = if takes then process_at c links h else first_at c links h

-- "0 to N, or 65,536 for current, or 65,536 + h .. for the first member of head h (none if empty)"; f is current's place
unfoldable pub operand_with : Counts → Bool → List ℕ → ℕ → ℕ → ℕ
operand_with c takes links f v =
    if ltb v operand_base then v else if eqb v operand_base then linkage_at c f else member_at c takes links (v - operand_base)

abbrev pub operand_at : Counts → Bool → List ℕ → List ℕ → ℕ → ℕ
operand_at c takes links axis v = operand_with c takes links (first_of (half c) axis) v

-- ---- calling

unfoldable pub tables_after : Counts → ListCall → Tables → After Answered
tables_after c (on_set k) t = on_links (links_after c k) t
tables_after c (hold z) t = on_sqs (λ m a. hold_step c z a) t
tables_after c passivate t = on_sqs (λ m a. passivate_step c a) t
tables_after c (wait y) t = on_sets (λ k a. wait_step c y k a) t
tables_after c (cancel x) t = on_sqs (λ m a. cancel_step c x a) t
tables_after c (activate again k x y z) t = on_sqs (λ m a. timed_step c again k x y z m a) t
tables_after c (if_empty x) t = record { tables = t; answer = told_if (is_head c x) (Ok Done) }
tables_after c finish t = on_marks (λ k a. finish_step c k a) t

-- the model's tables and the accumulators' words after a call, and its answer
pub record Carried : Type 0 where
  pub tables : Tables
  pub words : List ℤ
  pub answer : Answered

unfoldable pub carried_out : Counts → Call → Tables → List ℤ → Carried
carried_out c (on_list k) t w = let a = tables_after c k t in record { tables = a.tables; words = w; answer = a.answer }
carried_out c (accum k d) t w =
    let u = updated_in k (time_of (half c) t.axis t.times) d w in
    record { tables = t; words = u.words; answer = u.answer }
