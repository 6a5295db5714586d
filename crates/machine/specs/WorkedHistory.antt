-- Worked examples of the history: how each clause schedules, by which step a notice was scheduled, and how two notices then stand.
use Rattle.std.specs.Prelude.{ℕ, ◌≡◌, refl, List, [], ◌∷◌}
use Rattle.std.proofs.Common.{inl, inr}
use Rattle.axis_laws.specs.Notices.{Notice, whos, due_of}
use Rattle.simulation_laws.specs.Plain.{due_for, placed, no_effect, timed}
use Rattle.simulation_laws.specs.Plain as plain
use Rattle.words.specs.Words.{u32_at, u64_at, i64_at}
use Rattle.sheet.specs.Sheet.{counts_of, records_of, start_at, record_from, sheet_of}
use Rattle.sheet.specs.Examples.{worked}
use Rattle.machine.specs.Machine.{fresh}
use Rattle.machine.specs.Calls.{lists_after, perform}
use Rattle.machine.specs.Operands.{operand_of}
use Rattle.machine.specs.Steps.{call_of, next_of, call_now, next_now, step}
use Rattle.machine.specs.Run.{turn, uncut}
use Rattle.machine.specs.History.{How, at_first, behind, in_front, right_before, right_after, how_of, clause_placing, list_placing, placing}
use Rattle.machine.specs.History.{Scheduled, scheduled, StandsTo, Beside}

-- the clauses 0 to 6, with Y = 7
pub clause_ways :
    how_of 0 7 ∷ how_of 1 7 ∷ how_of 2 7 ∷ how_of 3 7 ∷ how_of 4 7 ∷ how_of 5 7 ∷ how_of 6 7 ∷ []
    ≡ in_front ∷ behind ∷ behind ∷ in_front ∷ in_front ∷ right_before 7 ∷ right_after 7 ∷ []
unfolding how_of
clause_ways = refl

abbrev at_step : ℕ → How → Scheduled
at_step n h = record { by = n; how = h }

-- the worked sheet: step 1 schedules process 3, and step 2, main's hold, schedules main; before them there is main's first notice
pub worked_history :
    scheduled (sheet_of worked) 0 2 ∷ scheduled (sheet_of worked) 2 3 ∷ scheduled (sheet_of worked) 2 2 ∷ []
    ≡ at_step 0 at_first ∷ at_step 1 behind ∷ at_step 2 behind ∷ []
unfolding u32_at u64_at i64_at counts_of records_of start_at record_from sheet_of plain.hold plain.passivate plain.finish due_for placed no_effect
    timed fresh lists_after perform operand_of call_of next_of call_now next_now step turn uncut how_of clause_placing list_placing placing scheduled
worked_history = refl

-- ---- the named situations 4 and 5, with M, A, B and C as 2, 3, 4 and 5: M0 A5 B5, then C at 5 prior: M0 C5 A5 B5

abbrev notice : ℕ → ℕ → Notice
notice p t = record { who = p; due = t }

abbrev one : List Notice
one = notice 2 0 ∷ notice 3 5 ∷ []

abbrev two : List Notice
two = notice 2 0 ∷ notice 3 5 ∷ notice 4 5 ∷ []

abbrev three : List Notice
three = notice 2 0 ∷ notice 5 5 ∷ notice 3 5 ∷ notice 4 5 ∷ []

-- a's notice against b's, which was placed so
abbrev Stood : How → ℕ → ℕ → List Notice → List Notice → Type 0
Stood h a b old new = StandsTo h (due_of a new ≡ due_of b new) a b (whos old) (whos new)

pub b_behind_a : Stood behind 3 4 one two
b_behind_a e = inr (inl (refl, inl refl))

pub c_in_front : Stood in_front 3 5 two three
c_in_front e = inr (inl (refl, inl refl))

-- C after A, or before B, instead: next to it, at its time
abbrev between : List Notice
between = notice 2 0 ∷ notice 3 5 ∷ notice 5 5 ∷ notice 4 5 ∷ []

pub c_after_a : Beside (right_after 3) 5 between
c_after_a = (refl, inr (inl (refl, refl)))

pub c_before_b : Beside (right_before 4) 5 between
c_before_b = (refl, inr (inr (inl (refl, refl))))
