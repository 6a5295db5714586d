-- The machine tried on whole sheets, by computation: the papers' worked sheet under several lists of buffers, and small ones.
use Rattle.std.specs.Prelude.{ℕ, ◌≡◌, refl, Bool, true, false, ◌&&◌, List, [], ◌∷◌, eqb, ℤ, pos, get_or}
use Rattle.model.specs.Refusals.{refusal_number}
use Rattle.model_laws.specs.Tables.{members_of}
use Rattle.simulation_laws.specs.Plain.{due_for, placed, no_effect, timed}
use Rattle.simulation_laws.specs.Plain as plain
use Rattle.accum_laws.specs.Keeps.{zero_accumulator}
use Rattle.accum_laws.specs.Update.{may_update, grown_of, updated_of}
use Rattle.sheet.specs.declared.records.Record.{Record}
use Rattle.words.specs.Words.{u32_at, u64_at, i64_at}
use Rattle.sheet.specs.Sheet.{counts_of, records_of, start_at, record_from, Sheet, sheet_of}
use Rattle.sheet.specs.Examples.{worked}
use Rattle.machine.specs.declared.End.{End}
use Rattle.machine.specs.declared.End.TheVariants.{Finished, Full, Refused}
use Rattle.machine.specs.Machine.{fresh}
use Rattle.machine.specs.Calls.{lists_after, perform}
use Rattle.machine.specs.Operands.{first_in, operand_of}
use Rattle.machine.specs.Steps.{call_of, next_of, call_now, next_now, Line, step}
use Rattle.machine.specs.Run.{turn, Ran, turns, call, calls, last_of}

-- ---- what a list of calls is to bring

abbrev line : ℕ → ℕ → ℕ → Line
line t p r = record { time = t; process = p; rec = r }

-- lines × 256 + code: 0 finished, 200 full, else the refusal
abbrev code_is : End → ℕ → Bool
code_is Finished n = eqb n 0
code_is Full n = eqb n 200
code_is (Refused r) n = eqb n (refusal_number r)

pub record Want : Type 0 where
  pub lines : List Line
  pub code : ℕ

abbrev same_lines : List Line → List Line → Bool
same_lines [] [] = true
same_lines [] (k ∷ ks) = false
same_lines (l ∷ ls) [] = false
same_lines (l ∷ ls) (k ∷ ks) = eqb l.time k.time && eqb l.process k.process && eqb l.rec k.rec && same_lines ls ks

abbrev bring : List Ran → List Want → Bool
bring [] [] = true
bring [] (w ∷ ws) = false
bring (r ∷ rs) [] = false
bring (r ∷ rs) (w ∷ ws) = same_lines r.lines w.lines && code_is r.end w.code && bring rs ws

abbrev want : List Line → ℕ → Want
want ls n = record { lines = ls; code = n }

-- the calls of a fresh run with buffers of these lengths
unfoldable pub brings : Sheet → List ℕ → List Want → Bool
unfolding u32_at u64_at i64_at counts_of records_of start_at record_from sheet_of plain.hold plain.passivate plain.cancel plain.finish due_for placed
    no_effect timed may_update grown_of updated_of fresh lists_after perform operand_of call_of next_of call_now next_now step turn turns call calls
brings s lens ws = bring (calls s (fresh s) lens) ws

-- ---- the worked sheet: lines 0 2 1, 0 2 2, 5 3 3 and 5 3 0, then finished

-- with room to spare; with room for just its lines, since finished comes before full; with a byte less; in pieces, with a buffer
-- that is too long, and one after the end
pub worked_run :
    brings (sheet_of worked) (65536 ∷ []) (want (line 0 2 1 ∷ line 0 2 2 ∷ line 5 3 3 ∷ line 5 3 0 ∷ []) 0 ∷ [])
    && brings (sheet_of worked) (64 ∷ []) (want (line 0 2 1 ∷ line 0 2 2 ∷ line 5 3 3 ∷ line 5 3 0 ∷ []) 0 ∷ [])
    && brings (sheet_of worked) (63 ∷ []) (want (line 0 2 1 ∷ line 0 2 2 ∷ line 5 3 3 ∷ []) 200 ∷ [])
    && brings (sheet_of worked) (31 ∷ 0 ∷ 65537 ∷ 64 ∷ 64 ∷ [])
    (want (line 0 2 1 ∷ []) 200 ∷ want [] 200 ∷ want [] 1 ∷ want (line 0 2 2 ∷ line 5 3 3 ∷ line 5 3 0 ∷ []) 0 ∷ want [] 0 ∷ [])
    ≡ true
unfolding brings
worked_run = refl

-- ---- records 12 and 13, a first member for an operand, and a refused step

abbrev does : ℕ → ℕ → ℕ → ℕ → ℤ → Record
does next op x y t = record { next = next; operation = op; clause = 0; x = x; y = y; t = t }

-- main goes to 3 while head 1 is empty, puts link 4 in, finds the head not empty, and takes its first member out; asked again, there
-- is none
abbrev branching : Sheet
branching =
    record {
      counts = record { heads = 1; processes = 2; plains = 1 };
      starts = 1 ∷ 0 ∷ [];
      records = does 2 12 1 3 (pos 0) ∷ does 2 1 65537 0 (pos 0) ∷ does 1 4 4 1 (pos 0) ∷ [];
    }

pub branching_run :
    brings branching (64 ∷ 160 ∷ 15 ∷ 16 ∷ [])
    (want (line 0 2 1 ∷ line 0 2 3 ∷ line 0 2 1 ∷ line 0 2 2 ∷ []) 200 ∷ want [] 3 ∷ want [] 200 ∷ want [] 3 ∷ [])
    ≡ true
unfolding brings
branching_run = refl

-- accumulator 2 grows by 3 a tick, for five ticks
abbrev counting : Sheet
counting =
    record {
      counts = record { heads = 0; processes = 1; plains = 0 };
      starts = 1 ∷ [];
      records = does 2 13 2 0 (pos 3) ∷ does 3 6 0 0 (pos 5) ∷ does 0 13 2 0 (pos 0) ∷ [];
    }

pub counting_run : get_or (last_of (fresh counting) (calls counting (fresh counting) (100 ∷ []))).triples 1 zero_accumulator
    ≡ record { a = pos 15; b = pos 5; c = pos 3 }
unfolding brings
counting_run = refl

-- ---- a tie: main's hold ends when process 2 is due, and main stands behind it

abbrev tied : Sheet
tied =
    record {
      counts = record { heads = 0; processes = 2; plains = 0 };
      starts = 1 ∷ 0 ∷ [];
      records = record { next = 2; operation = 10; clause = 2; x = 2; y = 0; t = pos 5 } ∷ does 0 6 0 0 (pos 5) ∷ [];
    }

pub tied_run : brings tied (64 ∷ []) (want (line 0 1 1 ∷ line 0 1 2 ∷ line 5 2 0 ∷ []) 0 ∷ []) ≡ true
unfolding brings
tied_run = refl

-- ---- crates and benches in one queue

abbrev timed_by : ℕ → ℕ → ℕ → ℕ → ℕ → Record
timed_by next op clause x y = record { next = next; operation = op; clause = clause; x = x; y = y; t = pos 0 }

-- main puts crate 5 and behind it bench 3 into head 1, and wakes the first process there, which is 3; that moves the first member, the
-- crate, to the end; main cancels the first process, then takes the first member out, which is 3 now
abbrev mixed : Sheet
mixed =
    record {
      counts = record { heads = 1; processes = 3; plains = 1 };
      starts = 1 ∷ 4 ∷ 0 ∷ [];
      records = does 2 4 5 1 (pos 0) ∷ does 3 4 3 1 (pos 0) ∷ timed_by 5 10 0 65537 0 ∷ does 0 4 65537 1 (pos 0)
          ∷ does 6 9 65537 0 (pos 0) ∷ does 0 1 65537 0 (pos 0) ∷ [];
    }

pub mixed_run :
    brings mixed (128 ∷ [])
    (want (line 0 2 1 ∷ line 0 2 2 ∷ line 0 2 3 ∷ line 0 3 4 ∷ line 0 3 0 ∷ line 0 2 5 ∷ line 0 2 6 ∷ []) 0 ∷ [])
    && eqb (first_in (members_of (last_of (fresh mixed) (calls mixed (fresh mixed) (128 ∷ []))).lists.sets 1)) 5
    ≡ true
unfolding brings
mixed_run = refl

-- with crates alone the first process is none: activate, cancel and a Y of none do nothing, and reactivate beside it drops the last notice
abbrev crates : Sheet
crates =
    record {
      counts = record { heads = 1; processes = 2; plains = 1 };
      starts = 1 ∷ 0 ∷ [];
      records = does 2 4 4 1 (pos 0) ∷ timed_by 3 10 0 65537 0 ∷ timed_by 4 11 0 65537 0 ∷ does 5 9 65537 0 (pos 0)
          ∷ timed_by 6 10 5 3 65537 ∷ timed_by 0 11 6 65536 65537 ∷ [];
    }

pub crates_run :
    brings crates (160 ∷ []) (want (line 0 2 1 ∷ line 0 2 2 ∷ line 0 2 3 ∷ line 0 2 4 ∷ line 0 2 5 ∷ []) 4 ∷ []) ≡ true
unfolding brings
crates_run = refl
