-- The worked sheet of the papers is accepted and says what the papers say; damaged ones are refused.
use Rattle.std.specs.Prelude.{ℕ, ◌≡◌, refl, Bool, true, false, List, [], ◌∷◌, ◌++◌, pos, set, take}
use Rattle.model.specs.Counts.{in_limits}
use Rattle.sheet.specs.AllTo.{all_to}
use Rattle.words.specs.Words.{u32_at, u64_at, i64_at}
use Rattle.sheet.specs.Sheet.{counts_of, records_of, start_at, record_from, sheet_of}
use Rattle.sheet.specs.Operations.{row_of, under}
use Rattle.sheet.specs.Accepted.{sized, size_fine, is_operand, may_hold, fields_fine, record_fine, layout_fine, accepted}

-- "H 1, P 2, L 0, R 3; starts 1, 3; record 1 next 2, activate 3 delay 5; record 2 next 0, hold 10; record 3 next 0, into with
-- x 65,536 and y 1"
abbrev pub worked : List ℕ
worked =
    1 ∷ 0 ∷ 0 ∷ 0 ∷ 2 ∷ 0 ∷ 0 ∷ 0 ∷ 0 ∷ 0 ∷ 0 ∷ 0 ∷ 3 ∷ 0 ∷ 0 ∷ 0
    ∷ 1 ∷ 0 ∷ 0 ∷ 0 ∷ 3 ∷ 0 ∷ 0 ∷ 0
    ∷ 2 ∷ 0 ∷ 0 ∷ 0 ∷ 10 ∷ 2 ∷ 0 ∷ 0 ∷ 3 ∷ 0 ∷ 0 ∷ 0 ∷ 0 ∷ 0 ∷ 0 ∷ 0 ∷ 5 ∷ 0 ∷ 0 ∷ 0 ∷ 0 ∷ 0 ∷ 0 ∷ 0
    ∷ 0 ∷ 0 ∷ 0 ∷ 0 ∷ 6 ∷ 0 ∷ 0 ∷ 0 ∷ 0 ∷ 0 ∷ 0 ∷ 0 ∷ 0 ∷ 0 ∷ 0 ∷ 0 ∷ 10 ∷ 0 ∷ 0 ∷ 0 ∷ 0 ∷ 0 ∷ 0 ∷ 0
    ∷ 0 ∷ 0 ∷ 0 ∷ 0 ∷ 4 ∷ 0 ∷ 0 ∷ 0 ∷ 0 ∷ 0 ∷ 1 ∷ 0 ∷ 1 ∷ 0 ∷ 0 ∷ 0 ∷ 0 ∷ 0 ∷ 0 ∷ 0 ∷ 0 ∷ 0 ∷ 0 ∷ 0 ∷ []

pub worked_says :
    sheet_of worked
    ≡ record {
      counts = record { heads = 1; processes = 2; plains = 0 };
      starts = 1 ∷ 3 ∷ [];
      records =
          record { next = 2; operation = 10; clause = 2; x = 3; y = 0; t = pos 5 }
          ∷ record { next = 0; operation = 6; clause = 0; x = 0; y = 0; t = pos 10 }
          ∷ record { next = 0; operation = 4; clause = 0; x = 65536; y = 1; t = pos 0 }
          ∷ [];
    }
unfolding sheet_of counts_of records_of start_at record_from u32_at u64_at i64_at
worked_says = refl

-- which of some sheets are accepted
abbrev verdicts : List (List ℕ) → List Bool
verdicts [] = []
verdicts (s ∷ ss) = accepted s ∷ verdicts ss

-- as it stands; with the first member of head 1 for x; with a start of 0; with a record that no chain reaches
pub fine_ones : verdicts (worked ∷ set worked 80 1 ∷ set worked 16 0 ∷ set worked 24 0 ∷ []) ≡ true ∷ true ∷ true ∷ true ∷ []
unfolding accepted sized size_fine layout_fine record_fine fields_fine may_hold is_operand row_of under all_to in_limits counts_of records_of start_at
    record_from u32_at u64_at i64_at
fine_ones = refl

-- "95 bytes, R = 3"; a byte too many; no header; 65 heads
pub wrong_sizes : verdicts (take 95 worked ∷ (worked ++ (0 ∷ [])) ∷ take 15 worked ∷ set worked 0 65 ∷ [])
    ≡ false ∷ false ∷ false ∷ false ∷ []
unfolding accepted sized size_fine layout_fine record_fine fields_fine may_hold is_operand row_of under all_to in_limits counts_of records_of start_at
    record_from u32_at u64_at i64_at
wrong_sizes = refl

-- a start of 4, a next of 4, the operations 0 and 14, clause 7, either of the two zero bytes
pub wrong_numbers :
    verdicts (set worked 20 4 ∷ set worked 24 4 ∷ set worked 28 0 ∷ set worked 28 14 ∷ set worked 29 7 ∷ set worked 30 1
    ∷ set worked 31 1 ∷ [])
    ≡ false ∷ false ∷ false ∷ false ∷ false ∷ false ∷ false ∷ []
unfolding accepted sized size_fine layout_fine record_fine fields_fine may_hold is_operand row_of under all_to in_limits counts_of records_of start_at
    record_from u32_at u64_at i64_at
wrong_numbers = refl

-- a y under clause 2, a t under clause 0, a clause in hold, an x in hold, the operands 4 and 65,536 + 2
pub wrong_fields :
    verdicts (set worked 36 1 ∷ set worked 29 0 ∷ set worked 53 1 ∷ set worked 56 1 ∷ set worked 32 4 ∷ set worked 80 2 ∷ [])
    ≡ false ∷ false ∷ false ∷ false ∷ false ∷ false ∷ []
unfolding accepted sized size_fine layout_fine record_fine fields_fine may_hold is_operand row_of under all_to in_limits counts_of records_of start_at
    record_from u32_at u64_at i64_at
wrong_fields = refl
