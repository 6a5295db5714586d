-- Which sheets are accepted; every other is refused with 8.
use Rattle.std.specs.Prelude.{ℕ, ◌+◌, ◌*◌, ◌-◌, Bool, ◌&&◌, ◌||◌, List, leb, eqb, nat_abs, length, if◌then◌else◌, Ok, Err, Result}
use Rattle.model.specs.Counts.{in_limits, total, is_head}
use Rattle.model.specs.declared.Counts.{Counts}
use Rattle.model.specs.declared.Refusal.TheVariants.{Layout}
use Rattle.model.specs.Refusals.{refusal_number}
use Rattle.sheet.specs.AllTo.{all_to}
use Rattle.words.specs.Words.{u8_at}
use Rattle.sheet.specs.Sheet.{counts_of, records_of, start_at, record_offset, record_from, header_bytes, record_bytes}
use Rattle.sheet.specs.Operations.{uses_of, last_operation}
use Rattle.sheet.specs.declared.header.Header.{Header}
use Rattle.sheet.specs.declared.operations.Holds.{Holds}
use Rattle.sheet.specs.declared.operations.Holds.TheVariants.{Nothing, Operand, RecordNumber, AccumulatorNumber}
use Rattle.sheet.specs.declared.operations.Uses.{Uses}
use Rattle.sheet.specs.declared.records.Record.{Record}
use Rattle.model.specs.declared.Refusal.{Refusal}

-- ---- the header and the length

-- "Header: H, P, L, R"
abbrev pub header_of : List ℕ → Header
header_of s = record { counts = counts_of s; records = records_of s }

-- "Length is exactly 16 + 4 × P + 24 × R"
abbrev pub length_of : Header → ℕ
length_of h = header_bytes + 4 * h.counts.processes + record_bytes * h.records

-- "R is 0 to 2,000", and the length is exactly that
unfoldable pub size_fine : List ℕ → Header → Bool
size_fine s h = leb h.records 2000 && eqb (length s) (length_of h)

-- a whole header, counts in their limits, and the length that these give
unfoldable pub sized : List ℕ → Bool
sized s = leb header_bytes (length s) && (in_limits (counts_of s) && size_fine s (header_of s))

-- ---- a record

-- "65,536 for current, or 65,536 + h .. for the first member of head h"
abbrev pub operand_base : ℕ
operand_base = 65536

-- "An operand is 0 to N, or 65,536 for current, or 65,536 + h, h from 1 to H"
unfoldable pub is_operand : Counts → ℕ → Bool
is_operand c v = leb v (total c) || (eqb v operand_base || is_head c (v - operand_base))

-- "in 13, x is 1 to 64"
abbrev pub is_accumulator : ℕ → Bool
is_accumulator v = leb 1 v && leb v 64

-- what x or y may hold: "Unused fields hold 0"; "In 12, y is a record, 0 to R; in 13, x is 1 to 64"
unfoldable pub may_hold : Header → Holds → ℕ → Bool
may_hold h Nothing v = eqb v 0
may_hold h Operand v = is_operand h.counts v
may_hold h RecordNumber v = leb v h.records
may_hold h AccumulatorNumber v = is_accumulator v

-- "Unused fields hold 0": clause, x, y and t of a record that uses so much
unfoldable pub fields_fine : Header → Uses → Record → Bool
fields_fine h u q =
    (u.clause || eqb q.clause 0)
    && (may_hold h u.x q.x
    && (may_hold h u.y q.y
    && (u.t || eqb (nat_abs q.t) 0)))

-- "Starts and next are 0 to R"; "Operations are 1 to 13 and clauses 0 to 6"
unfoldable pub record_fine : Header → Record → Bool
record_fine h q =
    leb q.next h.records
    && (leb 1 q.operation
    && (leb q.operation last_operation
    && (leb q.clause 6
    && fields_fine h (uses_of q.operation q.clause) q)))

-- "two zero bytes", of the record that begins at i
abbrev pub pad_fine : List ℕ → ℕ → Bool
pad_fine s i = eqb (u8_at s (i + 6)) 0 && eqb (u8_at s (i + 7)) 0

-- ---- the sheet

-- "Starts and next are 0 to R": the starts of the first n processes
abbrev pub starts_to : List ℕ → ℕ → ℕ → Bool
starts_to s R n = all_to (λ p. leb (start_at s p) R) n

-- record r is as it must be
unfoldable pub layout_fine : List ℕ → Header → ℕ → Bool
layout_fine s h r =
    let i = record_offset h.counts.processes r in
    pad_fine s i && record_fine h (record_from s i)

-- the first n records are
abbrev pub records_to : List ℕ → Header → ℕ → Bool
records_to s h n = all_to (layout_fine s h) n

-- "accepted means that 8 doesn't turn it down"
unfoldable pub accepted : List ℕ → Bool
accepted s = sized s && (starts_to s (records_of s) (counts_of s).processes && records_to s (header_of s) (records_of s))

-- an accepted sheet's header, or the refusal
abbrev pub Checked : Type 0
Checked = Result Header Refusal

-- what the check answers: the header if the test says yes, else refusal 8
abbrev pub answer : Bool → Header → Checked
answer b h = if b then Ok h else Err Layout

-- 8: "sheet breaks its layout, limits included"
unfoldable pub checked : List ℕ → Checked
checked s = answer (accepted s) (header_of s)

-- the papers' number of what the check answers; 0 is accepted
abbrev pub checked_code : Checked → ℕ
checked_code (Ok h) = 0
checked_code (Err r) = refusal_number r
