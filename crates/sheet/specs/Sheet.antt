-- A model sheet: what its bytes say. Nothing here speaks of a run or of lent tables.
use Rattle.std.specs.Prelude.{ℕ, ◌+◌, ◌*◌, ◌-◌, List}
use Rattle.model.specs.declared.Counts.{Counts}
use Rattle.ring_laws.specs.Tabulate.{listed}
use Rattle.words.specs.Words.{u8_at, u32_at, i64_at}
use Rattle.sheet.specs.declared.records.Record.{Record}

-- "Header: H, P, L, R, 32 bits each"
unfoldable pub counts_of : List ℕ → Counts
counts_of s = record { heads = u32_at s 0; processes = u32_at s 4; plains = u32_at s 8 }

unfoldable pub records_of : List ℕ → ℕ
records_of s = u32_at s 12

-- "Header: H, P, L, R, 32 bits each", and "records of 24 bytes"
abbrev pub header_bytes : ℕ
header_bytes = 16

abbrev pub record_bytes : ℕ
record_bytes = 24

-- "Then P start fields, 32 bits: the record where that process begins"
abbrev pub start_offset : ℕ → ℕ
start_offset p = header_bytes + 4 * (p - 1)

unfoldable pub start_at : List ℕ → ℕ → ℕ
start_at s p = u32_at s (start_offset p)

-- "Then R records of 24 bytes, numbered from 1"
abbrev pub record_offset : ℕ → ℕ → ℕ
record_offset P r = header_bytes + 4 * P + record_bytes * (r - 1)

-- "next (32 bits), operation (8), clause (8), two zero bytes, x (32), y (32), t (signed 64)"
unfoldable pub record_from : List ℕ → ℕ → Record
record_from s i =
    record {
      next = u32_at s i;
      operation = u8_at s (i + 4);
      clause = u8_at s (i + 5);
      x = u32_at s (i + 8);
      y = u32_at s (i + 12);
      t = i64_at s (i + 16);
    }

-- record r of a sheet with P processes, and with as many as its header says
abbrev pub record_with : ℕ → List ℕ → ℕ → Record
record_with P s r = record_from s (record_offset P r)

abbrev pub record_at : List ℕ → ℕ → Record
record_at s r = record_with (counts_of s).processes s r

-- the sheet as a value
pub record Sheet : Type 0 where
  pub counts : Counts
  pub starts : List ℕ
  pub records : List Record

unfoldable pub sheet_of : List ℕ → Sheet
sheet_of s =
    record {
      counts = counts_of s;
      starts = listed (start_at s) 1 (counts_of s).processes;
      records = listed (record_at s) 1 (records_of s);
    }
