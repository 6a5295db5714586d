-- What the code of a step asks of its tables and of the record it is at.
use Rattle.std.specs.Prelude.{ℕ, ◌+◌, ◌≤◌, ◌≡◌, true, List, ℤ, length}
use Rattle.ring_laws.specs.Table.{Sound}
use Rattle.model.specs.declared.Counts.{Counts}
use Rattle.model.specs.Counts.{Allowed, total}
use Rattle.model_laws.specs.Tables.{Tables}
use Rattle.model_laws.specs.Ready.{Ready}
use Rattle.model_laws.specs.Now.{half, time_of, first_of}
use Rattle.sheet.specs.Sheet.{record_from, record_bytes}
use Rattle.sheet.specs.Accepted.{is_operand}
use Rattle.sheet.specs.Fields.{Ranged}
use Rattle.run_laws.specs.Run.{run_words}

-- to resolve an operand: counts within their limits, a sound table of links, and current at a place of the axis
pub record Resolvable (c : Counts) (links : List ℕ) (f : ℕ) : Type 0 where
  pub allowed : Allowed c
  pub sound : Sound (total c + 1) links
  pub place_in : f ≤ c.processes

-- to resolve v, which is x or y of the record whose bytes begin at i
pub record Readable (c : Counts) (bytes : List ℕ) (i : ℕ) (links : List ℕ) (f v : ℕ) : Type 0 where
  pub inside : i + record_bytes ≤ length bytes
  pub operand : is_operand c v ≡ true
  pub resolvable : Resolvable c links f

-- to make its call: judged tables, fields in their ranges, and current's place
pub record Callable (c : Counts) (bytes : List ℕ) (i f : ℕ) (t : Tables) : Type 0 where
  pub ready : Ready c t
  pub inside : i + record_bytes ≤ length bytes
  pub records : ℕ
  pub ranged : Ranged (record { counts = c; records = records }) (record_from bytes i)
  pub place_is : f ≡ first_of (half c) t.axis

-- to make one that uses the time or an accumulator: also current's time, and all accumulators
pub record Performable (c : Counts) (bytes : List ℕ) (i f time : ℕ) (t : Tables) (words : List ℤ) : Type 0 where
  pub callable : Callable c bytes i f t
  pub time_is : time ≡ time_of (half c) t.axis t.times
  pub words_all : length words ≡ run_words
