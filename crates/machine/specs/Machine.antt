-- The plain machine's state: "a list of links for each head, a list of notices (process, time), the terminated processes, positions
-- and 64 triples a, b, c". Nothing here speaks of the engine's tables.
use Rattle.std.specs.Prelude.{ℕ, ◌-◌, List, get_or, set, replicate}
use Rattle.model.specs.declared.Counts.{Counts}
use Rattle.model.specs.Counts.{main}
use Rattle.model_laws.specs.Tables.{Lists}
use Rattle.model_laws.specs.Fresh.{fresh_lists}
use Rattle.accum_laws.specs.declared.Accumulator.{Accumulator}
use Rattle.accum_laws.specs.Keeps.{zero_accumulator}
use Rattle.sheet.specs.Sheet.{Sheet}

pub record Machine : Type 0 where
  pub lists : Lists  -- the sets, the notices and the terminated processes
  pub positions : List ℕ  -- the next record of each process, main's first
  pub triples : List Accumulator  -- accumulators 1 .. 64

-- "at first one notice, main at 0, the sheet's starts, zeros, no more"
unfoldable pub fresh : Sheet → Machine
fresh s = record { lists = fresh_lists s.counts; positions = s.starts; triples = replicate 64 zero_accumulator }

-- the position of process p
abbrev pub position_of : Counts → Machine → ℕ → ℕ
position_of c m p = get_or m.positions (p - main c) 0

-- ---- the machine with one part changed

abbrev pub with_lists : Machine → Lists → Machine
with_lists m l = record { lists = l; positions = m.positions; triples = m.triples }

abbrev pub with_position : Counts → Machine → ℕ → ℕ → Machine
with_position c m p r = record { lists = m.lists; positions = set m.positions (p - main c) r; triples = m.triples }

abbrev pub with_triples : Machine → List Accumulator → Machine
with_triples m l = record { lists = m.lists; positions = m.positions; triples = l }
