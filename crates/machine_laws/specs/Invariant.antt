-- What holds of the machine at every moment of a run, and what a run needs of its sheet.
use Rattle.std.specs.Prelude.{ℕ, ◌≤◌, ◌<◌, ◌+◌, ◌≡◌, ◌≢◌, length, get_or}
use Rattle.ring_laws.specs.Lists.{In}
use Rattle.ring_laws.specs.Distinct.{Dist, joined}
use Rattle.model.specs.Counts.{Allowed, total, main}
use Rattle.axis_laws.specs.Notices.{whos, InOrder, Within}
use Rattle.model_laws.specs.Tables.{Limited}
use Rattle.model_laws.specs.Now.{time}
use Rattle.accum_laws.specs.Runs.{Each}
use Rattle.sheet.specs.declared.header.Header.{Header}
use Rattle.sheet.specs.Sheet.{Sheet}
use Rattle.sheet.specs.Fields.{Ranged}
use Rattle.machine.specs.Machine.{Machine}
use Rattle.machine.specs.Steps.{record_of}

abbrev pub header_is : Sheet → Header
header_is s = record { counts = s.counts; records = length s.records }

-- an accepted sheet's counts, starts and records are in their ranges
pub record InRange (s : Sheet) : Type 0 where
  pub allowed : Allowed s.counts
  pub starts_all : length s.starts ≡ s.counts.processes
  pub starts_in_lem : (i : ℕ) → get_or s.starts i 0 ≤ length s.records
  pub record_in : (r : ℕ) → 1 ≤ r → r ≤ length s.records → Ranged (header_is s) (record_of s r)

pub record Invariant (s : Sheet) (m : Machine) : Type 0 where
  -- "No link stands twice in the sets", all sets taken together; only links stand there
  pub links_once : Dist (joined m.lists.sets)
  pub only_links : (x : ℕ) → In x (joined m.lists.sets) → (s.counts.heads < x) × (x ≤ total s.counts)
  -- "Make 512 the most members a set may have, so that displays can be laid out for it"
  pub limited : Limited m.lists.sets
  -- "no process has two notices"; only processes have one
  pub notice_each : Dist (whos m.lists.notices)
  pub only_processes : (x : ℕ) → In x (whos m.lists.notices) → (s.counts.heads < x) × (x ≤ s.counts.heads + s.counts.processes)
  -- "at least one process and its times, none above the limit, never fall"
  pub some : 0 < length m.lists.notices
  pub in_order : InOrder m.lists.notices
  pub within : Within m.lists.notices
  -- "A terminated process is idle and isn't main"
  pub ended_idle : (x : ℕ) → In x m.lists.terminated → In x (whos m.lists.notices) → ⊥
  pub ended_other : (x : ℕ) → In x m.lists.terminated → x ≢ main s.counts
  -- a list for each head, a position for each process, each at most R, and 64 triples
  pub sets_all : length m.lists.sets ≡ s.counts.heads
  pub positions_all : length m.positions ≡ s.counts.processes
  pub positions_in : (i : ℕ) → get_or m.positions i 0 ≤ length s.records
  pub triples_all : length m.triples ≡ 64
  -- "Required before: 0 ≤ b ≤ time, |a| ≤ 1,000,000 × b, |c| ≤ 1,000,000"
  pub required : Each m.triples (time m.lists)
