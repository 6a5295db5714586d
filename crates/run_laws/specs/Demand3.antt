-- Demand 3: one theorem about a whole list of run calls, refused ones included, for every accepted sheet and every list of trace buffers.
use Rattle.std.specs.Prelude.{ℕ, ◌≡◌, length}
use Rattle.std.proofs.Common.{sym, ◌∙◌}
use mathlib.Core.List.{List, [], ◌∷◌}
use Rattle.model_laws.specs.Only.{tables_only}
use Rattle.sheet.specs.Sheet.{counts_of, records_of, Sheet, sheet_of}
use Rattle.machine.specs.Machine.{Machine, fresh}
use Rattle.machine.specs.Run.{call, calls, state}
use Rattle.machine.specs.Run as machine
use Rattle.machine_laws.specs.Uncut.{Joined}
use Rattle.machine.specs.History.{Tie, scheduled}
use Rattle.machine_laws.specs.GoesFirst.{GoesFirst}
use Rattle.run_laws.specs.MachineLaws.{Laws}
use Rattle.run_laws.specs.Run.{RunTables, RanOn, run_on}
use Rattle.run_laws.specs.Standing.{Stands}
use Rattle.run_laws.specs.Fresh.{fresh_run}
use Rattle.run_laws.specs.CallFollows.{Agrees}

-- the engine's calls, one for each buffer: "each has a trace buffer of its own and the run as the last left it"
unfoldable pub runs : List ℕ → RunTables → List (List ℕ) → List RanOn
runs bytes u [] = []
runs bytes u (b ∷ bs) = let o = run_on bytes u b in o ∷ runs bytes o.run bs

-- the machine is fed the lengths alone
abbrev pub lengths : List (List ℕ) → List ℕ
lengths [] = []
lengths (b ∷ bs) = length b ∷ lengths bs

-- each call is the machine's
abbrev pub AllAgree : List ℕ → List (List ℕ) → List machine.Ran → List RanOn → Type 0
AllAgree bytes [] [] [] = Unit {0}
AllAgree bytes [] [] (o ∷ os) = ⊥
AllAgree bytes [] (r ∷ rs) os = ⊥
AllAgree bytes (b ∷ bs) [] os = ⊥
AllAgree bytes (b ∷ bs) (r ∷ rs) [] = ⊥
AllAgree bytes (b ∷ bs) (r ∷ rs) (o ∷ os) = Agrees bytes b r o × AllAgree bytes bs rs os

pub record Demand3 (bytes : List ℕ) (buffers : List (List ℕ)) : Type 0 where
  -- the fresh run is the fresh machine's
  pub begins : Stands (counts_of bytes) (records_of bytes) (fresh (sheet_of bytes)) (fresh_run (counts_of bytes) bytes)
  -- "every line, every answer and the model after .. equal those of document 01's plain machine"
  pub agree : AllAgree bytes buffers (calls (sheet_of bytes) (fresh (sheet_of bytes)) (lengths buffers))
      (runs bytes (fresh_run (counts_of bytes) bytes) buffers)
  -- "All lines joined are the first of a machine never cut", and the machine after the calls is that one's
  pub joined_lines : Joined (sheet_of bytes) (fresh (sheet_of bytes)) (lengths buffers)
  -- that machine, after any number of steps: "No link stands twice in the sets, no process has two notices, and no step takes time back",
  -- and ties stand in the stated order
  pub laws : (n : ℕ) → Laws (sheet_of bytes) n

-- ---- the auditor's two questions

-- When two things fall due at one tick, which goes first, always? After n steps a and b have notices, and b's was scheduled later
pub record WhichFirst (s : Sheet) (n a b : ℕ) : Type 0 where
  -- then the two stand as b's placing says
  pub tie : Tie s n a b (scheduled s n b)
  -- and to stand before is to go first
  pub goes_first : GoesFirst s n

-- and tables that spell a machine are the only ones: two runs that are one machine's have the same words
pub one_model : (bytes : List ℕ) (m : Machine) (u v : RunTables) → Stands (counts_of bytes) (records_of bytes) m u
    → Stands (counts_of bytes) (records_of bytes) m v
    → (u.model ≡ v.model) × (u.positions ≡ v.positions) × (u.words ≡ v.words)
one_model bytes m u v g h = (
  tables_only (counts_of bytes) m.lists u.model v.model g.model h.model,
  g.positions ∙ sym
      h.positions,
  g.words ∙ sym h.words,
)
