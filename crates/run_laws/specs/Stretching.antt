-- A stretch of turns: while a process stays current its position is kept beside the tables, and is put there when the stretch ends.
use Rattle.std.specs.Prelude.{ℕ, ◌/◌, ◌≤◌, List}
use Rattle.model.specs.declared.Counts.{Counts}
use Rattle.machine.specs.Run.{line_size}
use Rattle.run_laws.specs.Run.{RunTables, RanOn}
use Rattle.run_laws.specs.Counting.{Counting}
use Rattle.run_laws.specs.Running.{Here, positioned}

pub record Stretching (c : Counts) (bytes : List ℕ) (end stop n₀ : ℕ) (whole : RanOn) (u₀ : RunTables) (tr₀ : List ℕ) (at f time r : ℕ)
    (u : RunTables) (tr : List ℕ) : Type 0 where
  pub counting : Counting c bytes end stop at whole u₀ tr₀ (positioned u f r) tr
  pub here : Here c (positioned u f r) f time r
  pub begun : n₀ ≤ at / line_size
