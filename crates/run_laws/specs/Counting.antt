-- The loop counts bytes alone, and neither divides nor multiplies: the next line's place is byte `at`; none goes behind byte `end`, so that
-- none begins at byte `stop` or behind it. That there are `at / line_size` lines, and room for `end / line_size`, is said here alone.
use Rattle.std.specs.Prelude.{ℕ, ◌*◌, ◌/◌, ◌≤◌, ◌≡◌, List, length}
use Rattle.model.specs.declared.Counts.{Counts}
use Rattle.trace.specs.Fits.{past_last}
use Rattle.machine.specs.Run.{line_size}
use Rattle.run_laws.specs.Run.{RunTables, RanOn}
use Rattle.run_laws.specs.Turning.{Turning}

pub record Counting (c : Counts) (bytes : List ℕ) (end stop at : ℕ) (whole : RanOn) (u₀ : RunTables) (tr₀ : List ℕ) (u : RunTables)
    (tr : List ℕ) : Type 0 where
  pub turning : Turning c bytes (end / line_size) (at / line_size) whole u₀ tr₀ u tr
  pub place : at ≡ line_size * (at / line_size)
  pub within : end ≤ length tr₀
  pub stop_is : stop ≡ past_last end
