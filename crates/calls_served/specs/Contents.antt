-- How many bytes the contents of a request take, and that they fit into buffers of these lengths.
use Rattle.std.specs.Prelude.{ℕ, ◌+◌, ◌*◌, ◌≤◌}
use Rattle.calls_served.specs.declared.head.Sizes.{Sizes}

-- links, axis, times, marks
abbrev pub model_bytes : Sizes → ℕ
model_bytes n = 4 * n.links + 4 * n.axis + 8 * n.times + n.marks

-- accumulators of three words, positions, sheet, trace
abbrev pub run_bytes : Sizes → ℕ
run_bytes n = 24 * n.accums + 4 * n.positions + n.sheet + n.trace

pub record ModelFits (n : Sizes) (links axis times marks : ℕ) : Type 0 where
  pub links_fit : n.links ≤ links
  pub axis_fits : n.axis ≤ axis
  pub times_fit : n.times ≤ times
  pub marks_fit : n.marks ≤ marks

pub record RunFits (n : Sizes) (accums positions trace : ℕ) : Type 0 where
  pub accums_fit : 3 * n.accums ≤ accums
  pub positions_fit : n.positions ≤ positions
  pub trace_fits : n.trace ≤ trace

-- they fit into the program's buffers
pub record Served (n : Sizes) : Type 0 where
  pub model : ModelFits n 8448 4352 1088 1088
  pub run : RunFits n 240 1088 66000
