-- Turns, run calls, lists of run calls, and the machine that is never cut.
use Rattle.std.specs.Prelude.{ℕ, zero, suc, ◌/◌, Bool, ◌&&◌, List, [], ◌∷◌, ◌++◌, leb, eqb, if◌then◌else◌}
use Rattle.model.specs.declared.Refusal.TheVariants.{Size}
use Rattle.model.specs.Counts.{main}
use Rattle.model_laws.specs.Now.{current}
use Rattle.sheet.specs.Sheet.{Sheet}
use Rattle.machine.specs.declared.End.{End}
use Rattle.machine.specs.declared.End.TheVariants.{Finished, Full, Refused}
use Rattle.machine.specs.Machine.{Machine, fresh}
use Rattle.machine.specs.Steps.{record_now, Line, Turn, ended, stepped, step}

-- "fewer than 16 trace bytes left, full", and "trace above 65,536 bytes"
abbrev pub line_size : ℕ
line_size = 16

abbrev pub trace_limit : ℕ
trace_limit = 65536

-- "main current at position 0, finished"
abbrev pub at_end : Sheet → Machine → Bool
at_end s m = eqb (current m.lists) (main s.counts) && eqb (record_now s m) 0

-- "At each turn: main current at position 0, finished. Else fewer than 16 trace bytes left, full. Else one step"; room is how many
-- more lines the trace holds
unfoldable pub turn : Sheet → ℕ → Machine → Turn
turn s zero m = if at_end s m then ended Finished else ended Full
turn s (suc room) m = if at_end s m then ended Finished else step s m

-- ---- one run call

-- what a call leaves: its lines, its end, and the machine
pub record Ran : Type 0 where
  pub lines : List Line
  pub end : End
  pub machine : Machine

abbrev pub stopped : End → Machine → Ran
stopped e m = record { lines = []; end = e; machine = m }

abbrev pub also_line : Line → Ran → Ran
also_line l r = record { lines = l ∷ r.lines; end = r.end; machine = r.machine }

-- turn after turn, with room for so many lines; without room no turn is a step
unfoldable pub turns : Sheet → ℕ → Machine → Ran
turns s zero m = elim (turn s zero m) [ ended e ↦ stopped e m | stepped l k ↦ stopped Full m ]
turns s (suc room) m = elim (turn s (suc room) m) [ ended e ↦ stopped e m | stepped l k ↦ also_line l (turns s room k) ]

-- a call with a trace buffer of so many bytes: "trace above 65,536 bytes" is 1, and takes no turn; a line takes 16 bytes, so fewer
-- than 16 are left after len / 16 lines
unfoldable pub call : Sheet → ℕ → Machine → Ran
call s len m = if leb len trace_limit then turns s (len / line_size) m else stopped (Refused Size) m

-- ---- a list of run calls, "each has .. the run as the last left it"

unfoldable pub calls : Sheet → Machine → List ℕ → List Ran
calls s m [] = []
calls s m (len ∷ lens) = let r = call s len m in r ∷ calls s r.machine lens

-- the machine after the calls, and "all lines joined"
abbrev pub last_of : Machine → List Ran → Machine
last_of m [] = m
last_of m (r ∷ rs) = last_of r.machine rs

abbrev pub lines_of : List Ran → List Line
lines_of [] = []
lines_of (r ∷ rs) = r.lines ++ lines_of rs

-- ---- "a machine never cut"

-- where a turn leads: nowhere, once the run has ended
abbrev pub onward : Machine → Turn → Machine
onward m (ended e) = m
onward m (stepped l k) = k

-- the machine after n steps, at rest where there is no step more
unfoldable pub uncut : Sheet → ℕ → Machine → Machine
uncut s zero m = m
uncut s (suc n) m = let k = uncut s n m in onward k (turn s 1 k)

-- the lines of its first n steps
unfoldable pub uncut_lines : Sheet → ℕ → Machine → List Line
uncut_lines s zero m = []
uncut_lines s (suc n) m = elim (turn s 1 m) [ ended e ↦ [] | stepped l k ↦ l ∷ uncut_lines s n k ]

-- after n steps from the fresh machine
abbrev pub state : Sheet → ℕ → Machine
state s n = uncut s n (fresh s)
