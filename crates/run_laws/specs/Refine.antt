-- One step on tables that spell a machine is the machine's step: the same refusal and nothing changed, or the same line, and tables that
-- spell the machine after it.
use Rattle.std.specs.Prelude.{ℕ, List}
use Rattle.trace.specs.Lines.{line_bytes}
use Rattle.machine.specs.Steps.{Line}

-- the bytes of a line
abbrev pub bytes_of : Line → List ℕ
bytes_of l = line_bytes l.time l.process l.rec
