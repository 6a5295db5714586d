-- Turns on tables that spell a machine are the machine's turns: as many lines, the same end, the lines' bytes and then the trace as it
-- was lent, and tables that spell the machine after them.
use Prim.Native.Nat.{ℕ, ◌+◌}
use Rattle.std.specs.Prelude.{◌≡◌, List, [], ◌++◌, map, take, drop}
use Rattle.std.proofs.Common.{ap, ◌∙◌, arith, take-append-drop}
use Rattle.ring_laws.specs.Distinct.{joined}
use Rattle.trace.specs.Lines.{put}
use Rattle.machine.specs.Steps.{Line}
use Rattle.run_laws.specs.Refine.{bytes_of}

-- the bytes of a list of lines
abbrev pub lines_bytes : List Line → List ℕ
lines_bytes ls = joined (map bytes_of ls)

pub put_none : (s : List ℕ) (i : ℕ) → put s i [] ≡ s
unfolding put
put_none s i = let e : i + 0 ≡ i = omega arith in ap (λ (n : ℕ). take i s ++ drop n s) e ∙ take-append-drop i s
