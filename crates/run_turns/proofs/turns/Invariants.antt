use Prim.Native.Nat.{◌-◌, ◌/◌}
use mathlib.Core.Path.{◌≡◌}
use lib.ListN.{length}
use Rattle.simset_laws.specs.BoundLaws.{Covers}
use Rattle.machine.specs.Run.{line_size}
use Rattle.run_laws.specs.Run.{lent, turns_on}
use Rattle.run_laws.specs.Counting.{Counting}
use Rattle.run_turns.proofs.turns.Given as goal

abbrev pub invariant-loop-at : goal.invariant-loop-at
invariant-loop-at l =
    (Counting l.c l.sheet l.end l.stop l.at (turns_on l.c l.sheet 0 (length l.initial.trace / line_size) (lent l.initial.links l.initial.axis l.initial.times l.initial.marks l.initial.positions l.initial.accums) l.initial.trace) (lent l.initial.links l.initial.axis l.initial.times l.initial.marks l.initial.positions l.initial.accums) l.initial.trace (lent l.links l.axis l.times l.marks l.positions l.accums) l.trace) × Covers l.c 0 l.links l.bounds × (length l.bounds ≡ 66)

abbrev pub decreases-loop-at : goal.decreases-loop-at
decreases-loop-at l =
    l.end / line_size - l.at / line_size
