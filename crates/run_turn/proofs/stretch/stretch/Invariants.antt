use Prim.Native.Nat.{◌-◌, ◌/◌}
use mathlib.Core.Path.{◌≡◌}
use lib.ListN.{length}
use Rattle.simset_laws.specs.BoundLaws.{Covers}
use Rattle.machine.specs.Run.{line_size}
use Rattle.run_laws.specs.Run.{lent, turns_on}
use Rattle.run_laws.specs.Stretching.{Stretching}
use Rattle.run_turn.proofs.stretch.stretch.Given as goal

abbrev pub invariant-loop-at : goal.invariant-loop-at
invariant-loop-at l =
    (Stretching l.c l.sheet l.end l.stop (l.from / line_size) (turns_on l.c l.sheet (l.from / line_size) (l.end / line_size - l.from / line_size) (lent l.initial.links l.initial.axis l.initial.times l.marks l.initial.positions l.initial.accums) l.initial.trace) (lent l.initial.links l.initial.axis l.initial.times l.marks l.initial.positions l.initial.accums) l.initial.trace l.at l.f l.time l.r (lent l.links l.axis l.times l.marks l.positions l.accums) l.trace) × Covers l.c 0 l.links l.bounds × (length l.bounds ≡ length l.initial.bounds)

abbrev pub decreases-loop-at : goal.decreases-loop-at
decreases-loop-at l =
    l.stop - l.at
