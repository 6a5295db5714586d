use Rattle.std.specs.Prelude.{◌-◌}
use Rattle.std.proofs.Common.{ap, not, arith}
use Rattle.model_judge.proofs.AxisCode.{places_start, places_out, places_late, places_turn}
use Rattle.model_judge.proofs.places_fine.Goals as goal

pub loop-i-init : goal.loop-i-init
loop-i-init c = places_start _ _ _ _ _ (omega arith)

pub returns-then-not-place_fine : goal.returns-then-not-place_fine
returns-then-not-place_fine c = places_late _ _ _ _ _ c.loop-i.invariant (omega (arith, c.loop-i-test.true)) _ c.place_fine.ensures (ap not c.if-not-place_fine.true)

pub loop-i-preserved : goal.loop-i-preserved
loop-i-preserved c = places_turn _ _ _ _ _ c.loop-i.invariant (omega (arith, c.loop-i-test.true)) _ c.place_fine.ensures (ap not c.if-not-place_fine.false)

pub returns : goal.returns
returns c = places_out _ _ _ _ _ c.loop-i.invariant (omega (arith, c.loop-i-test.false))
