use native.Mathlib.Omega.{arith}
use mathlib.Core.Path.{refl}
use Rattle.sheet.specs.AllTo.{left_start, left_turn, left_break, left_out}
use Rattle.sheet.specs.Tests.{shown, refuted}
use Rattle.std.proofs.Common.{ap, not}
use Rattle.sheet_check.proofs.check.records_fine.Goals as goal

pub loop-r-init : goal.loop-r-init
loop-r-init c = left_start _ _ _ refl

pub returns-then-not-layout_fine : goal.returns-then-not-layout_fine
returns-then-not-layout_fine c = left_break _ _ _ c.loop-r.invariant c.loop-r-test.true (refuted _ _ c.layout_fine.ensures (ap not c.if-not-layout_fine.true))

pub loop-r-preserved : goal.loop-r-preserved
loop-r-preserved c = left_turn _ _ _ c.loop-r.invariant c.loop-r-test.true (shown _ _ c.layout_fine.ensures (ap not c.if-not-layout_fine.false))

pub returns : goal.returns
returns c = left_out _ _ _ c.loop-r.invariant (omega (arith, c.loop-r-test.false))
