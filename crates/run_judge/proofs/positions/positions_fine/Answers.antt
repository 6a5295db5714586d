use native.Mathlib.Omega.{arith}
use Rattle.run_judge.proofs.Judging.{stands_start, stands_past, stands_turn, stands_out}
use Rattle.run_judge.proofs.positions.positions_fine.Goals as goal

pub loop-i-init : goal.loop-i-init
loop-i-init c = stands_start _ _ _

pub returns-then-records-positions : goal.returns-then-records-positions
returns-then-records-positions c = stands_past _ _ _ _ c.loop-i.invariant c.loop-i-test.true c.if-records-positions.true

pub loop-i-preserved : goal.loop-i-preserved
loop-i-preserved c = stands_turn _ _ _ _ c.loop-i.invariant c.loop-i-test.true c.if-records-positions.false

pub returns : goal.returns
returns c = stands_out _ _ _ _ c.loop-i.invariant (omega (arith, c.loop-i-test.false))
