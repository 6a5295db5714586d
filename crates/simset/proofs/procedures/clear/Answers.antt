use Rattle.simset.proofs.Moving.{clears_start, clears_done, clears_turn, clears_out}
use Rattle.simset.proofs.procedures.clear.Goals as goal

pub loop-init : goal.loop-init
loop-init c = clears_start _ _

pub returns-then-first-h : goal.returns-then-first-h
returns-then-first-h c = clears_done _ _ _ _ c.loop.invariant c.loop-test.true c.if-first-h.true

pub loop-preserved : goal.loop-preserved
loop-preserved c = clears_turn _ _ _ _ c.loop.invariant _ c.if-first-h.false c.unlink.ensures

pub returns : goal.returns
returns c = clears_out _ _ _ _ c.loop.invariant c.loop.auto.counter-end c.loop-test.false
