use Rattle.ring_judge.proofs.Judging.{heads_broken, heads_long, heads_turn, heads_out}
use native.Mathlib.Omega.{arith}
use Rattle.ring_judge.proofs.all_closed.Goals as goal

pub returns-then-w-eq0 : goal.returns-then-w-eq0
returns-then-w-eq0 c = heads_broken _ _ _ _ _ _ _ _ _ _ _ c.loop-i.invariant c.loop-i-test.true c.round-w.ensures c.if-w-eq0.true

pub returns-then-most-left : goal.returns-then-most-left
returns-then-most-left c = heads_long _ _ _ _ _ _ _ _ _ _ _ c.loop-i.invariant c.loop-i-test.true c.round-w.ensures c.if-w-eq0.false c.if-most-left.true

pub loop-i-preserved : goal.loop-i-preserved
loop-i-preserved c = heads_turn _ _ _ _ _ _ _ _ _ _ _ c.loop-i.invariant c.loop-i-test.true c.round-w.ensures c.if-w-eq0.false c.if-most-left.false

pub returns : goal.returns
returns c = heads_out _ _ _ _ _ _ _ _ _ _ c.loop-i.invariant (omega arith) c.loop-i-test.false
