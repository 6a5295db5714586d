use Rattle.ring_judge.proofs.Judging.{rounds_broken, rounds_back, rounds_turn}
use Rattle.ring_judge.proofs.round.Goals as goal

pub returns-then-s-eq0 : goal.returns-then-s-eq0
returns-then-s-eq0 c = rounds_broken _ _ _ _ _ _ _ _ _ c.loop-k.invariant c.loop-k-test.true c.next_place-s.ensures c.if-s-eq0.true

pub returns-then-s-h : goal.returns-then-s-h
returns-then-s-h c = rounds_back _ _ _ _ _ _ _ _ _ c.loop-k.invariant c.loop-k-test.true c.next_place-s.ensures c.if-s-eq0.false c.if-s-h.true

pub loop-k-preserved : goal.loop-k-preserved
loop-k-preserved c = rounds_turn _ _ _ _ _ _ _ _ _ c.loop-k.invariant c.loop-k-test.true c.next_place-s.ensures c.if-s-eq0.false c.if-s-h.false
