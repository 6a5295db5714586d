use Rattle.ring_judge.proofs.Judging.{Rounds}
use Rattle.ring_judge.proofs.round.Given as goal

abbrev pub invariant-loop-k : goal.invariant-loop-k
invariant-loop-k l = Rounds l.m l.t l.lo l.hi l.h l.left l.a l.k
