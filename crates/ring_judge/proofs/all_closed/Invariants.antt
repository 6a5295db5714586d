use Rattle.ring_judge.proofs.Judging.{Heads}
use Rattle.ring_judge.proofs.all_closed.Given as goal

abbrev pub invariant-loop-i : goal.invariant-loop-i
invariant-loop-i l = Heads l.m l.t l.lo l.hi l.most l.n l.g l.links l.left l.i
