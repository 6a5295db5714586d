use Rattle.ring_judge.proofs.Judging.{Weighs}
use Rattle.ring_judge.proofs.count_busy.Given as goal

abbrev pub invariant-loop-j : goal.invariant-loop-j
invariant-loop-j l = Weighs l.m l.t l.lo l.n l.j
