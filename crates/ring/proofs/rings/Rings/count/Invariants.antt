use Rattle.ring.proofs.Counting.{Counting}
use Rattle.ring.proofs.rings.Rings.count.Given as goal

abbrev pub invariant-loop-n : goal.invariant-loop-n
invariant-loop-n l = Counting l.self.words.now l.self.m l.h l.most l.n l.i
