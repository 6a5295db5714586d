use Rattle.accum_laws.specs.Gather.{Copied}
use Rattle.accum_update.proofs.gather.gather.Given as goal

abbrev pub invariant-loop-i : goal.invariant-loop-i
invariant-loop-i l = Copied l.n l.i l.list l.words
