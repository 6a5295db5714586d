use Prim.Native.Nat.{◌-◌}
use lib.Dec.{leb}
use lib.ListN.{get_or}
use Rattle.simset_laws.specs.Walk.{Walking}
use Rattle.simset.proofs.heads.head_at.Given as goal

abbrev pub invariant-loop : goal.invariant-loop
invariant-loop l = Walking (λ j. leb j l.heads) l.heads l.links.m l.links.words.now (get_or l.links.words.now l.x 0) (l.links.m - l.counter) l.i
