use Rattle.simset.proofs.Moving.{Clears}
use Rattle.simset.proofs.procedures.clear.Given as goal

abbrev pub invariant-loop : goal.invariant-loop
invariant-loop l = Clears l.h l.initial.links l.links l.counter
