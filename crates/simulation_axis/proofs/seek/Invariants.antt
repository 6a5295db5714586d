use Rattle.simulation_axis.proofs.Seeks.{Seeks}
use Rattle.simulation_axis.proofs.seek.Given as goal

abbrev pub invariant-loop : goal.invariant-loop
invariant-loop l = Seeks l.axis.words.now l.axis.m l.times l.w l.f l.b l.counter
