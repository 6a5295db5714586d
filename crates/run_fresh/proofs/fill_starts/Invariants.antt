use Prim.Native.Nat.{◌-◌}
use Rattle.run_laws.specs.Filling.{Starting}
use Rattle.run_fresh.proofs.fill_starts.Given as goal

abbrev pub invariant-loop-p : goal.invariant-loop-p
invariant-loop-p l = Starting l.sheet l.processes l.positions (l.p - 1)
