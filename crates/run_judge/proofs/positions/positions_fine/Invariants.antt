use Rattle.run_judge.proofs.Judging.{Downto}
use Rattle.run_judge.proofs.positions.positions_fine.Given as goal

abbrev pub invariant-loop-i : goal.invariant-loop-i
invariant-loop-i l = Downto l.records l.positions l.p l.i
