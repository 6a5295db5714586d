use Rattle.std.specs.Prelude.{◌≡◌, ◌*◌}
use Rattle.machine.specs.Run.{line_size}
use Rattle.run_print.proofs.piece.put_lines.Given as goal

abbrev pub invariant-loop-k : goal.invariant-loop-k
invariant-loop-k g l = l.i ≡ line_size * l.k
