use Rattle.std.proofs.Common.{◌+◌, ◌*◌, ◌≡◌}
use Rattle.calls_served.proofs.copying.table_out.Given as goal

abbrev pub invariant-loop-x : goal.invariant-loop-x
invariant-loop-x g l = l.next ≡ l.at + g.T.Word.SIZE * l.x-index
