use Prim.Native.Nat.{◌*◌, ◌≤◌}
use Rattle.run_laws.specs.Run.{lent}
use Rattle.run_laws.specs.Standing.{Standing}
use Rattle.run_print.proofs.show.pieces.Given as goal

abbrev pub invariant-loop-i : goal.invariant-loop-i
invariant-loop-i g l = Standing l.c l.sheet (lent l.links l.axis l.times l.marks l.positions l.accums) × (l.steps ≤ 4294967295 * l.i)
