use mathlib.Core.Path.{sym, subst}
use Prim.Native.Nat.{ℕ, ◌*◌, ◌≤◌}
use native.Mathlib.Omega.{arith}
use Rattle.run_print.specs.Pieces.{left_stands, left_room, stands_located}
use Rattle.run_print.proofs.show.pieces.Goals as goal

pub put_lines-requires : goal.put_lines-requires
put_lines-requires g c = subst (λ (n : ℕ). 16 * c.piece-ran.result.lines ≤ n) (sym c.piece-ran.auto.trace) (left_room c.args.sheet.now _ _ _ _ _ c.piece-ran.ensures (omega (arith, c.room.ensures, c.loop-i.auto.trace, c.requires.trace_limit_in_bounds)))

pub record_now-requires : goal.record_now-requires
record_now-requires g c = stands_located c.args.c c.args.sheet.now _ (left_stands c.args.sheet.now _ _ _ _ _ c.piece-ran.ensures c.args.c c.loop-i.invariant.0)

pub loop-i-preserved : goal.loop-i-preserved
loop-i-preserved g c = (left_stands c.args.sheet.now _ _ _ _ _ c.piece-ran.ensures c.args.c c.loop-i.invariant.0, omega (arith, c.loop-i.invariant.1))
