use Rattle.run_print.specs.Pieces.{left_is}
use Rattle.run_print.proofs.piece.piece.Goals as goal

pub returns : goal.returns
returns c = left_is c.args.sheet.now _ c.args.trace.now c.args.k _ _ _ c.run.ensures
