use mathlib.Core.Path.{refl}
use Rattle.sheet.specs.Operations.{row_of, row_at}
use Rattle.sheet_check.proofs.operations.row_of.Goals as goal

pub returns : goal.returns
unfolding row_of
returns c = row_at _ _ refl c.args.operation c.requires.le_operation c.requires.operation_le_last_operation
