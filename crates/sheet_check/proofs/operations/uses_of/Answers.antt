use mathlib.Core.Path.{◌∙◌, ap}
use borrow.Author.Tests.{not-true, not-false}
use Rattle.sheet.specs.Operations.{under, under_plain, under_beside, under_timed}
use Rattle.sheet_check.proofs.operations.uses_of.Goals as goal

pub returns-then-not-row : goal.returns-then-not-row
returns-then-not-row c = under_plain c.args.clause _ (not-true _ c.if-not-row.true) ∙ ap (under c.args.clause) c.row_of-row.ensures

pub returns-then-clause-gt4 : goal.returns-then-clause-gt4
returns-then-clause-gt4 c = under_beside c.args.clause _ (not-false _ c.if-not-row.false) c.if-clause-gt4.true ∙ ap (under c.args.clause) c.row_of-row.ensures

pub returns-else-clause-gt4 : goal.returns-else-clause-gt4
returns-else-clause-gt4 c = under_timed c.args.clause _ (not-false _ c.if-not-row.false) c.if-clause-gt4.false ∙ ap (under c.args.clause) c.row_of-row.ensures
