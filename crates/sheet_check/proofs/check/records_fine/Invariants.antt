use Rattle.sheet.specs.AllTo.{Remaining}
use Rattle.sheet.specs.Accepted.{layout_fine}
use Rattle.sheet_check.proofs.check.records_fine.Given as goal

abbrev pub invariant-loop-r : goal.invariant-loop-r
invariant-loop-r l = Remaining (layout_fine l.sheet l.header) l.header.records l.r
