use lib.Dec.{leb}
use Rattle.sheet.specs.AllTo.{Remaining}
use Rattle.sheet.specs.Sheet.{start_at}
use Rattle.sheet_check.proofs.check.starts_fine.Given as goal

abbrev pub invariant-loop-p : goal.invariant-loop-p
invariant-loop-p l = Remaining (λ k. leb (start_at l.sheet k) l.header.records) l.header.counts.processes l.p
