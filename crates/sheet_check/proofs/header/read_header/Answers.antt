use Rattle.std.proofs.Common.{◌∙◌}
use Rattle.sheet.specs.Sheet.{records_of}
use Rattle.sheet.specs.Checking.{too_short, counts_refused, counts_made}
use Rattle.sheet_check.proofs.header.read_header.Goals as goal

pub returns-then-sheet-lt-HEADER_BYTES : goal.returns-then-sheet-lt-HEADER_BYTES
returns-then-sheet-lt-HEADER_BYTES c = too_short _ c.if-sheet-lt-HEADER_BYTES.true

pub returns-in-Err : goal.returns-in-Err
returns-in-Err c = counts_refused _ c.if-sheet-lt-HEADER_BYTES.false _ c.counts_of.ensures _ c.in-Err.is

pub returns-in-Ok : goal.returns-in-Ok
unfolding records_of
returns-in-Ok c = c.sized.ensures ∙ counts_made _ c.if-sheet-lt-HEADER_BYTES.false _ c.counts_of.ensures _ _ c.in-Ok.is c.u32_at-records.ensures
