use Rattle.std.proofs.lemmas.Result.{err_from_is_err_and}
use Rattle.std.specs.Prelude.{Err}
use Rattle.std.proofs.Common.{◌∙◌, ap, not}
use Rattle.sheet.specs.Tests.{shown, refuted}
use Rattle.sheet.specs.Checking.{header_refused, header_length, starts_break, records_break, all_fine}
use Rattle.sheet_check.proofs.check.check.Goals.{else-starts_fine-via-then-starts_fine+else-records_fine, else-starts_fine-via-else-starts_fine}
use Rattle.sheet_check.proofs.check.check.Goals as goal

pub starts_fine-requires : goal.starts_fine-requires
starts_fine-requires c = header_length _ _ c.read_header.ensures _ c.in_ok-header.was

pub records_fine-requires : goal.records_fine-requires
records_fine-requires c = header_length _ _ c.read_header.ensures _ c.in_ok-header.was

pub returns-in_err-header : goal.returns-in_err-header
returns-in_err-header c =
    let e = err_from_is_err_and _ c.from_residual.ensures.1 in e.1 ∙ ap Err e.2 ∙ header_refused _ _ c.read_header.ensures _ c.in_err-header.was

pub returns-then-records_fine : goal.returns-then-records_fine
returns-then-records_fine c = all_fine _ _ c.read_header.ensures _ c.in_ok-header.was (shown _ _ c.starts_fine.ensures (ap not c.if-starts_fine.true)) (shown _ _ c.records_fine.ensures (ap not c.if-records_fine.true))

pub returns-else-starts_fine : goal.returns-else-starts_fine
returns-else-starts_fine c =
    elim c.else-starts_fine.branch [
      | else-starts_fine-via-then-starts_fine+else-records_fine w ↦
          records_break _ _ c.read_header.ensures _ c.in_ok-header.was (shown _ _ c.starts_fine.ensures (ap not w.if-starts_fine.true)) (refuted _ _ w.records_fine.ensures (ap not w.if-records_fine.false))
      | else-starts_fine-via-else-starts_fine w ↦
          starts_break _ _ c.read_header.ensures _ c.in_ok-header.was (refuted _ _ c.starts_fine.ensures (ap not w.if-starts_fine.false))
    ]
