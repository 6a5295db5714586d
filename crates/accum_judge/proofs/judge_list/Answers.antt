use Rattle.model.specs.Passed.{passed_on}
use Rattle.std.proofs.Common.{◌∙◌}
use Rattle.accum_laws.specs.Promise.{list_size, list_turned, list_number, list_fine_lem}
use Rattle.std.proofs.Common.{ap, not}
use Rattle.accum_judge.proofs.judge_list.Goals as goal

pub returns-then-not-list : goal.returns-then-not-list
returns-then-not-list c = list_size _ _ _ _ (ap not c.if-not-list.true)

pub returns-then-not-number : goal.returns-then-not-number
returns-then-not-number c =
    list_number _ _ _ _ (ap not c.if-not-list.false) _ c.judge_tables.ensures c.in_ok-judge_tables.was (ap not c.if-not-number.true)

pub returns-in_err-judge_tables : goal.returns-in_err-judge_tables
returns-in_err-judge_tables c = passed_on _ _ c.from_residual.ensures.1 ∙ list_turned _ _ _ _ (ap not c.if-not-list.false) _ c.judge_tables.ensures _ c.in_err-judge_tables.was

pub returns : goal.returns
returns c =
    list_fine_lem _ _ _ _ (ap not c.if-not-list.false) _ c.judge_tables.ensures c.in_ok-judge_tables.was (ap not c.if-not-number.false)
