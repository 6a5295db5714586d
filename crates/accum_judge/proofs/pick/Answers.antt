use Rattle.std.specs.Prelude.{refl}
use Rattle.std.proofs.Common.{◌∙◌, arith}
use Rattle.model.specs.Passed.{passed_on}
use Rattle.model_laws.proofs.Ready.{judged_ready}
use Rattle.accum_laws.specs.Promise.{number_in}
use Rattle.accum_laws.specs.Picks.{picked_passed, pick_turned, pick_fine}
use Rattle.accum_judge.proofs.pick.Goals as goal

pub time_of-requires : goal.time_of-requires
time_of-requires c =
    judged_ready _ _
    (picked_passed _ _ _ _ _ _ _ c.count_fine-list.ensures c.number_fine-number.ensures c.judge_list.ensures c.in_ok-judge_list.was).tables_are

pub overflow_sub-result : goal.overflow_sub-result
overflow_sub-result c =
    let passed : _ =
    picked_passed _ _ _ _ _ _ _ c.count_fine-list.ensures c.number_fine-number.ensures c.judge_list.ensures c.in_ok-judge_list.was
    in
    omega (arith, number_in _ _ passed.number_is)

pub returns-in_err-judge_list : goal.returns-in_err-judge_list
returns-in_err-judge_list c =
    passed_on _ _ c.from_residual.ensures.1
    ∙ pick_turned _ _ _ _ _ _ _ c.count_fine-list.ensures c.number_fine-number.ensures c.judge_list.ensures _ c.in_err-judge_list.was

pub returns : goal.returns
returns c =
    pick_fine _ _ _ _ _ _ _ c.count_fine-list.ensures c.number_fine-number.ensures c.judge_list.ensures _ _
    c.in_ok-judge_list.was refl c.time_of.ensures
