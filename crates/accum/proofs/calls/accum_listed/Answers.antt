use Rattle.model.specs.Passed.{passed_on}
use Rattle.model.specs.Answers.{Answered}
use lib.IntN.{ℤ}
use mathlib.Core.Path.{◌∙◌, ap}
use Rattle.model_laws.proofs.Ready.{judged_ready}
use Rattle.accum_laws.specs.Signed.{kept}
use Rattle.accum_laws.specs.Flat.{updated_in}
use Rattle.accum_laws.specs.Promise.{listed_passed, listed_in, listed_turned, listed_fine}
use Rattle.accum.proofs.calls.accum_listed.Goals as goal

pub time_of-t-requires : goal.time_of-t-requires
time_of-t-requires c =
    judged_ready _ _
    (listed_passed _ _ _ _ c.args.words.now _ _ _ c.list_fine-list.ensures c.number_fine-number.ensures
    c.judge_list.ensures c.in_ok-judge_list.was).tables_are

pub update_in-requires : goal.update_in-requires
update_in-requires c =
    listed_in _ _ _ _ c.args.words.now _ _ _ c.list_fine-list.ensures c.number_fine-number.ensures
    c.judge_list.ensures _ c.in_ok-judge_list.was c.time_of-t.ensures

pub returns-in_err-judge_list : goal.returns-in_err-judge_list
returns-in_err-judge_list c =
    ap (λ (r : Answered). record { words = c.args.words.now; answer = r }) (passed_on _ _ c.from_residual.ensures.1)
    ∙ listed_turned _ _ _ _ _ _ _ _ c.list_fine-list.ensures c.number_fine-number.ensures
    c.judge_list.ensures _ _ c.in_err-judge_list.was

pub returns : goal.returns
returns c =
    listed_fine _ _ _ _ _ _ _ _ c.list_fine-list.ensures c.number_fine-number.ensures
    c.judge_list.ensures _ _ _ c.in_ok-judge_list.was c.time_of-t.ensures
    (c.update_in.ensures ∙ ap (λ (z : ℤ). updated_in c.args.k c.time_of-t.result z c.args.words.now) (kept c.ranges.d))
