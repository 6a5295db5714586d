use Rattle.std.proofs.Common.{ap, sym, ◌∙◌}
use Rattle.model.specs.Answers.{Answered}
use Rattle.model.specs.Passed.{passed_on}
use Rattle.model_laws.specs.Called.{if_accepted}
use Rattle.simset_laws.specs.Promise.{moved_telling}
use Rattle.simula.proofs.told.set_answer.Goals as goal

pub returns-in_err-set_step : goal.returns-in_err-set_step
returns-in_err-set_step c =
    moved_telling _ c.args.c c.args.call _ _ _ _ _ c.set_told-told.ensures c.set_step.ensures
    (passed_on _ _ c.from_residual.ensures.1 ∙ sym (ap (λ (a : Answered). if_accepted a c.set_told-told.result) c.in_err-set_step.was))

pub returns : goal.returns
returns c = moved_telling _ c.args.c c.args.call _ _ _ _ _ c.set_told-told.ensures c.set_step.ensures
    (sym (ap (λ (a : Answered). if_accepted a c.set_told-told.result) c.in_ok-set_step.was))
