use Rattle.std.proofs.Common.{ap, sym, ◌∙◌}
use Rattle.model.specs.Answers.{Answered}
use Rattle.model.specs.Passed.{passed_on}
use Rattle.model_laws.specs.Called.{if_accepted}
use Rattle.simulation_laws.specs.PublicLaws.{call_telling}
use Rattle.simula.proofs.told.sequencing_answer.Goals as goal

pub returns-in_err-sequencing_step : goal.returns-in_err-sequencing_step
returns-in_err-sequencing_step c =
    call_telling c.args.c c.args.call _ _ _ _ _ c.sequencing_told-told.ensures c.sequencing_step.ensures
    (passed_on _ _ c.from_residual.ensures.1 ∙ sym (ap (λ (a : Answered). if_accepted a c.sequencing_told-told.result) c.in_err-sequencing_step.was))

pub returns : goal.returns
returns c =
    call_telling c.args.c c.args.call _ _ _ _ _ c.sequencing_told-told.ensures c.sequencing_step.ensures
    (sym (ap (λ (a : Answered). if_accepted a c.sequencing_told-told.result) c.in_ok-sequencing_step.was))
