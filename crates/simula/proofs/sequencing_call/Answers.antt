use Rattle.model.specs.Passed.{passed_on}
use Rattle.model.specs.Answers.{Answered}
use Rattle.model_laws.specs.Tables.{model_of}
use mathlib.Core.Path.{sym, ap, ◌∙◌}
use Rattle.model_laws.proofs.Ready.{judged_ready}
use Rattle.model_laws.specs.Called.{called_turned, called_fine}
use Rattle.simulation_laws.specs.Promise.{ready_takeable}
use Rattle.simula.proofs.sequencing_call.Goals as goal

pub sequencing_answer-requires-clause-takeable : goal.sequencing_answer-requires-clause-takeable
sequencing_answer-requires-clause-takeable c = ready_takeable _ _ (judged_ready _ _ (sym c.judge_tables.ensures ∙ c.in_ok-judge_tables.was))

pub sequencing_answer-requires-clause-sound : goal.sequencing_answer-requires-clause-sound
sequencing_answer-requires-clause-sound c = (judged_ready _ _ (sym c.judge_tables.ensures ∙ c.in_ok-judge_tables.was)).links_sound

pub returns-in_err-judge_tables : goal.returns-in_err-judge_tables
returns-in_err-judge_tables c =
    ap (λ (r : Answered). record { tables = model_of c.args.links.now c.args.axis.now c.args.times.now c.args.marks.now; answer = r }) (passed_on _ _ c.from_residual.ensures.1)
    ∙ called_turned _ _ _ c.judge_tables.ensures _ _ c.in_err-judge_tables.was

pub returns : goal.returns
returns c = called_fine _ _ _ c.judge_tables.ensures _ _ c.in_ok-judge_tables.was c.sequencing_answer.ensures
