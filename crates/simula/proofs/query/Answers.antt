use Rattle.model.specs.Passed.{passed_on}
use mathlib.Core.Path.{sym, ap, ◌∙◌}
use Rattle.model_laws.proofs.Ready.{judged_ready}
use Rattle.model_laws.specs.Called.{asked_turned, asked_fine}
use Rattle.simulation_laws.specs.Promise.{ready_judged}
use Rattle.simula.proofs.query.Goals as goal

pub tell-requires-clause-judged : goal.tell-requires-clause-judged
tell-requires-clause-judged c = ready_judged _ _ (judged_ready _ _ (sym c.judge_tables.ensures ∙ c.in_ok-judge_tables.was))

pub tell-requires-clause-sound : goal.tell-requires-clause-sound
tell-requires-clause-sound c = (judged_ready _ _ (sym c.judge_tables.ensures ∙ c.in_ok-judge_tables.was)).links_sound

pub returns-in_err-judge_tables : goal.returns-in_err-judge_tables
returns-in_err-judge_tables c =
    passed_on _ _ c.from_residual.ensures.1
    ∙ asked_turned _ _ _ c.judge_tables.ensures _ _ c.in_err-judge_tables.was

pub returns : goal.returns
returns c = asked_fine _ _ _ c.judge_tables.ensures _ _ c.in_ok-judge_tables.was c.tell.ensures
