use Rattle.model.specs.Passed.{passed_on}
use Rattle.model.specs.Answers.{Answered}
use Rattle.model_laws.specs.Tables.{model_of}
use mathlib.Core.Path.{sym, ap, ◌∙◌}
use Rattle.model_laws.proofs.Ready.{judged_ready}
use Rattle.model_laws.specs.Called.{called_turned, called_fine}
use Rattle.simset_laws.specs.Told.{links_answered}
use Rattle.simset_laws.specs.Promise.{on_links_lem}
use Rattle.simula.proofs.set_call.Goals as goal

pub set_answer-requires : goal.set_answer-requires
set_answer-requires c = let r = judged_ready _ _ (sym c.judge_tables.ensures ∙ c.in_ok-judge_tables.was) in record { sound = r.links_sound; allowed = r.allowed }

pub returns-in_err-judge_tables : goal.returns-in_err-judge_tables
returns-in_err-judge_tables c =
    ap (λ (r : Answered). record { tables = model_of c.args.links.now c.args.axis.now c.args.times.now c.args.marks.now; answer = r }) (passed_on _ _ c.from_residual.ensures.1)
    ∙ called_turned _ _ _ c.judge_tables.ensures _ _ c.in_err-judge_tables.was

pub returns : goal.returns
returns c = called_fine _ _ _ c.judge_tables.ensures _ _ c.in_ok-judge_tables.was (on_links_lem _ _ _ _ _ _ _ (links_answered c.args.c c.args.call) c.set_answer.ensures)
