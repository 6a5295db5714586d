use Rattle.run_laws.specs.Judging.{fine_standing}
use Rattle.run_laws.specs.RunIs.{run_judged_lem, run_turns}
use mathlib.Core.Path.{sym, ◌∙◌}
use Rattle.run_laws.specs.Run.{lent}
use Rattle.run.proofs.run_accepted.Goals as goal

pub turns-requires : goal.turns-requires
turns-requires c =
    let all = fine_standing (c.args.sheet.now) (c.args.header) (lent c.args.links.now c.args.axis.now c.args.times.now c.args.marks.now c.args.positions.now c.args.accums.now) _ (c.requires) (sym (c.judge_run.ensures) ∙ c.in-Ok.is) in
    record { standing = all.0; trace_len_bound = all.1 }

pub returns-in-Err : goal.returns-in-Err
returns-in-Err c = run_judged_lem (c.args.sheet.now) (lent c.args.links.now c.args.axis.now c.args.times.now c.args.marks.now c.args.positions.now c.args.accums.now) (c.args.trace.now) (c.args.header) _ (c.judge_run.ensures) _ _ (c.in-Err.is) (c.refused.ensures)

pub returns-in-Ok : goal.returns-in-Ok
returns-in-Ok c = run_turns (c.args.sheet.now) (lent c.args.links.now c.args.axis.now c.args.times.now c.args.marks.now c.args.positions.now c.args.accums.now) (c.args.trace.now) (c.args.header) _ (c.judge_run.ensures) _ (c.in-Ok.is) (c.turns.ensures)
