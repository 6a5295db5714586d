use Rattle.model.specs.Answers.{Verdict}
use Rattle.model.specs.Passed.{passed_on}
use Rattle.run_laws.specs.Filling.{filled_8, filled_accepted}
use mathlib.Core.Path.{sym, ap, ◌∙◌}
use Rattle.run_laws.specs.Run.{lent}
use Rattle.run.proofs.fresh.fresh_run.Goals as goal

pub fill-requires : goal.fill-requires
fill-requires c = sym (c.check.ensures) ∙ c.in_ok-header.was

pub returns-in_err-header : goal.returns-in_err-header
returns-in_err-header c = ap (λ (r : Verdict). record { run = lent c.args.links.now c.args.axis.now c.args.times.now c.args.marks.now c.args.positions.now c.args.accums.now; answer = r }) (passed_on _ _ c.from_residual.ensures.1) ∙ filled_8 (c.args.sheet.now) (lent c.args.links.now c.args.axis.now c.args.times.now c.args.marks.now c.args.positions.now c.args.accums.now) _ (c.check.ensures) _ c.in_err-header.was

pub returns : goal.returns
returns c = filled_accepted (c.args.sheet.now) (lent c.args.links.now c.args.axis.now c.args.times.now c.args.marks.now c.args.positions.now c.args.accums.now) _ (c.check.ensures) _ _ (c.in_ok-header.was) (c.fill.ensures)
