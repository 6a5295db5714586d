use Rattle.run_laws.specs.RunIs as is
use mathlib.Core.Path.{sym, ◌∙◌}
use Rattle.run_laws.specs.Run.{lent}
use Rattle.run.proofs.run.Goals as goal

pub run_accepted-requires : goal.run_accepted-requires
run_accepted-requires c = sym (c.check.ensures) ∙ c.in-Ok.is

pub returns-in-Err : goal.returns-in-Err
returns-in-Err c = is.run_8 (c.args.sheet.now) (lent c.args.links.now c.args.axis.now c.args.times.now c.args.marks.now c.args.positions.now c.args.accums.now) (c.args.trace.now) _ (c.check.ensures) _ _ (c.in-Err.is) (c.refused.ensures)

pub returns-in-Ok : goal.returns-in-Ok
returns-in-Ok c = is.run_accepted (c.args.sheet.now) (lent c.args.links.now c.args.axis.now c.args.times.now c.args.marks.now c.args.positions.now c.args.accums.now) (c.args.trace.now) _ (c.check.ensures) _ _ (c.in-Ok.is) (c.run_accepted.ensures)
