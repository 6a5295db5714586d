use mathlib.Core.Path.{sym, ap, ◌∙◌}
use Rattle.sheet.specs.declared.records.Record.{Record}
use Rattle.run_laws.proofs.Arms.{arm_0}
use Rattle.run_laws.specs.Reads.{got_end}
use Rattle.run_laws.specs.Run.{record_got}
use Rattle.run_laws.specs.Tried.{apart}
use Rattle.run_laws.specs.Performing.{record_is, performed_at}
use Rattle.run_step.proofs.apart.perform_apart.Goals as goal

pub returns-then-r-eq0-clause-leaves : goal.returns-then-r-eq0-clause-leaves
returns-then-r-eq0-clause-leaves c = λ w. arm_0 c.args.c (record_got c.args.c.processes c.args.sheet.now c.args.r) c.args.f c.args.links.now c.args.axis.now c.args.times.now c.args.marks.now w _ _ _ _ c.unless_refused.ensures _ (ap (λ (q : Record). q.operation) (sym (got_end _ _ _ c.if-r-eq0.true))) c.finish.ensures

pub apart_at-requires-clause-i_value : goal.apart_at-requires-clause-i_value
apart_at-requires-clause-i_value c = ap apart (record_is c.args.c _ _ _ c.if-r-eq0.false c.record_offset-at.ensures) ∙ c.requires.r_value

pub returns-clause-leaves : goal.returns-clause-leaves
returns-clause-leaves c = λ w. performed_at _ _ _ _ c.if-r-eq0.false c.record_offset-at.ensures _ _ w _ (c.apart_at.ensures.leaves w)
