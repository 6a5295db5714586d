use mathlib.Core.Path.{sym, ap}
use Rattle.sheet.specs.declared.records.Record.{Record}
use Rattle.run_laws.specs.Reads.{got_end}
use Rattle.run_laws.specs.Run.{record_got}
use Rattle.run_laws.proofs.Tried.{left_0, tried_not}
use Rattle.run_laws.specs.Performing.{tried_at}
use Rattle.run_step.proofs.perform.perform.Goals as goal

pub returns-then-r-eq0-clause-result_after : goal.returns-then-r-eq0-clause-result_after
returns-then-r-eq0-clause-result_after c = tried_not _ _ _ _ _ _ (left_0 _ (record_got c.args.c.processes c.args.sheet.now c.args.r) _ _ _ (ap (λ (q : Record). q.operation) (sym (got_end _ _ _ c.if-r-eq0.true))))

pub returns-clause-result_after : goal.returns-clause-result_after
returns-clause-result_after c = tried_at _ _ _ _ c.if-r-eq0.false c.record_offset-at.ensures _ _ _ _ c.args.bounds.now c.perform_at.ensures.result_after
