use Rattle.run_laws.specs.Arrays.{links_in, axis_in, one_in, links_part, axis_part, one_part, lent_startable}
use Rattle.host.specs.Host.{host_8, host_long, host_run}
use Rattle.run_laws.specs.Run.{RanOn}
use mathlib.Core.Path.{refl, sym, ap, ◌∙◌}
use Rattle.host.proofs.nodbrize_run.Goals as goal

pub returns-then-trace-gt-TRACE_LIMIT : goal.returns-then-trace-gt-TRACE_LIMIT
returns-then-trace-gt-TRACE_LIMIT c = host_long c.args.sheet.now c.args.trace.now _ c.check.ensures _ c.in-Ok.is c.if-trace-gt-TRACE_LIMIT.true _ c.refused-then-trace-gt-TRACE_LIMIT.ensures

pub slice_bounds-links-end : goal.slice_bounds-links-end
slice_bounds-links-end c = links_in c.args.sheet.now _ (sym c.check.ensures ∙ c.in-Ok.is) _ c.total-n.ensures _ refl

pub slice_bounds-start-end : goal.slice_bounds-start-end
slice_bounds-start-end c = links_part c.args.sheet.now _ (sym c.check.ensures ∙ c.in-Ok.is) _ c.total-n.ensures _ refl

pub slice_bounds-axis-end : goal.slice_bounds-axis-end
slice_bounds-axis-end c = axis_in c.args.sheet.now _ (sym c.check.ensures ∙ c.in-Ok.is) _ c.total-n.ensures _ refl

pub slice_bounds-start-end-in-Ok : goal.slice_bounds-start-end-in-Ok
slice_bounds-start-end-in-Ok c = axis_part c.args.sheet.now _ (sym c.check.ensures ∙ c.in-Ok.is) _ c.total-n.ensures _ refl

pub slice_bounds-times-end : goal.slice_bounds-times-end
slice_bounds-times-end c = one_in c.args.sheet.now _ (sym c.check.ensures ∙ c.in-Ok.is) _ c.total-n.ensures _ refl

pub slice_bounds-start-end-in-Ok-2 : goal.slice_bounds-start-end-in-Ok-2
slice_bounds-start-end-in-Ok-2 c = one_part c.args.sheet.now _ (sym c.check.ensures ∙ c.in-Ok.is) _ c.total-n.ensures _ refl

pub slice_bounds-marks-end : goal.slice_bounds-marks-end
slice_bounds-marks-end c = one_in c.args.sheet.now _ (sym c.check.ensures ∙ c.in-Ok.is) _ c.total-n.ensures _ refl

pub slice_bounds-start-end-in-Ok-3 : goal.slice_bounds-start-end-in-Ok-3
slice_bounds-start-end-in-Ok-3 c = one_part c.args.sheet.now _ (sym c.check.ensures ∙ c.in-Ok.is) _ c.total-n.ensures _ refl

pub slice_bounds-positions-end : goal.slice_bounds-positions-end
slice_bounds-positions-end c = one_in c.args.sheet.now _ (sym c.check.ensures ∙ c.in-Ok.is) _ c.total-n.ensures _ refl

pub slice_bounds-start-end-in-Ok-4 : goal.slice_bounds-start-end-in-Ok-4
slice_bounds-start-end-in-Ok-4 c = one_part c.args.sheet.now _ (sym c.check.ensures ∙ c.in-Ok.is) _ c.total-n.ensures _ refl

pub start-ran-requires : goal.start-ran-requires
start-ran-requires c = lent_startable c.args.sheet.now _ (sym c.check.ensures ∙ c.in-Ok.is) _ c.total-n.ensures _ refl _ c.if-trace-gt-TRACE_LIMIT.false

pub returns-in-Err : goal.returns-in-Err
returns-in-Err c = host_8 c.args.sheet.now c.args.trace.now _ c.check.ensures _ _ c.in-Err.is c.refused.ensures

pub returns-else-trace-gt-TRACE_LIMIT : goal.returns-else-trace-gt-TRACE_LIMIT
returns-else-trace-gt-TRACE_LIMIT c = host_run c.args.sheet.now c.args.trace.now _ c.check.ensures _ c.in-Ok.is c.if-trace-gt-TRACE_LIMIT.false _ _ _ (ap (λ (o : RanOn). record { trace = o.trace; result = o.result }) c.start-ran.ensures) c.number.ensures
