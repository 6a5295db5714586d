use lib.IntN.{ℤ}
use mathlib.Core.Path.{sym, ◌∙◌, ap}
use Rattle.model_laws.proofs.Ready.{judged_ready}
use Rattle.accum_laws.specs.Signed.{kept}
use Rattle.accum_laws.specs.Calls.{accum_one}
use Rattle.accum_laws.specs.Promise.{alone_turned, alone_fine, time_in}
use Rattle.accum.proofs.calls.accum_alone.Goals as goal

pub time_of-t-requires : goal.time_of-t-requires
time_of-t-requires c = judged_ready _ _ (sym c.judge_tables.ensures ∙ c.in-Ok.is)

pub accum_at_time-requires : goal.accum_at_time-requires
accum_at_time-requires c = time_in _ _ _ (sym c.judge_tables.ensures ∙ c.in-Ok.is) c.time_of-t.ensures

pub returns-in-Err : goal.returns-in-Err
returns-in-Err c = alone_turned _ _ _ _ _ c.judge_tables.ensures _ c.in-Err.is

pub returns-in-Ok : goal.returns-in-Ok
returns-in-Ok c =
    alone_fine _ _ _ _ _ c.judge_tables.ensures _ _ c.in-Ok.is c.time_of-t.ensures
    (c.accum_at_time.ensures ∙ ap (λ (z : ℤ). accum_one c.args.x c.time_of-t.result z) (kept c.ranges.d))
