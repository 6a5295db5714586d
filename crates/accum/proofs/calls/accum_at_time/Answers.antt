use lib.IntN.{ℤ}
use mathlib.Core.Path.{◌∙◌, ap}
use Rattle.accum_laws.specs.Signed.{kept}
use Rattle.accum_laws.specs.Update.{updated_of}
use Rattle.accum_laws.specs.Promise.{one_to, one_not}
use Rattle.accum.proofs.calls.accum_at_time.Goals as goal

pub returns-in-Ok : goal.returns-in-Ok
returns-in-Ok c =
    one_to _ _ _ _ (c.updated.ensures ∙ ap (λ (z : ℤ). updated_of c.args.x c.args.time z) (kept c.ranges.d)) _ c.in-Ok.is

pub returns-in-Err : goal.returns-in-Err
returns-in-Err c =
    one_not _ _ _ _ (c.updated.ensures ∙ ap (λ (z : ℤ). updated_of c.args.x c.args.time z) (kept c.ranges.d)) _ c.in-Err.is
