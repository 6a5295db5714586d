use lib.IntN.{ℤ}
use mathlib.Core.Path.{◌∙◌, ap, refl}
use Rattle.accum_laws.specs.Signed.{kept}
use Rattle.accum_laws.specs.Update.{updated_of}
use Rattle.accum_laws.proofs.Flat.{in_to, in_not}
use Rattle.model.specs.Passed.{passed_on}
use Rattle.model.specs.Answers.{Answered}
use Rattle.accum_update.proofs.flat.update_in.Goals as goal

pub returns : goal.returns
returns c =
    in_to _ _ _ _ _ refl _ c.taken.ensures _
    (c.updated.ensures ∙ ap (λ (z : ℤ). updated_of c.taken.result c.args.time z) (kept c.ranges.d))
    _ _ c.in_ok-v.was c.put.ensures

pub returns-in_err-v : goal.returns-in_err-v
returns-in_err-v c =
    ap (λ (r : Answered). record { words = c.args.accums.now; answer = r }) (passed_on _ _ c.from_residual.ensures.1)
    ∙ in_not _ _ _ _ _ refl _ c.taken.ensures _
    (c.updated.ensures ∙ ap (λ (z : ℤ). updated_of c.taken.result c.args.time z) (kept c.ranges.d))
    _ c.in_err-v.was
