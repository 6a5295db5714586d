use Rattle.std.proofs.Common.{◌∙◌, ℤ, ap}
use Rattle.accum_laws.specs.Signed.{kept}
use Rattle.accum_laws.specs.Calls.{accum_alone}
use Rattle.model_laws.specs.Tables.{model_of}
use Rattle.accum.proofs.lent.accum_one.Goals as goal

pub returns : goal.returns
returns c =
    c.accum_alone-r.ensures
    ∙ ap (λ (z : ℤ). accum_alone c.args.c (model_of c.args.links.now c.args.axis.now c.args.times.now c.args.marks.now) c.args.x.now z)
    (kept c.ranges.d)
