use Rattle.model.specs.Passed.{passed_on}
use Rattle.model.specs.Answers.{Answered}
use Rattle.std.proofs.Common.{rules, ◌∙◌, ◌<◌, ℤ, ap, length, get_or}
use Rattle.accum_laws.specs.Signed.{kept}
use Rattle.accum_laws.specs.Calls.{accum_one}
use Rattle.accum_laws.specs.Keeps.{zero_accumulator}
use Rattle.accum_laws.proofs.Picks.{pick_found, pick_not}
use Rattle.accum.proofs.lent.accum_at.Goals as goal

pub returns-in_err-p : goal.returns-in_err-p
returns-in_err-p c =
    ap (λ (r : Answered). record { list = c.args.xs.now; answer = r }) (passed_on _ _ c.from_residual.ensures.1)
    ∙ pick_not _ _ c.args.xs.now _ _ c.pick.ensures c.args.d _ c.in_err-p.was

pub slice_copy_out-accum_at_time : goal.slice_copy_out-accum_at_time
slice_copy_out-accum_at_time c = (pick_found _ _ c.args.xs.now _ _ c.pick.ensures _ c.in_ok-p.was).inside

pub accum_at_time-r-requires : goal.accum_at_time-r-requires
accum_at_time-r-requires c = (pick_found _ _ c.args.xs.now _ _ c.pick.ensures _ c.in_ok-p.was).time_within

pub bounds-xs-p : goal.bounds-xs-p
bounds-xs-p c = (pick_found _ _ c.args.xs.now _ _ c.pick.ensures _ c.in_ok-p.was).inside

pub offset_bounds-xs-p : goal.offset_bounds-xs-p
offset_bounds-xs-p c =
    let inside : c.in_ok-p.p.at < length c.args.xs.now =
    (pick_found _ _ c.args.xs.now _ _ c.pick.ensures _ c.in_ok-p.was).inside
    in
    search (rules, inside)

pub offset_bounds-xs-p-2 : goal.offset_bounds-xs-p-2
offset_bounds-xs-p-2 c =
    let inside : c.in_ok-p.p.at < length c.args.xs.now =
    (pick_found _ _ c.args.xs.now _ _ c.pick.ensures _ c.in_ok-p.was).inside
    in
    search (rules, inside)

pub returns : goal.returns
returns c =
    (pick_found _ _ c.args.xs.now _ _ c.pick.ensures _ c.in_ok-p.was).after c.args.d c.accum_at_time-r.result
    (c.accum_at_time-r.ensures
    ∙ ap (λ (z : ℤ). accum_one (get_or c.args.xs.now c.in_ok-p.p.at zero_accumulator) c.in_ok-p.p.time z) (kept c.ranges.d))
