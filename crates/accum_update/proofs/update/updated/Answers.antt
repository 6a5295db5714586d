use Rattle.std.proofs.Common.{arith, rules, ◌≡◌, ◌+ℤ◌, ◌-ℤ◌, ◌*ℤ◌, ◌∙◌, ap, refl, sym, ℤ, pos, SFits, w64, true, false}
use Rattle.accum_laws.specs.Signed.{word, kept, asks2, ap2}
use Rattle.accum_laws.specs.Update.{may_update, updated_not}
use Rattle.accum_laws.proofs.Keeps.{stored_growable, rate_fits, stored_to}
use mir.ValLaws.{to_z_pos}
use Rattle.accum_update.proofs.update.updated.Goals as goal

pub gathered-a-requires : goal.gathered-a-requires
gathered-a-requires c =
    let a : SFits w64 c.args.x.a = search rules in
    let b : SFits w64 c.args.x.b = search rules in
    let r : SFits w64 c.args.x.c = search rules in
    let may : may_update c.args.x c.args.time c.args.d ≡ true =
    sym (c.may_update.ensures ∙ ap (λ (z : ℤ). may_update c.args.x c.args.time z) (kept c.ranges.d)) ∙ c.if-may_update.true
    in
    stored_growable _ _ _ may c.requires a b r

pub overflow_add-c : goal.overflow_add-c
overflow_add-c c =
    let r : SFits w64 c.args.x.c = search rules in
    let may : may_update c.args.x c.args.time c.args.d ≡ true =
    sym (c.may_update.ensures ∙ ap (λ (z : ℤ). may_update c.args.x c.args.time z) (kept c.ranges.d)) ∙ c.if-may_update.true
    in
    asks2 ◌+ℤ◌ r refl c.ranges.d refl (rate_fits _ _ _ may)

pub returns-then-may_update : goal.returns-then-may_update
returns-then-may_update c =
    let a : SFits w64 c.args.x.a = search rules in
    let b : SFits w64 c.args.x.b = search rules in
    let r : SFits w64 c.args.x.c = search rules in
    let may : may_update c.args.x c.args.time c.args.d ≡ true =
    sym (c.may_update.ensures ∙ ap (λ (z : ℤ). may_update c.args.x c.args.time z) (kept c.ranges.d)) ∙ c.if-may_update.true
    in
    stored_to _ _ _ may _ _ _
    (kept (word c.gathered-a.type_inv) ∙ c.gathered-a.ensures
    ∙ ap2 ◌+ℤ◌ (kept a) (ap2 ◌*ℤ◌ (kept r) (ap (λ (z : ℤ). pos c.args.time -ℤ z) (kept b))))
    (to_z_pos w64 c.args.time (omega arith))
    (kept (asks2 ◌+ℤ◌ r refl c.ranges.d refl (rate_fits _ _ _ may)) ∙ ap2 ◌+ℤ◌ (kept r) (kept c.ranges.d))

pub returns-else-may_update : goal.returns-else-may_update
returns-else-may_update c =
    let may : may_update c.args.x c.args.time c.args.d ≡ false =
    sym (c.may_update.ensures ∙ ap (λ (z : ℤ). may_update c.args.x c.args.time z) (kept c.ranges.d)) ∙ c.if-may_update.false
    in
    sym (updated_not _ _ _ may)
