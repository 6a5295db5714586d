use Rattle.std.proofs.Common.{◌≡◌, ◌+ℤ◌, ◌-ℤ◌, ◌*ℤ◌, ◌∙◌, sym, subst, arith, pos, ℤ, SFits, w64, to_z, of_z}
use Rattle.accum_laws.specs.Signed.{kept, ap2}
use Rattle.accum_laws.specs.Keeps.{since_fits, product_fits, sum_fits}
use mir.ValLaws.{to_z_pos}
use Rattle.accum_update.proofs.update.gathered.Goals as goal

-- a number that is known, and fits, is stored and read back as it is
stored : {z u : ℤ} → z ≡ u → SFits w64 u → to_z w64 (of_z w64 z) ≡ u
stored e f = kept (subst (SFits w64) (sym e) f) ∙ e

sum_is : (c : goal.Start) → to_z w64 (of_z w64 c.args.a)
    +ℤ to_z w64 (of_z w64 (to_z w64 (of_z w64 c.args.c) *ℤ to_z w64 (of_z w64 (to_z w64 c.args.time -ℤ to_z w64 (of_z w64 c.args.b)))))
    ≡ c.args.a +ℤ c.args.c *ℤ (pos c.args.time -ℤ c.args.b)
sum_is c =
    let since = stored (ap2 ◌-ℤ◌ (to_z_pos w64 c.args.time (omega arith)) (kept c.ranges.b)) (since_fits _ _ c.requires.required c.requires.time_in) in
    ap2 ◌+ℤ◌ (kept c.ranges.a) (stored (ap2 ◌*ℤ◌ (kept c.ranges.c) since) (product_fits _ _ c.requires.required c.requires.time_in))

pub overflow_add-result : goal.overflow_add-result
overflow_add-result c = subst (SFits w64) (sym (sum_is c)) (sum_fits _ _ c.requires.required c.requires.time_in)

pub returns : goal.returns
returns c = stored (sum_is c) (sum_fits _ _ c.requires.required c.requires.time_in)
