-- The test of an update, told by its joined tests: what && gives step by step is what the definition says.
use Rattle.std.specs.Prelude.{ℕ, ◌*◌, ◌≡◌, refl, Bool, true, false, ◌&&◌, leb, ℤ, pos, nat_abs, ◌+ℤ◌}
use Rattle.std.proofs.Common.{sym, ◌∙◌, ap, arith, SFits, w64, to_z, of_z, leb-true}
use borrow.Author.Tests.{lt-leb, leb-false}
use Rattle.std.specs.Int.Signed.{le_z}
use Rattle.model.specs.Counts.{both}
use Rattle.accum_laws.specs.declared.Accumulator.{Accumulator}
use Rattle.accum_laws.specs.Signed.{abs_back, abs_add, fits_abs, kept}
use Rattle.accum_laws.specs.Update.{may_update}

pub and_true : (p v t : Bool) → p ≡ true → v ≡ t → v ≡ p && t
and_true p v t e f = rw e f

pub and_false : (p v t : Bool) → p ≡ false → v ≡ p → v ≡ p && t
and_false p v t e f = rw e (f ∙ e)

-- the sign of a stored word
pub kept_sign : {z : ℤ} {v : Bool} → SFits w64 z → le_z (pos 0) (to_z w64 (of_z w64 z)) ≡ v → le_z (pos 0) z ≡ v
kept_sign f e = sym (ap (le_z (pos 0)) (kept f)) ∙ e

spread : (b p a r n d : Bool) → (r ≡ true → d ≡ false → n ≡ false) → (((b && p) && a) && r) && d ≡ false
    → b && (p && (a && (r && n))) ≡ false
spread false p a r n d i e = refl
spread true false a r n d i e = refl
spread true true false r n d i e = refl
spread true true true false n d i e = refl
spread true true true true n true i e = cc
spread true true true true n false i e = i refl refl

module _ (x : Accumulator) (t : ℕ) (d : ℤ) where
  abbrev pub Tests : Bool
  Tests =
      (((le_z (pos 0) x.b && leb (nat_abs x.b) t) && leb (nat_abs x.a) (1000000 * nat_abs x.b)) && leb (nat_abs x.c) 1000000)
      && leb (nat_abs d) 2000000

  pub may_last_of : Tests ≡ true → leb (nat_abs (x.c +ℤ d)) 1000000 ≡ may_update x t d
  unfolding may_update
  may_last_of e =
      let p = both (((le_z (pos 0) x.b && leb (nat_abs x.b) t) && leb (nat_abs x.a) (1000000 * nat_abs x.b)) && leb (nat_abs x.c) 1000000) _ e in
      let q = both ((le_z (pos 0) x.b && leb (nat_abs x.b) t) && leb (nat_abs x.a) (1000000 * nat_abs x.b)) _ p.0 in
      let r = both (le_z (pos 0) x.b && leb (nat_abs x.b) t) _ q.0 in
      let s = both (le_z (pos 0) x.b) _ r.0 in
      rw (s.0, s.1, r.1, q.1)

  pub next_fits : Tests ≡ true → SFits w64 (x.c +ℤ d)
  next_fits e =
      let p = both (((le_z (pos 0) x.b && leb (nat_abs x.b) t) && leb (nat_abs x.a) (1000000 * nat_abs x.b)) && leb (nat_abs x.c) 1000000) _ e in
      let q = both ((le_z (pos 0) x.b && leb (nat_abs x.b) t) && leb (nat_abs x.a) (1000000 * nat_abs x.b)) _ p.0 in
      fits_abs (x.c +ℤ d) (omega (arith, abs_add x.c d, leb-true (nat_abs x.c) _ q.1, leb-true (nat_abs d) _ p.1))

  pub may_not_of : {v : Bool} → v ≡ Tests → v ≡ false → v ≡ may_update x t d
  unfolding may_update
  may_not_of e f = f ∙ sym (spread (le_z (pos 0) x.b) (leb (nat_abs x.b) t) (leb (nat_abs x.a) (1000000 * nat_abs x.b)) _ _ _ far (sym e ∙ f))
    where
      -- |d| above 2,000,000 makes |c + d| pass 1,000,000
      far : leb (nat_abs x.c) 1000000 ≡ true → leb (nat_abs d) 2000000 ≡ false → leb (nat_abs (x.c +ℤ d)) 1000000 ≡ false
      far r e = lt-leb _ _ (omega (arith, abs_back x.c d, leb-true _ _ r, leb-false _ _ e))
