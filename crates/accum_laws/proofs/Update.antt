-- Accum on one accumulator, over whole numbers: "a grows by c × (time − b), b becomes time, c grows by d".
use Rattle.std.specs.Prelude.{ℕ, ◌*◌, ◌≤◌, ◌<◌, ◌≡◌, true, false, leb, ℤ, pos, nat_abs, ◌+ℤ◌}
use Rattle.std.proofs.Common.{sym, ◌∙◌, arith}
use borrow.Author.Tests.{le-leb, lt-leb}
use Rattle.std.specs.Int.Signed.{lt_z}
use Rattle.accum_laws.specs.declared.Accumulator.{Accumulator}
use Rattle.accum_laws.specs.Signed.{abs_back}
use Rattle.accum_laws.specs.Update.{may_update, not_started, started}

module _ (x : Accumulator) (t : ℕ) (d : ℤ) where
  pub may_since : lt_z x.b (pos 0) ≡ true → false ≡ may_update x t d
  unfolding may_update
  may_since h = rw (not_started x.b h)

  module _ (h1 : lt_z x.b (pos 0) ≡ false) where
    pub may_past : t < nat_abs x.b → false ≡ may_update x t d
    unfolding may_update
    may_past h = rw (started x.b h1, lt-leb _ _ h)

    module _ (h2 : nat_abs x.b ≤ t) where
      pub may_sum : 1000000 * nat_abs x.b < nat_abs x.a → false ≡ may_update x t d
      unfolding may_update
      may_sum h = rw (started x.b h1, le-leb _ _ h2, lt-leb _ _ h)

      module _ (h3 : nat_abs x.a ≤ 1000000 * nat_abs x.b) where
        pub may_rate : 1000000 < nat_abs x.c → false ≡ may_update x t d
        unfolding may_update
        may_rate h = rw (started x.b h1, le-leb _ _ h2, le-leb _ _ h3, lt-leb _ _ h)

        module _ (h4 : nat_abs x.c ≤ 1000000) where
          pub may_last : leb (nat_abs (x.c +ℤ d)) 1000000 ≡ may_update x t d
          unfolding may_update
          may_last = rw (started x.b h1, le-leb _ _ h2, le-leb _ _ h3, le-leb _ _ h4)

          -- |d| above 2,000,000 makes |c + d| pass 1,000,000
          pub may_far : 2000000 < nat_abs d → false ≡ may_update x t d
          may_far h = sym (lt-leb (nat_abs (x.c +ℤ d)) 1000000 (omega (arith, abs_back x.c d, h4))) ∙ may_last
