-- The signed reading of a word whose top bit is set: -1 less the complement.
use Rattle.std.specs.Prelude.{ℕ, zero, suc, ◌+◌, ◌-◌, ◌^◌, ◌≤◌, ◌<◌, ◌≡◌, refl, ℤ, pos, negsuc, ◌-ℤ◌}
use Rattle.std.proofs.Common.{sym, ◌∙◌, ap, arith, to_z, SFits}
use Rattle.std.specs.Int.{w64}
use mir.ValLaws.{to_z_pos, to_z-neg}

less : (m : ℕ) → negsuc 0 -ℤ pos m ≡ negsuc m
less zero = refl
less (suc k) = ap negsuc (one_more_lem k)
  where
    one_more_lem : (k : ℕ) → suc (0 + k) ≡ suc k
    one_more_lem k = omega arith

module _ (n : ℕ) (high : 9223372036854775808 ≤ n) (fits : n < 2 ^ 64) where
  abbrev complement : ℕ
  complement = 18446744073709551615 - n

  minus : negsuc 0 -ℤ to_z w64 complement ≡ negsuc complement
  minus = ap (λ (z : ℤ). negsuc 0 -ℤ z) (to_z_pos w64 complement (omega arith)) ∙ less complement

  pub high_word : negsuc 0 -ℤ to_z w64 complement ≡ to_z w64 n
  high_word = minus ∙ sym (ap (to_z w64) back ∙ to_z-neg w64 complement (omega arith))
    where
      back : n ≡ 2 ^ 64 - suc complement
      back = omega arith

  pub high_fits : SFits w64 (negsuc 0 -ℤ to_z w64 complement)
  high_fits = rw minus (record { sfits = small })
    where
      small : complement < 2 ^ 63
      small = omega arith
