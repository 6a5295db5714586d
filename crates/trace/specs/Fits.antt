-- Where a line may begin: document 01, "fewer than 16 trace bytes left, full".
use Rattle.std.specs.Prelude.{ℕ, ◌+◌, ◌-◌, ◌≤◌, ◌<◌, ◌≡◌, refl}
use Rattle.std.proofs.Common.{arith}

-- one behind the last byte that a line may begin at in so many bytes, or 0
abbrev pub past_last : ℕ → ℕ
past_last len = len + 1 - 16

worked : (past_last 15 ≡ 0) × ((past_last 16 ≡ 1) × ((past_last 48 ≡ 33) × (past_last 65536 ≡ 65521)))
worked = (refl, (refl, (refl, refl)))

-- a line fits at i exactly where i is below it
pub fits : (len i : ℕ) → (i < past_last len → i + 16 ≤ len) × (i + 16 ≤ len → i < past_last len)
fits len i = (λ h. omega (arith, h), λ h. omega (arith, h))
