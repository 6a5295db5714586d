-- Request 2.5 on tables: how many members each set has after x was put beside y, and that the test before it says whether some set would
-- have too many. Follow and precede put x by an f of their own.
use Rattle.std.specs.Prelude.{ℕ, zero, suc, ◌+◌, ◌<◌, ◌≤◌}
use Rattle.std.proofs.Common.{inl, inr, arith}
use Rattle.ring_laws.specs.Lists.{In, decide}
use Rattle.ring_laws.specs.Tabulate.{listed}

pub in_listed : (lo n z : ℕ) → lo ≤ z → z < lo + n → In z (listed (λ i. i) lo n)
in_listed lo zero z a b = absurd (none a b)
  where
    none : lo ≤ z → z < lo + 0 → ⊥
    none u v = omega arith
in_listed lo (suc n) z a b = decide z lo (λ e. inl e) (λ k. inr (in_listed (suc lo) n z (omega arith) (omega arith)))
