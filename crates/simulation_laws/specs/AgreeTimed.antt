-- ACTIVATE on tables that spell lists does what activate and reactivate do to the lists, with the same refusals.
use Rattle.std.specs.Prelude.{ℕ, suc, ◌+◌, max, ◌≡◌, Bool, ◌&&◌, ltb, ℤ, pos, negsuc, ◌+ℤ◌}
use Rattle.std.proofs.Math.Path.{refl}
use Rattle.std.proofs.Common.{arith}
use Rattle.std.proofs.Math.Bool.{true, false, not}
use mathlib.Core.List.{List, ◌∷◌}
use Rattle.std.proofs.Math.Dec.{eqb}
use Rattle.ring_laws.specs.Lists.{test}
use Rattle.ring_laws.specs.Tabulate.{bit}
use Rattle.axis_laws.specs.Notices.{Notice, From, InOrder}
use Rattle.simulation_laws.specs.Plain.{above}

-- ---- numbers and tests

pub delay_is : (T : ℕ) (z : ℤ) → max T (above (pos T +ℤ z)) ≡ T + above z
delay_is T (pos n) = omega arith
delay_is T (negsuc n) = test (ltb T (suc n)) (λ l. rw l (omega arith)) (λ l. rw l (omega arith))

pub bit_not : (b : Bool) → not (eqb (bit b) 0) ≡ b
bit_not true = refl
bit_not false = refl

pub not_not : (b : Bool) → not (not b) ≡ b
not_not true = refl
not_not false = refl

pub and_tail : (a b d : Bool) → (a ≡ true → b ≡ d) → (a && b) ≡ (a && d)
and_tail true b d f = f refl
and_tail false b d f = refl

pub from_first : (n : Notice) (ns : List Notice) → InOrder (n ∷ ns) → From n.due (n ∷ ns)
from_first n ns o = (omega arith, o.0)
