-- ACTIVATE, as published, leaves what the plain machine's activate and reactivate leave, with the same refusals.
use Prim.Native.Nat.{ℕ, max, ◌≤◌}
use Rattle.std.specs.Prelude.{◌≡◌, refl, List, [], ◌∷◌, ℤ, negsuc}
use native.Mathlib.Omega.{arith}
use Rattle.std.proofs.Math.Dec.{eqb}
use Rattle.std.proofs.Math.IntN.{pos}
use borrow.Author.Tests.{le-leb, lt-ltb, le-ltb}
use Rattle.ring_laws.specs.Lists.{below, test}
use Rattle.model.specs.Counts.{limit}
use Rattle.axis_laws.specs.Notices.{Notice, due_of, Within}
use Rattle.model_laws.specs.Tables.{Lists}
use Rattle.model_laws.specs.Result.{Result}
use Rattle.simulation_laws.specs.Plain.{up_to, leaving, above}
use Rattle.simulation_laws.specs.Published.{unless_empty, at_least}

pub error_is : (l : Lists) (ns : List Notice) → unless_empty l ns ≡ leaving l ns
error_is l [] = refl
error_is l (n ∷ ns) = refl

pub at_least_max : (T : ℤ) (now : ℕ) → at_least now T ≡ max now (above T)
at_least_max (pos n) now = below n now (λ l. rw (lt-ltb n now l) (omega arith)) (λ l. rw (le-ltb n now l) (omega arith))
at_least_max (negsuc n) now = omega arith

pub within_due : (y : ℕ) (ns : List Notice) → Within ns → due_of y ns ≤ limit
within_due y [] w = omega arith
within_due y (k ∷ ks) w = test (eqb k.who y) (λ e. rw e w.0) (λ e. rw e (within_due y ks w.1))

pub within_limit : (u : ℕ) (r : Result Lists) → u ≤ limit → up_to u r ≡ r
within_limit u r b = rw (le-leb u limit b)
