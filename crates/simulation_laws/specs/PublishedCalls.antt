-- Demand 2 for the class SIMULATION: for every well-formed model each public sequencing call leaves the notices, sets, terminated processes
-- and answer that the published procedure leaves, or refuses as stated: 4 for ERROR, 5 for a time above the limit, 3 for an operand of the
-- wrong kind, which `need` puts first. The published procedures are those of Published.antt; set calls have theirs, statement by
-- statement, in simset_laws/specs/Procedures.antt, and Meaning.antt beside it.
use Rattle.std.specs.Prelude.{ℕ, ◌+◌, ◌≡◌, ℤ, pos, negsuc}
use Rattle.std.proofs.Common.{arith, lt-ltb, le-ltb}
use Rattle.ring_laws.specs.Lists.{below}
use Rattle.simulation_laws.specs.Plain.{above}
use Rattle.simulation_laws.specs.Published.{added_to}

-- ---- the plain machine's calls are the published procedures

pub added_is : (now : ℕ) (T : ℤ) → added_to now T ≡ now + above T
added_is now (pos n) = below 0 n (λ l. rw (lt-ltb 0 n l)) (λ l. rw (le-ltb 0 n l) (omega arith))
added_is now (negsuc n) = omega arith
