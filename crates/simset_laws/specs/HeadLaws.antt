-- The walk from a link to its head finds the head in whose list the link stands; what that head is, and how many clear removes.
use Rattle.std.specs.Prelude.{ℕ, zero, suc, ◌+◌, ◌-◌, ◌≡◌, refl, List, [], ◌∷◌, length, get_or, set}
use Rattle.std.proofs.Common.{arith, length-append}
use Rattle.ring_laws.specs.Distinct.{joined}
use Rattle.model_laws.specs.Tables.{members_of}
use Rattle.simset_laws.specs.Sets.{clear_sets}

-- ---- along the ring of h

-- ---- "clear answers how many it removed": so many links fewer stand in the sets, all taken together

fewer : (sets : List (List ℕ)) (i : ℕ) → length (joined (set sets i [])) + length (get_or sets i []) ≡ length (joined sets)
fewer [] i = refl
fewer (l ∷ ls) zero = omega (arith, length-append l (joined ls))
fewer (l ∷ ls) (suc i) = omega (arith, length-append l (joined ls), length-append l (joined (set ls i [])), fewer ls i)

pub clear_removes : (h : ℕ) (sets : List (List ℕ))
    → length (joined (clear_sets h sets)) + length (members_of sets h) ≡ length (joined sets)
clear_removes h sets = fewer sets (h - 1)
