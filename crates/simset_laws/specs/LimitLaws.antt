-- Request 2.5 in so many words: refusal 10 means that some set would have just 513 members; and who never meets it.
use Rattle.std.specs.Prelude.{ℕ, suc, ◌<◌, ◌≡◌, true, List, [], ◌∷◌, ltb, length, get_or}
use Rattle.std.proofs.Common.{ltb-true}
use Rattle.ring_laws.specs.Lists.{test, clash}
use Rattle.model.specs.Counts.{most_members}
use Rattle.simset_laws.specs.Sets.{exceeds}

-- ---- "after which some set would have 513 members"

pub exceeding : (sets : List (List ℕ)) → exceeds sets ≡ true → (i : ℕ) × (most_members < length (get_or sets i []))
exceeding [] e = clash e
exceeding (l ∷ ls) e =
    test (ltb most_members (length l))
    (λ q. (0, ltb-true most_members (length l) q))
    (λ q. let r = exceeding ls (rw q at e) in (suc r.0, r.1))
