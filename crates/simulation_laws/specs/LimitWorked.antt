-- Wait at the limit, worked out: heads 1 and 2, main 3, and links from 4 on. "ahead of 4": a full set is told before a last notice.
use Rattle.std.specs.Prelude.{ℕ, ◌≡◌, refl, List, [], ◌∷◌}
use Rattle.model.specs.declared.Counts.{Counts}
use Rattle.model.specs.declared.Refusal.TheVariants.{Operand, NoNotice, Full}
use Rattle.axis_laws.specs.Notices.{Notice}
use Rattle.model_laws.specs.Tables.{Lists}
use Rattle.model_laws.specs.Result.{refused}
use Rattle.simset_laws.specs.LimitWorked.{links}
use Rattle.simulation_laws.specs.Plain.{wait}

abbrev c : Counts
c = record { heads = 2; processes = 2; plains = 600 }

-- 512 links from a on in set 1
abbrev crowded : ℕ → List Notice → Lists
crowded a ns = record { sets = links a 512 ∷ [] ∷ []; notices = ns; terminated = [] }

-- main's notice is the only one
abbrev alone : List Notice
alone = record { who = 3; due = 0 } ∷ []

-- with a second notice, and with one alone: 10
pub full_each : (wait c 1 (crowded 5 (record { who = 3; due = 0 } ∷ record { who = 4; due = 5 } ∷ [])) ≡ refused Full)
    × (wait c 1 (crowded 5 alone) ≡ refused Full)
unfolding wait
full_each = (refl, refl)

-- main stands in the full set, or waits for the other: 4; a link is no head: 3
pub other_each : (wait c 1 (crowded 3 alone) ≡ refused NoNotice) × (wait c 2 (crowded 5 alone) ≡ refused NoNotice)
    × (wait c 5 (crowded 5 alone) ≡ refused Operand)
unfolding wait
other_each = (refl, refl, refl)
