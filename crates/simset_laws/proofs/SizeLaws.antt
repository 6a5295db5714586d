-- Request 2.5 on lists: how many members a list has after x was put beside y, and what it means that some set has too many.
use Rattle.std.specs.Prelude.{ℕ, ◌-◌, ◌≡◌, false, List}
use Rattle.model_laws.specs.Tables.{Limited}
use Rattle.simset_laws.specs.Sets.{exceeds}
-- ---- one list: f puts a number beside y, where y is its head g or a member
use Rattle.simset_laws.specs.SizeLaws.{at_most}

pub not_exceeding : (sets : List (List ℕ)) → exceeds sets ≡ false → Limited sets
not_exceeding sets e h = at_most sets e (h - 1)
