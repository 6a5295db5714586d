-- Which call of a request is a run that may be made by one turn.
use Rattle.std.specs.Prelude.{Bool, true, false, Option, Some, None}
use Rattle.calls.specs.declared.call.Call.{Call}
use Rattle.calls.specs.declared.call.Call.TheVariants.{Judge, Set, Sequencing, Query, Accum, Fresh, Run, Check, FreshRun, Turn}

abbrev pub is_turn : Option Call → Bool
is_turn (Some Turn) = true
is_turn (Some Judge) = false
is_turn (Some (Set k)) = false
is_turn (Some (Sequencing k)) = false
is_turn (Some (Query q)) = false
is_turn (Some (Accum k)) = false
is_turn (Some Fresh) = false
is_turn (Some Run) = false
is_turn (Some Check) = false
is_turn (Some FreshRun) = false
is_turn None = false
