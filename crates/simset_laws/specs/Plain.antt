-- The set calls on plain lists: refused by 3 or 10, or done to the sets. A refusal changes nothing.
use Rattle.std.specs.Prelude.{ℕ, Bool, true, false, ◌&&◌, List}
use Rattle.model.specs.declared.Counts.{Counts}
use Rattle.model.specs.declared.Refusal.TheVariants.{Full}
use Rattle.model.specs.Counts.{is_head, is_link, is_linkage}
use Rattle.model.specs.declared.call.SetCall.{SetCall}
use Rattle.model.specs.declared.call.SetCall.TheVariants.{Out, Follow, Precede, Into, Clear}
use Rattle.model_laws.specs.Tables.{Lists}
use Rattle.model_laws.specs.Result.{Result, refused, done, need}
use Rattle.simset_laws.specs.Sets.{out_sets, follow_sets, precede_sets, clear_sets, exceeds}
use Rattle.simset_laws.specs.Calls.{Linked, or_none, out_step, follow_step, precede_step, into_step, clear_step}

-- refusal 3 for "none where out, follow, precede, into or clear is called on it" and for a wrong kind; "None as the second party
-- means out alone"
abbrev pub kinds_fine : Counts → SetCall → Bool
kinds_fine c (Out x) = is_link c x
kinds_fine c (Follow x y) = is_link c x && or_none (is_linkage c y) y
kinds_fine c (Precede x y) = is_link c x && or_none (is_linkage c y) y
kinds_fine c (Into x y) = is_link c x && or_none (is_head c y) y
kinds_fine c (Clear x) = is_head c x

-- "Into is precede"
abbrev pub sets_after : SetCall → List (List ℕ) → List (List ℕ)
sets_after (Out x) sets = out_sets x sets
sets_after (Follow x y) sets = follow_sets x y sets
sets_after (Precede x y) sets = precede_sets x y sets
sets_after (Into x y) sets = precede_sets x y sets
sets_after (Clear x) sets = clear_sets x sets

abbrev pub with_sets : Lists → List (List ℕ) → Lists
with_sets l k = record { sets = k; notices = l.notices; terminated = l.terminated }

-- "a follow, precede, into or wait after which some set would have 513 members"
abbrev pub crowds : SetCall → List (List ℕ) → Bool
crowds (Out x) sets = false
crowds (Follow x y) sets = exceeds (follow_sets x y sets)
crowds (Precede x y) sets = exceeds (precede_sets x y sets)
crowds (Into x y) sets = exceeds (precede_sets x y sets)
crowds (Clear x) sets = false

-- "It refuses with 10, together with the last group in document 01's order but ahead of 4"
abbrev pub unless_full : Bool → Result Lists → Result Lists
unless_full true r = refused Full
unless_full false r = r

abbrev pub set_call : Counts → SetCall → Lists → Result Lists
set_call c k l = need (kinds_fine c k) (unless_full (crowds k l.sets) (done (with_sets l (sets_after k l.sets))))

-- the same call on a table of links
abbrev pub links_after : Counts → SetCall → List ℕ → Linked
links_after c (Out x) t = out_step c x t
links_after c (Follow x y) t = follow_step c x y t
links_after c (Precede x y) t = precede_step c x y t
links_after c (Into x y) t = into_step c x y t
links_after c (Clear x) t = clear_step c x t
