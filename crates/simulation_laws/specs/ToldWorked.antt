-- Request 2.1 worked out for wait, on tables and on lists: what it answers from a set, within it, from none, on none, and refused.
use Rattle.std.specs.Prelude.{ℕ, ◌≡◌, refl, Bool, true, ◌&&◌, pos, Ok, Err}
use Rattle.ring_laws.specs.Table.{unlinked, linked_behind, linked_before, self_linked}
use Rattle.model.specs.declared.Counts.{Counts}
use Rattle.model.specs.declared.Refusal.TheVariants.{NoNotice}
use Rattle.model.specs.Answers.{Answered}
use Rattle.model.specs.declared.answer.Answer.TheVariants.{Linkage}
use Rattle.model.specs.declared.call.SetCall.TheVariants.{Into}
use Rattle.model.specs.declared.call.SequencingCall.TheVariants.{Wait, Activate}
use Rattle.model_laws.specs.Tables.{Tables, Lists}
use Rattle.model_laws.specs.Fresh.{fresh_heads, fresh_axis, fresh_tables, fresh_lists}
use Rattle.simset_laws.specs.Procedures.{precede_on, preceded}
use Rattle.simset_laws.specs.Calls.{into_step}
use Rattle.simset_laws.specs.Plain.{set_call}
use Rattle.simset_laws.specs.Walk.{first_from}
use Rattle.simset_laws.specs.Told.{head_told, set_answered}
use Rattle.simset_laws.specs.ToldWorked.{same, left, answered}
use Rattle.simulation_laws.specs.Plain.{due_for, placed, no_effect, timed, wait}
use Rattle.axis_laws.specs.Seek.{seek_from}
use Rattle.simulation_laws.specs.Procedures.{found, drop_on, put_on, vain, due_at, place_for, put_by_clause, activated}
use Rattle.simset_laws.specs.Full.{full_for}
use Rattle.simulation_laws.specs.Calls.{timed_step, wait_step, wait_told}
use Rattle.simulation_laws.specs.PublicCalls.{sequencing_answered, sequencing_tells, sequencing_call}

-- heads 1 and 2, main 3, another process 4
abbrev c : Counts
c = record { heads = 2; processes = 2; plains = 0 }

-- 4 is made current, and then stands in set 1
abbrev started : Tables
started = (sequencing_answered c (Activate 0 4 0 (pos 0)) (fresh_tables c)).tables

abbrev entered : Tables
entered = (set_answered c (Into 4 1) started).tables

abbrev started_lists : Lists
started_lists = left (fresh_lists c) (sequencing_call c (Activate 0 4 0 (pos 0)) (fresh_lists c))

abbrev entered_lists : Lists
entered_lists = left started_lists (set_call c (Into 4 1) started_lists)

-- wait for the set of y, both ways
abbrev waits : ℕ → Tables → Lists → Answered → Bool
waits y t l a =
    same (sequencing_answered c (Wait y) t).answer a && same (answered (sequencing_tells (Wait y) l) (sequencing_call c (Wait y) l)) a

pub wait_each : waits 2 entered entered_lists (Ok (Linkage 1))
    && waits 1 entered entered_lists (Ok (Linkage 1))
    && waits 0 entered entered_lists (Ok (Linkage 1))
    && waits 2 started started_lists (Ok (Linkage 0))
    && waits 1 (fresh_tables c) (fresh_lists c) (Err NoNotice) ≡ true
unfolding fresh_heads fresh_axis fresh_tables self_linked unlinked linked_behind linked_before precede_on preceded into_step first_from head_told
    due_for placed no_effect timed wait seek_from found drop_on put_on vain due_at place_for put_by_clause activated timed_step wait_step wait_told
    full_for sequencing_call
wait_each = refl
