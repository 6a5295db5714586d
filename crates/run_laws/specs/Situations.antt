-- The twelve named situations of document 01, by one computed check over a list of them: on the machine, and on tables by the
-- published procedures, from the fresh model on.
use Rattle.std.specs.Prelude.{ℕ, zero, suc, ◌+◌, ◌≡◌, refl, Bool, true, false, not, ◌&&◌, List, [], ◌∷◌, eqb, ℤ, pos, negsuc, get_or, if◌then◌else◌, Ok, Err}
use Rattle.ring_laws.specs.Distinct.{joined}
use Rattle.ring_laws.specs.Tabulate.{has}
use Rattle.ring_laws.specs.Table.{unlinked, linked_behind, linked_before, self_linked}
use Rattle.model.specs.declared.Counts.{Counts}
use Rattle.model.specs.Refusals.{refusal_number}
use Rattle.model.specs.Answers.{Answered}
use Rattle.model.specs.declared.answer.Answer.TheVariants.{Done, Linkage, Number, Truth}
use Rattle.model.specs.declared.call.SetCall.TheVariants.{Follow, Into}
use Rattle.axis_laws.specs.Notices.{Notice}
use Rattle.model_laws.specs.Tables.{Tables, After}
use Rattle.model_laws.specs.Now.{next_place}
use Rattle.model_laws.specs.Fresh.{fresh_heads, fresh_axis, fresh_tables}
use Rattle.model_laws.specs.Result.{done, refused, Result}
use Rattle.simset_laws.specs.Procedures.{follow_on, followed, precede_on, preceded}
use Rattle.simset_laws.specs.Full.{full_for}
use Rattle.simset_laws.specs.Calls.{follow_step, into_step}
use Rattle.simulation_laws.specs.Plain.{due_for, placed, no_effect, timed}
use Rattle.simulation_laws.specs.Plain as plain
use Rattle.axis_laws.specs.Seek.{seek_from}
use Rattle.simulation_laws.specs.Procedures.{found, drop_on, put_on, held_at, held, passivated, cancelled, vain, due_at, place_for}
use Rattle.simulation_laws.specs.Procedures.{put_by_clause, activated}
use Rattle.simulation_laws.specs.Calls.{hold_step, timed_step}
use Rattle.machine.specs.Machine.{Machine, fresh}
use Rattle.machine.specs.Calls.{ListCall, on_set, hold, activate, on_list, lists_after, perform}
use Rattle.run_laws.specs.OnTables.{tables_after}

-- ---- a model with one head, S, and four processes: M is main; A, B, C are processes

abbrev c : Counts
c = record { heads = 1; processes = 4; plains = 0 }

abbrev S : ℕ
S = 1

abbrev M : ℕ
M = 2

abbrev A : ℕ
A = 3

abbrev B : ℕ
B = 4

abbrev C : ℕ
C = 5

-- ---- one call after the other, up to a refusal

abbrev go_on : ListCall → Result Machine → Result Machine
go_on k (refused r) = refused r
go_on k (done m) = perform c (on_list k) m

abbrev machine_after : List ListCall → Result Machine → Result Machine
machine_after [] r = r
machine_after (k ∷ ks) r = machine_after ks (go_on k r)

abbrev going : Answered → Bool
going (Err r) = false
going (Ok a) = true

abbrev model_after : List ListCall → After Answered → After Answered
model_after [] r = r
model_after (k ∷ ks) r = if going r.answer then model_after ks (tables_after c k r.tables) else r

-- ---- what is wanted, and what the tables say: the axis from its first notice on, with at most k notices

pub data Expected : Type 0 where
  axis : List Notice → Expected
  number : ℕ → Expected
  outside : ℕ → Expected

abbrev at : ℕ → ℕ → Notice
at p t = record { who = p; due = t }

abbrev same : List Notice → List Notice → Bool
same [] [] = true
same [] (k ∷ ks) = false
same (n ∷ ns) [] = false
same (n ∷ ns) (k ∷ ks) = eqb n.who k.who && eqb n.due k.due && same ns ks

abbrev notices_from : Tables → ℕ → ℕ → List Notice
notices_from t zero p = []
notices_from t (suc k) p = if eqb p 5 then [] else at (1 + p) (get_or t.times p 0) ∷ notices_from t k (next_place t.axis p)

abbrev machine_meets : Result Machine → Expected → Bool
machine_meets (refused r) (axis l) = false
machine_meets (refused r) (number k) = eqb (refusal_number r) k
machine_meets (refused r) (outside x) = false
machine_meets (done m) (axis ns) = same m.lists.notices ns
machine_meets (done m) (number k) = false
machine_meets (done m) (outside x) = not (has x (joined m.lists.sets))

abbrev answer_is : Answered → ℕ → Bool
answer_is (Err r) k = eqb (refusal_number r) k
answer_is (Ok a) k = false

abbrev tables_meet : After Answered → Expected → Bool
tables_meet r (axis ns) = going r.answer && same (notices_from r.tables 5 (next_place r.tables.axis 5)) ns
tables_meet r (number k) = answer_is r.answer k
tables_meet r (outside x) = going r.answer && eqb (get_or r.tables.links x 0) 0 && eqb (get_or r.tables.links (6 + x) 0) 0

-- ---- the twelve, each by its calls from the fresh model

pub record Situation : Type 0 where
  pub calls : List ListCall
  pub want : Expected

abbrev act : ℕ → ℕ → ℤ → ListCall
act k x t = activate false k x 0 t

abbrev beside : ℕ → ℕ → ℕ → ListCall
beside k x y = activate true k x y (pos 0)

unfoldable pub situations : List Situation
situations =
    record { calls = []; want = axis (at M 0 ∷ []) }  --  1
    ∷ record { calls = act 0 A (pos 0) ∷ []; want = axis (at A 0 ∷ at M 0 ∷ []) }  --  2
    ∷ record { calls = act 2 A (pos 5) ∷ []; want = axis (at M 0 ∷ at A 5 ∷ []) }  --  3
    ∷ record { calls = act 2 A (pos 5) ∷ act 1 B (pos 5) ∷ []; want = axis (at M 0 ∷ at A 5 ∷ at B 5 ∷ []) }  --  4
    ∷ record {
      calls = act 2 A (pos 5) ∷ act 1 B (pos 5) ∷ act 3 C (pos 5) ∷ [];
      want = axis (at M 0 ∷ at C 5 ∷ at A 5 ∷ at B 5 ∷ []);
    }  --  5
    ∷ record {
      calls = act 2 A (pos 5) ∷ act 1 B (pos 5) ∷ act 3 C (pos 5) ∷ hold (pos 5) ∷ [];
      want = axis (at C 5 ∷ at A 5 ∷ at B 5 ∷ at M 5 ∷ []);
    }  --  6
    ∷ record { calls = act 2 A (pos 5) ∷ hold (pos 0) ∷ []; want = axis (at M 0 ∷ at A 5 ∷ []) }  --  7
    ∷ record { calls = act 0 A (pos 0) ∷ hold (negsuc 2) ∷ []; want = axis (at M 0 ∷ at A 0 ∷ []) }  --  8
    ∷ record { calls = act 2 A (pos 5) ∷ beside 5 A A ∷ []; want = axis (at M 0 ∷ at A 5 ∷ []) }  --  9
    ∷ record { calls = act 2 A (pos 5) ∷ beside 6 M B ∷ []; want = axis (at A 5 ∷ []) }  -- 10
    ∷ record { calls = beside 6 M B ∷ []; want = number 4 }  -- 11
    ∷ record { calls = on_set (Into A S) ∷ on_set (Follow A A) ∷ []; want = outside A }  -- 12
    ∷ []

unfoldable pub met : Situation → Bool
unfolding plain.hold due_for placed no_effect timed fresh_heads fresh_axis fresh_tables self_linked unlinked linked_behind linked_before follow_on
    followed precede_on preceded full_for follow_step into_step seek_from found drop_on put_on held_at held passivated cancelled vain due_at place_for
    put_by_clause activated hold_step timed_step fresh lists_after perform tables_after
met s =
    machine_meets (machine_after s.calls (done (fresh (record { counts = c; starts = []; records = [] })))) s.want
    && tables_meet (model_after s.calls (record { tables = fresh_tables c; answer = Ok Done })) s.want

abbrev all : List Situation → Bool
all [] = true
all (s ∷ ss) = met s && all ss

pub twelve : all situations ≡ true
unfolding situations met
twelve = refl
