-- The engine's own way through SIMULATION's procedures, on the axis, the times and the marks; the calls' promises cite it. It differs from
-- the published text (Published.antt) where a table asks for it: X has one place, so its earlier notice goes before the new one is placed;
-- T is clamped beforehand; RANK's place is looked for from both ends. PublishedCalls.antt proves that the published text leaves the same.
-- m is P + 2, the axis's own head (SQS) stands at m - 1, and a process's notice at its place. d is T where that is above 0, else 0.
use Rattle.std.specs.Prelude.{ℕ, suc, ◌+◌, ◌-◌, max, Bool, not, ◌&&◌, ◌||◌, List, eqb, leb, ltb, get_or, set, if◌then◌else◌, Ok, Err}
use Rattle.ring_laws.specs.Table.{unlinked, linked_behind}
use Rattle.model.specs.declared.Refusal.{Refusal}
use Rattle.model.specs.declared.Refusal.TheVariants.{NoNotice, TimeLimit}
use Rattle.model.specs.Counts.{limit}
use Rattle.model.specs.Answers.{Answered}
use Rattle.model.specs.declared.answer.Answer.TheVariants.{Done}
use Rattle.axis_laws.specs.Seek.{seek_from}
use Rattle.model_laws.specs.Now.{first_of, next_place, prev_place, idle_on, lone_on, time_of}

-- the sequencing set: two lent tables
pub record Sqs : Type 0 where
  pub axis : List ℕ  -- 2 * m words
  pub times : List ℕ  -- m - 1 words

-- what a call leaves and answers
pub record Outcome : Type 0 where
  pub answer : Answered
  pub left : Sqs

abbrev pub made : Sqs → Outcome
made a = record { answer = Ok Done; left = a }

abbrev pub turned_down : Refusal → Sqs → Outcome
turned_down r a = record { answer = Err r; left = a }

-- ---- reading

-- suc, pred and idle
abbrev pub next_on : Sqs → ℕ → ℕ
next_on a x = next_place a.axis x

abbrev pub prev_on : ℕ → Sqs → ℕ → ℕ
prev_on m a x = prev_place m a.axis x

abbrev pub idle_at : Sqs → ℕ → Bool
idle_at a x = idle_on a.axis x

-- there is no second notice
abbrev pub lone : ℕ → Sqs → Bool
lone m a = lone_on m a.axis

-- behind which place a notice stands in front of all from w on: RANK's place
unfoldable pub found : ℕ → ℕ → Sqs → ℕ
found m w a = seek_from m a.times w a.axis m (first_of m a.axis) (prev_on m a (m - 1))

-- ---- the statements

-- EVENT.out; EVENT:- none
unfoldable pub drop_on : ℕ → ℕ → Sqs → Sqs
drop_on m x a = record { axis = unlinked m x a.axis; times = set a.times x 0 }

-- EVENT:- new EVENT NOTICE (u, X); EVENT.follow (q)
unfoldable pub put_on : ℕ → ℕ → ℕ → ℕ → Sqs → Sqs
put_on m x q u a = record { axis = linked_behind m x q a.axis; times = set a.times x u }

-- RANK (false): behind all up to u
abbrev pub ranked : ℕ → ℕ → ℕ → Sqs → Sqs
ranked m x u a = put_on m x (found m (suc u) a) u a

-- ---- hold, passivate, cancel, finish; d is T where that is above 0, else 0

-- EVTIME:= u; if suc =/= none then if suc.EVTIME <= EVTIME then out; RANK (false)
unfoldable pub held_at : ℕ → ℕ → ℕ → Sqs → Sqs
held_at m x u a =
    if eqb (next_on a x) (m - 1) then record { axis = a.axis; times = set a.times x u }
    else if ltb u (get_or a.times (next_on a x) 0) then record { axis = a.axis; times = set a.times x u }
    else ranked m x u (drop_on m x a)

abbrev pub held_to : ℕ → ℕ → Sqs → Sqs
held_to m u a = held_at m (first_of m a.axis) u a

unfoldable pub held : ℕ → ℕ → Sqs → Outcome
held m d a =
    if leb (time_of m a.axis a.times + d) limit
    then made (held_to m (time_of m a.axis a.times + d) a)
    else turned_down TimeLimit a

unfoldable pub passivated : ℕ → Sqs → Outcome
passivated m a = if lone m a then turned_down NoNotice a else made (drop_on m (first_of m a.axis) a)

unfoldable pub cancelled : ℕ → ℕ → Sqs → Outcome
cancelled m x a = if idle_at a x then made a else if lone m a then turned_down NoNotice a else made (drop_on m x a)

-- ---- ACTIVATE; x and y are places, 0 for none; k is the clause: 0 direct, 1 at, 2 delay, 3 at prior, 4 delay prior, 5 before, 6 after

-- no effect: X none or terminated; activate of one not idle; X = Y with a notice
unfoldable pub vain : Bool → ℕ → ℕ → ℕ → List ℕ → List ℕ → Bool
vain again k x y marks axis =
    eqb x 0 || not (eqb (get_or marks x 0) 0) || (not (idle_on axis x) && (not again || (leb 5 k && eqb x y)))

-- the new notice's time
unfoldable pub due_at : ℕ → ℕ → ℕ → ℕ → List ℕ → ℕ
due_at k y d now times =
    if eqb k 0 then now
    else if leb 5 k then get_or times y 0
    else if eqb k 2 || eqb k 4 then now + d
    else max now d

-- where X's old notice is gone: behind which place the new one stands
unfoldable pub place_for : ℕ → ℕ → ℕ → ℕ → ℕ → Sqs → ℕ
place_for m k y now u a =
    if eqb k 5 then prev_on m a y
    else if eqb k 6 then y
    else if eqb k 1 || eqb k 2 then found m (suc u) a
    else if eqb u now then m - 1
    else found m u a

-- X's old notice goes, and the new one stands where the clause says
unfoldable pub put_by_clause : ℕ → ℕ → ℕ → ℕ → ℕ → ℕ → Sqs → Sqs
put_by_clause m k x y now u a = put_on m x (place_for m k y now u (drop_on m x a)) u (drop_on m x a)

-- ACTIVATE. Beside an idle Y nothing is scheduled, and X's notice goes
unfoldable pub activated : ℕ → Bool → ℕ → ℕ → ℕ → ℕ → List ℕ → Sqs → Outcome
activated m again k x y d marks a =
    if vain again k x y marks a.axis then made a
    else if leb (due_at k y d (time_of m a.axis a.times) a.times) limit then
    (if leb 5 k && idle_at a y then cancelled m x a
    else made (put_by_clause m k x y (time_of m a.axis a.times) (due_at k y d (time_of m a.axis a.times) a.times) a))
    else turned_down TimeLimit a

-- finish is passivate, and TERMINATED:= true before it
unfoldable pub finished_marks : ℕ → List ℕ → Sqs → List ℕ
finished_marks m marks a = if lone m a then marks else set marks (first_of m a.axis) 1
