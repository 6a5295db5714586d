-- Hold, passivate, cancel and ACTIVATE on the tables of the axis; d is T where that is above 0, else 0. As in the one-ring form, with the same refusals.
use Rattle.std.specs.Prelude.{ℕ, ◌+◌, ◌-◌, Bool, ◌&&◌, ◌||◌, List, eqb, leb, ltb, get_or, set, if◌then◌else◌, Ok, Err}
use Rattle.model.specs.declared.Refusal.{Refusal}
use Rattle.model.specs.declared.Refusal.TheVariants.{NoNotice, TimeLimit}
use Rattle.model.specs.Counts.{limit}
use Rattle.model.specs.Answers.{Answered}
use Rattle.model.specs.declared.answer.Answer.TheVariants.{Done}
use Rattle.simulation_laws.specs.Procedures.{vain, due_at}
use Rattle.axis_laws.specs.Timeline.{Timeline, first_of, time_of, idle_at, lone}
use Rattle.axis_laws.specs.Turned.{turned}
use Rattle.axis_laws.specs.Shifted.{moved_to, shifted}
use Rattle.axis_laws.specs.Procedures.{drop_on, behind_on, front_on, before_on, after_on}

-- what a call leaves and answers
pub record Outcome : Type 0 where
  pub answer : Answered
  pub left : Timeline

abbrev pub made : Timeline → Outcome
made a = record { answer = Ok Done; left = a }

abbrev pub turned_down : Refusal → Timeline → Outcome
turned_down r a = record { answer = Err r; left = a }

-- ---- hold

-- x, alone at its time, stays where it is, due at u
unfoldable pub settled : ℕ → ℕ → Timeline → Timeline
settled x u a = record { ticks = a.ticks; peers = a.peers; times = set a.times x u }

-- EVTIME:= u; if suc =/= none then if suc.EVTIME <= EVTIME then out; RANK (false). By 0 ticks among others of its time, x only leads no more
unfoldable pub held_at : ℕ → ℕ → ℕ → Timeline → Timeline
held_at m x u a =
    if eqb (get_or a.peers x 0) x then
    (if eqb (get_or a.ticks x 0) (m - 1) then settled x u a
    else (if ltb u (get_or a.times (get_or a.ticks x 0) 0) then settled x u a else shifted m x u a))
    else (if eqb u (get_or a.times x 0) then turned m x (get_or a.peers x 0) a else moved_to m x u a)

unfoldable pub held : ℕ → ℕ → Timeline → Outcome
held m d a = if leb (time_of m a + d) limit then made (held_at m (first_of m a) (time_of m a + d) a) else turned_down TimeLimit a

-- ---- passivate, cancel

unfoldable pub passivated : ℕ → Timeline → Outcome
passivated m a = if lone m a then turned_down NoNotice a else made (drop_on m (first_of m a) a)

unfoldable pub cancelled : ℕ → ℕ → Timeline → Outcome
cancelled m x a = if idle_at a x then made a else if lone m a then turned_down NoNotice a else made (drop_on m x a)

-- ---- ACTIVATE; x and y are places, 0 for none; k is the clause

unfoldable pub placed_on : ℕ → ℕ → ℕ → ℕ → ℕ → Timeline → Timeline
placed_on m k x y u a =
    if eqb k 5 then before_on m x y u a
    else if eqb k 6 then after_on m x y u a
    else if eqb k 1 || eqb k 2 then behind_on m x u a
    else front_on m x u a

-- X's old notice goes, and the new one stands where the clause says
unfoldable pub scheduled : ℕ → ℕ → ℕ → ℕ → ℕ → Timeline → Timeline
scheduled m k x y u a = placed_on m k x y u (drop_on m x a)

unfoldable pub activated : ℕ → Bool → ℕ → ℕ → ℕ → ℕ → List ℕ → Timeline → Outcome
activated m again k x y d marks a =
    if vain again k x y marks a.peers then made a
    else if leb (due_at k y d (time_of m a) a.times) limit then
    (if leb 5 k && idle_at a y then cancelled m x a
    else made (scheduled m k x y (due_at k y d (time_of m a) a.times) a))
    else turned_down TimeLimit a
