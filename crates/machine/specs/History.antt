-- The order of ties, with its history: which step scheduled each notice last, and how. "A notice is scheduled by the step that last
-- placed it: hold (moved or not), activate or reactivate; main's first comes before all."
use Rattle.std.specs.Prelude.{ℕ, zero, suc, ◌-◌, ◌<◌, ◌≡◌, ◌≢◌, Bool, false, not, ◌&&◌, ◌||◌, List, leb, eqb, if◌then◌else◌}
use Rattle.ring_laws.specs.Lists.{In}
use Rattle.axis_laws.specs.Notices.{Notice, whos, due_of}
use Rattle.model_laws.specs.Tables.{Lists}
use Rattle.model_laws.specs.Now.{current}
use Rattle.axis_laws.specs.NoticeOps.{has_notice}
use Rattle.axis_laws.specs.Orders.{Before, Next}
use Rattle.simulation_laws.specs.Plain.{no_effect}
use Rattle.sheet.specs.Sheet.{Sheet}
use Rattle.machine.specs.Machine.{Machine}
use Rattle.machine.specs.Calls.{ListCall, on_set, hold, passivate, wait, cancel, activate, if_empty, finish, Call, on_list, accum}
use Rattle.machine.specs.Steps.{call_now, Turn, ended, stepped}
use Rattle.machine.specs.Run.{turn, state}

-- ---- what a step schedules

-- how a notice is scheduled: main's first, at the fresh model; behind all of its time; in front of them, prior or directly; right
-- before Y, right after Y
pub data How : Type 0 where
  at_first : How
  behind : How
  in_front : How
  right_before : ℕ → How
  right_after : ℕ → How

-- what a step schedules: nothing, or the notice of one process
pub data Placing : Type 0 where
  nothing : Placing
  places : ℕ → How → Placing

-- clauses 1 and 2 place behind, 0, 3 and 4 in front, 5 and 6 next to Y
unfoldable pub how_of : ℕ → ℕ → How
how_of k y =
    if eqb k 5 then right_before y
    else if eqb k 6 then right_after y
    else if eqb k 1 || eqb k 2 then behind
    else in_front

-- "if Y has none, it is left out"
unfoldable pub clause_placing : ℕ → ℕ → ℕ → Lists → Placing
clause_placing k x y l = if leb 5 k && not (has_notice y l.notices) then nothing else places x (how_of k y)

-- a call without effect places nothing
abbrev pub timed_placing : Bool → ℕ → ℕ → ℕ → Lists → Placing
timed_placing again k x y l = if no_effect again k x y l then nothing else clause_placing k x y l

unfoldable pub list_placing : ListCall → Lists → Placing
list_placing (on_set k) l = nothing
list_placing (hold t) l = places (current l) behind
list_placing passivate l = nothing
list_placing (wait y) l = nothing
list_placing (cancel x) l = nothing
list_placing (activate again k x y t) l = timed_placing again k x y l
list_placing (if_empty x) l = nothing
list_placing finish l = nothing

abbrev pub placing_of : Call → Lists → Placing
placing_of (on_list k) l = list_placing k l
placing_of (accum k d) l = nothing

-- the machine's next step; where there is none, or it is refused, nothing is scheduled
abbrev pub if_stepped : Turn → Placing → Placing
if_stepped (ended e) p = nothing
if_stepped (stepped l k) p = p

unfoldable pub placing : Sheet → Machine → Placing
placing s m = if_stepped (turn s 1 m) (placing_of (call_now s m) m.lists)

-- ---- the history

-- by which step, counted from 1, and how
pub record Scheduled : Type 0 where
  pub by : ℕ
  pub how : How

abbrev pub now_or : ℕ → Placing → ℕ → Scheduled → Scheduled
now_or x nothing n e = e
now_or x (places p h) n e = if eqb p x then record { by = n; how = h } else e

-- when and how x's notice was scheduled last, after n steps; at first there is main's alone
unfoldable pub scheduled : Sheet → ℕ → ℕ → Scheduled
scheduled s zero x = record { by = 0; how = at_first }
scheduled s (suc n) x = now_or x (placing s (state s n)) (suc n) (scheduled s n x)

-- the notices after n steps
abbrev pub notices_at : Sheet → ℕ → List Notice
notices_at s n = (state s n).lists.notices

-- ---- how an earlier notice stands to one scheduled later

-- a's notice against b's, scheduled so: at equal times a's stands before the one placed behind, and behind the one placed in front;
-- against one placed next to Y it stands as against Y, then, in the old list of processes
abbrev pub StandsTo : How → Type 0 → ℕ → ℕ → List ℕ → List ℕ → Type 0
StandsTo at_first equal a b old now = Unit {0}
StandsTo behind equal a b old now = equal → Before a b now
StandsTo in_front equal a b old now = equal → Before b a now
StandsTo (right_before y) equal a b old now = (a ≡ y → Before b a now) × (Before a y old → Before a b now)
    × (Before y a old → Before b a now)
StandsTo (right_after y) equal a b old now = (a ≡ y → Before a b now) × (Before a y old → Before a b now) × (Before y a old → Before b a now)

-- when it is placed it has Y's time and stands next to Y
abbrev pub Beside : How → ℕ → List Notice → Type 0
Beside at_first x ns = Unit {0}
Beside behind x ns = Unit {0}
Beside in_front x ns = Unit {0}
Beside (right_before y) x ns = (due_of x ns ≡ due_of y ns) × Next x y (whos ns)
Beside (right_after y) x ns = (due_of x ns ≡ due_of y ns) × Next y x (whos ns)

-- and Y had a notice then
abbrev pub YThere : How → List ℕ → Type 0
YThere at_first old = Unit {0}
YThere behind old = Unit {0}
YThere in_front old = Unit {0}
YThere (right_before y) old = In y old
YThere (right_after y) old = In y old

-- ---- the law of one step, from the notices old to new

-- the notice that it places, against every other
pub record Placed (h : How) (x : ℕ) (old new : List Notice) : Type 0 where
  pub present : In x (whos new)
  pub y_there : YThere h (whos old)
  pub beside : Beside h x new
  pub stands : (a : ℕ) → a ≢ x → In a (whos new) → StandsTo h (due_of a new ≡ due_of x new) a x (whos old) (whos new)

abbrev pub PlacedBy : Placing → List Notice → List Notice → Type 0
PlacedBy nothing old new = Unit {0}
PlacedBy (places x h) old new = Placed h x old new

abbrev pub is_placed : ℕ → Placing → Bool
is_placed x nothing = false
is_placed x (places p h) = eqb p x

-- those that it does not place were there, with their times, and keep their order
pub record Others (p : Placing) (old new : List Notice) : Type 0 where
  pub there : (a : ℕ) → is_placed a p ≡ false → In a (whos new) → In a (whos old)
  pub due : (a : ℕ) → is_placed a p ≡ false → In a (whos new) → due_of a new ≡ due_of a old
  pub order : (a b : ℕ) → is_placed a p ≡ false → is_placed b p ≡ false → In a (whos new) → In b (whos new) → Before a b (whos old)
      → Before a b (whos new)

pub record Stepwise (p : Placing) (old new : List Notice) : Type 0 where
  pub placed : PlacedBy p old new
  pub others : Others p old new

-- ---- the law of a run: after n steps

-- a has a notice, and b's was scheduled later, by the step and in the way that e says. Then that step did place b so; a's notice was
-- there already, and so was Y's where b was placed next to it; and the two stand as b's placing says
pub record Tie (s : Sheet) (n a b : ℕ) (e : Scheduled) : Type 0 where
  pub placed_so : placing s (state s (e.by - 1)) ≡ places b e.how
  pub there : In a (whos (notices_at s (e.by - 1)))
  pub y_there : YThere e.how (whos (notices_at s (e.by - 1)))
  pub stands : StandsTo e.how (due_of a (notices_at s n) ≡ due_of b (notices_at s n)) a b (whos (notices_at s (e.by - 1)))
      (whos (notices_at s n))

pub record Ties (s : Sheet) (n : ℕ) : Type 0 where
  -- no two notices were scheduled by one step, so of any two one is the later
  pub apart : (a b : ℕ) → In a (whos (notices_at s n)) → In b (whos (notices_at s n)) → (scheduled s n a).by ≡ (scheduled s n b).by → a ≡ b
  pub tie : (a b : ℕ) → In a (whos (notices_at s n)) → In b (whos (notices_at s n)) → (scheduled s n a).by < (scheduled s n b).by
      → Tie s n a b (scheduled s n b)
  -- what the next step does
  pub next : Stepwise (placing s (state s n)) (notices_at s n) (notices_at s (suc n))
