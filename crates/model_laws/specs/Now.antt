-- "Current is the process of the first notice; time is its time": on the lists, and read off the tables. NowLaws.antt says that both agree.
use Rattle.std.specs.Prelude.{ℕ, ◌+◌, ◌-◌, Bool, List, [], ◌∷◌, eqb, get_or}
use Rattle.ring_laws.specs.Table.{Sound}
use Rattle.model.specs.declared.Counts.{Counts}
use Rattle.axis_laws.specs.Notices.{Notice}
use Rattle.model_laws.specs.Tables.{Lists}
pub use Rattle.axis_laws.specs.AxisRing.{next_place, prev_place}

-- ---- on the lists

abbrev pub first : List Notice → Notice
first [] = record { who = 0; due = 0 }
first (n ∷ ns) = n

abbrev pub current : Lists → ℕ
current l = (first l.notices).who

abbrev pub time : Lists → ℕ
time l = (first l.notices).due

-- ---- on the tables

-- the words of half an axis: P + 2
abbrev pub half : Counts → ℕ
half c = c.processes + 2

-- what a table must be for the axis to be read and changed in it: two halves of m words, each word a place below m
abbrev pub AxisSound : ℕ → List ℕ → Type 0
AxisSound m axis = Sound m axis

-- the process at x has no notice
abbrev pub idle_on : List ℕ → ℕ → Bool
idle_on axis x = eqb (next_place axis x) 0

-- an axis with halves of m words has its own head at m - 1, and the head's successor is the first notice's place
abbrev pub first_of : ℕ → List ℕ → ℕ
first_of m axis = next_place axis (m - 1)

-- there is no second notice: behind the first stands the head
abbrev pub lone_on : ℕ → List ℕ → Bool
lone_on m axis = eqb (next_place axis (first_of m axis)) (m - 1)

-- the first notice's time
abbrev pub time_of : ℕ → List ℕ → List ℕ → ℕ
time_of m axis times = get_or times (first_of m axis) 0
