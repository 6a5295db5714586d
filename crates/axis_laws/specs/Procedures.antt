-- The statements of the sequencing procedures on the tables of the axis, in the code's own shape: m is P + 2, the axis's own head stands at m - 1,
-- and a process's notice at its place.
use Rattle.std.specs.Prelude.{ℕ, suc, ◌-◌, Bool, false, List, eqb, get_or, set, if◌then◌else◌}
use Rattle.ring_laws.specs.Table.{unlinked, linked_behind, linked_before, self_linked}
use Rattle.axis_laws.specs.Seek.{found_on}
use Rattle.axis_laws.specs.Swap.{handed_over}
use Rattle.axis_laws.specs.Timeline.{Timeline}

-- ---- x's notice goes; s is the next of its time

-- where x led its time, that goes if x was alone, else s leads it
unfoldable pub ticks_left : ℕ → ℕ → ℕ → List ℕ → List ℕ
ticks_left m x s t = if eqb (get_or t x 0) 0 then t else (if eqb s x then unlinked m x t else handed_over m x s t)

unfoldable pub drop_on : ℕ → ℕ → Timeline → Timeline
drop_on m x a =
    record {
      ticks = ticks_left m x (get_or a.peers x 0) a.ticks;
      peers = unlinked m x a.peers;
      times = set a.times x 0;
    }

-- ---- a notice for x, which has none

-- a time of its own, u, behind the time that q leads
unfoldable pub put_alone : ℕ → ℕ → ℕ → ℕ → Timeline → Timeline
put_alone m x q u a = record { ticks = linked_behind m x q a.ticks; peers = self_linked m x a.peers; times = set a.times x u }

-- right after y, at y's time u
unfoldable pub put_after : ℕ → ℕ → ℕ → ℕ → Timeline → Timeline
put_after m x y u a = record { ticks = a.ticks; peers = linked_behind m x y a.peers; times = set a.times x u }

-- in front of y on its ring: last of the time where y leads it, else right before y
unfoldable pub put_ahead : ℕ → ℕ → ℕ → ℕ → Timeline → Timeline
put_ahead m x y u a = record { ticks = a.ticks; peers = linked_before m x y a.peers; times = set a.times x u }

-- in front of h, which led its time u: x leads it
unfoldable pub put_first : ℕ → ℕ → ℕ → ℕ → Timeline → Timeline
put_first m x h u a = record { ticks = handed_over m h x a.ticks; peers = linked_before m x h a.peers; times = set a.times x u }

-- ---- where: the last of the times up to u, looked for among distinct times, from both ends at once

unfoldable pub tick_for : ℕ → ℕ → Timeline → ℕ
tick_for m u a = found_on m (suc u) a.ticks a.times

-- that time is u itself
unfoldable pub shares : ℕ → ℕ → ℕ → List ℕ → Bool
shares m q u times = if eqb q (m - 1) then false else eqb (get_or times q 0) u

-- ---- the four insertions

-- behind all up to u
unfoldable pub behind_at : ℕ → ℕ → ℕ → ℕ → Timeline → Timeline
behind_at m x q u a = if shares m q u a.times then put_ahead m x q u a else put_alone m x q u a

abbrev pub behind_on : ℕ → ℕ → ℕ → Timeline → Timeline
behind_on m x u a = behind_at m x (tick_for m u a) u a

-- in front of all from u on
unfoldable pub front_at : ℕ → ℕ → ℕ → ℕ → Timeline → Timeline
front_at m x q u a = if shares m q u a.times then put_first m x q u a else put_alone m x q u a

abbrev pub front_on : ℕ → ℕ → ℕ → Timeline → Timeline
front_on m x u a = front_at m x (tick_for m u a) u a

-- right before y, right after y, at y's time u
unfoldable pub before_on : ℕ → ℕ → ℕ → ℕ → Timeline → Timeline
before_on m x y u a = if eqb (get_or a.ticks y 0) 0 then put_ahead m x y u a else put_first m x y u a

abbrev pub after_on : ℕ → ℕ → ℕ → ℕ → Timeline → Timeline
after_on m x y u a = put_after m x y u a
