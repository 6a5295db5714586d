-- The tables of the axis, m being P + 2, and the groups that they spell.
use Rattle.std.specs.Prelude.{ℕ, ◌+◌, ◌*◌, ◌-◌, ◌<◌, ◌≡◌, Bool, not, ◌&&◌, List, eqb, length, get_or, take, drop, if◌then◌else◌}
use Rattle.ring_laws.specs.Lists.{In}
use Rattle.ring_laws.specs.Distinct.{Dist}
use Rattle.ring_laws.specs.Stores.{sucs, pres}
use Rattle.axis_laws.specs.Notices.{due_of}
use Rattle.axis_laws.specs.AxisRing.{SpellsAxis}
use Rattle.axis_laws.specs.Groups.{Group, spelled_out, members, leaders, Rising}
use Rattle.axis_laws.specs.Loops.{Loops}

pub record Timeline : Type 0 where
  pub ticks : List ℕ  -- "next and previous distinct time", 2 * m words
  pub peers : List ℕ  -- "then next and previous process of the same time", 2 * m words
  pub times : List ℕ  -- m - 1 words

-- "the axis table becomes 4 × (P + 2) words of 32 bits"
abbrev pub timeline : ℕ → List ℕ → List ℕ → Timeline
timeline m axis times = record { ticks = take (2 * m) axis; peers = drop (2 * m) axis; times = times }

-- "next and previous process of the same time, a ring; 0 elsewhere"
pub record SpellsPeers (m : ℕ) (gs : List Group) (t : List ℕ) : Type 0 where
  pub two : length t ≡ 2 * m
  pub loops : Loops (sucs m t) (pres m t) gs
  pub off : (y : ℕ) → (In y (members gs) → ⊥) → (sucs m t y ≡ 0) × (pres m t y ≡ 0)

pub record SpellsGroups (m : ℕ) (gs : List Group) (a : Timeline) : Type 0 where
  -- "next and previous distinct time, a ring through the head at P + 1 and the first process of each time"
  pub ticks : SpellsAxis m (leaders gs) a.ticks
  pub peers : SpellsPeers m gs a.peers
  pub rising : Rising gs
  pub once : Dist (members gs)
  pub place : (y : ℕ) → In y (members gs) → (0 < y) × (y < m - 1)
  pub full : length a.times + 1 ≡ m
  -- place 0 and an idle process have 0
  pub timed : (y : ℕ) → get_or a.times y 0 ≡ due_of y (spelled_out gs)

-- ---- reading

-- the first notice's place: "the first process of each time"
abbrev pub first_of : ℕ → Timeline → ℕ
first_of m a = get_or a.ticks (m - 1) 0

abbrev pub time_of : ℕ → Timeline → ℕ
time_of m a = get_or a.times (first_of m a) 0

abbrev pub leads : Timeline → ℕ → Bool
leads a x = not (eqb (get_or a.ticks x 0) 0)

abbrev pub idle_at : Timeline → ℕ → Bool
idle_at a x = eqb (get_or a.peers x 0) 0

-- the place of the notice after x's: the next of its time, or where that leads, the next time's first
unfoldable pub next_of : Timeline → ℕ → ℕ
next_of a x = if leads a (get_or a.peers x 0) then get_or a.ticks (get_or a.peers x 0) 0 else get_or a.peers x 0

-- there is no second notice
unfoldable pub lone : ℕ → Timeline → Bool
lone m a = eqb (get_or a.peers (first_of m a) 0) (first_of m a) && eqb (get_or a.ticks (first_of m a) 0) (m - 1)
