-- The lent tables, the lists they spell, and when they are well formed.
use Rattle.std.specs.Prelude.{ℕ, ◌+◌, ◌*◌, ◌-◌, ◌<◌, ◌≤◌, ◌≡◌, ◌≢◌, Bool, List, [], ◌∷◌, leb, length, get_or}
use Rattle.ring_laws.specs.Lists.{In}
use Rattle.ring_laws.specs.Spell as ring
use Rattle.model.specs.declared.Counts.{Counts}
use Rattle.model.specs.Counts.{Allowed, total, main, most_members}
use Rattle.axis_laws.specs.AxisRing.{SpellsAxis}
use Rattle.axis_laws.specs.Notices.{Notice, whos, places, due_of, InOrder, Within}
use Rattle.ring_laws.specs.Tabulate.{listed, has, bit}

-- the four tables of a model, as lists of their words
pub record Tables : Type 0 where
  pub links : List ℕ
  pub axis : List ℕ
  pub times : List ℕ
  pub marks : List ℕ

-- by the words of the slices that are lent
abbrev pub model_of : List ℕ → List ℕ → List ℕ → List ℕ → Tables
model_of links axis times marks = record { links = links; axis = axis; times = times; marks = marks }

-- "links, 2 × (N + 1) words ..; axis, 2 × (P + 2) words ..; times, P + 1 words ..; marks, P + 1 bytes"
pub record Lengths (c : Counts) (t : Tables) : Type 0 where
  pub links_is : length t.links ≡ 2 * (total c + 1)
  pub axis_is : length t.axis ≡ 2 * (c.processes + 2)
  pub times_is : length t.times ≡ c.processes + 1
  pub marks_is : length t.marks ≡ c.processes + 1

-- counts within their limits, and tables of exactly their lengths: what refusal 1 asks for
pub record Sized (c : Counts) (t : Tables) : Type 0 where
  pub allowed : Allowed c
  pub lengths : Lengths c t

-- what a call leaves and answers
pub record After (A : Type 0) : Type 0 where
  pub tables : Tables
  pub answer : A

-- ---- the lists

-- the members of heads 1 .. H, each in order; the notices in order; the terminated processes
pub record Lists : Type 0 where
  pub sets : List (List ℕ)
  pub notices : List Notice
  pub terminated : List ℕ

-- the heads of the sets are 1 .. H
abbrev pub set_head : ℕ → ℕ → Bool
set_head H h = leb h H

-- the members of head h
abbrev pub members_of : List (List ℕ) → ℕ → List ℕ
members_of sets h = get_or sets (h - 1) []

-- "the successor of i at i, its predecessor at N + 1 + i": with m = N + 1, the links spell the sets
pub record SpellsSets (m H : ℕ) (sets : List (List ℕ)) (t : List ℕ) : Type 0 where
  pub all : length sets ≡ H
  pub spelled : ring.Spells m (set_head H) (members_of sets) t

-- "Make 512 the most members a set may have": no head has more
abbrev pub Limited : List (List ℕ) → Type 0
Limited sets = (h : ℕ) → length (members_of sets h) ≤ most_members

pub record Spells (c : Counts) (l : Lists) (t : Tables) : Type 0 where
  pub links : SpellsSets (total c + 1) c.heads l.sets t.links
  -- "A longer ring counts as badly formed tables"
  pub limited : Limited l.sets
  pub axis : SpellsAxis (c.processes + 2) (places c l.notices) t.axis
  -- place 0 holds 0, and "an idle process (no notice) has zeros in axis and times"
  pub times : t.times ≡ 0 ∷ listed (λ p. due_of (c.heads + p) l.notices) 1 c.processes
  -- "1 for terminated, else 0"
  pub marks : t.marks ≡ 0 ∷ listed (λ p. bit (has (c.heads + p) l.terminated)) 1 c.processes
  -- "The axis ring holds at least one process and its times, none above the limit, never fall along it"
  pub some : 0 < length l.notices
  pub in_order : InOrder l.notices
  pub within : Within l.notices
  -- "A terminated process is idle and isn't main"
  pub ended : (x : ℕ) → In x l.terminated → (c.heads < x) × (x ≤ c.heads + c.processes) × (x ≢ main c)
      × (In x (whos l.notices) → ⊥)

-- tables are well formed where there are lists that they spell
abbrev pub WellFormed : Counts → Tables → Type 0
WellFormed c t = (l : Lists) × Spells c l t
