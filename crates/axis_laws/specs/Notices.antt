-- Event notices as a plain list: the sequencing set in order, the first notice being the current process's.
use Rattle.std.specs.Prelude.{ℕ, ◌+◌, ◌<◌, ◌≤◌, List, [], ◌∷◌, map, eqb, if◌then◌else◌}
use Rattle.model.specs.declared.Counts.{Counts}
use Rattle.model.specs.Counts.{limit, place_of}

-- x is a process
pub record Process (c : Counts) (x : ℕ) : Type 0 where
  pub over : c.heads < x
  pub upto : x ≤ c.heads + c.processes

-- a process's number and its event time
pub record Notice : Type 0 where
  pub who : ℕ
  pub due : ℕ

-- the processes of the notices, in order
abbrev pub whos : List Notice → List ℕ
whos [] = []
whos (n ∷ ns) = n.who ∷ whos ns

-- their places in the axis
abbrev pub places : Counts → List Notice → List ℕ
places c ns = map (place_of c) (whos ns)

-- the event time of x, 0 where it has no notice
abbrev pub due_of : ℕ → List Notice → ℕ
due_of x [] = 0
due_of x (k ∷ ks) = if eqb k.who x then k.due else due_of x ks

-- times never fall along the notices: each is at most every later one
abbrev pub From : ℕ → List Notice → Type 0
From t [] = Unit {0}
From t (k ∷ ks) = (t ≤ k.due) × From t ks

abbrev pub InOrder : List Notice → Type 0
InOrder [] = Unit {0}
InOrder (n ∷ ns) = From n.due ns × InOrder ns

-- none is above the limit
abbrev pub Within : List Notice → Type 0
Within [] = Unit {0}
Within (k ∷ ks) = (k.due ≤ limit) × Within ks
