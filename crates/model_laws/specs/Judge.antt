-- What the judge of a model computes: limits and lengths (refusal 1), then rings, times and marks (refusal 2).
use Rattle.std.specs.Prelude.{ℕ, zero, suc, ◌+◌, ◌*◌, Bool, true, false, ◌&&◌, List, eqb, leb, ltb, length, get_or, if◌then◌else◌, Ok, Err}
use Rattle.ring_laws.specs.Stores.{sucs, pres}
use Rattle.ring_laws.specs.Judge.{idle, rings_fine}
use Rattle.model.specs.declared.Counts.{Counts}
use Rattle.model.specs.declared.Refusal.TheVariants.{Size, Malformed}
use Rattle.model.specs.Answers.{Verdict}
use Rattle.model.specs.Counts.{in_limits, total, limit, most_members}
use Rattle.axis_laws.specs.Marks.{mark_fine}
use Rattle.model_laws.specs.Tables.{Tables}

-- the links' table: the rings of the heads 1 .. H over the links H + 1 .. N, with m = N + 1; "A longer ring counts as badly formed tables"
abbrev pub links_fine : ℕ → ℕ → List ℕ → Bool
links_fine m H t = rings_fine (sucs m t) (pres m t) (H + 1) m most_members H 1

-- an idle place has time 0; another has a time within the limit, and not past that of the next notice; h is the axis's head
unfoldable pub time_fine : (ℕ → ℕ) → (ℕ → ℕ) → ℕ → List ℕ → ℕ → Bool
time_fine S P h times y =
    if idle S P y then eqb (get_or times y 0) 0
    else (if ltb limit (get_or times y 0) then false
    else (if leb h (S y) then true else leb (get_or times y 0) (get_or times (S y) 0)))

-- both, at the places 1 .. i
unfoldable pub places_fine : (ℕ → ℕ) → (ℕ → ℕ) → ℕ → List ℕ → List ℕ → ℕ → Bool
places_fine S P h times marks zero = true
places_fine S P h times marks (suc i) =
    time_fine S P h times (suc i) && (mark_fine S P marks (suc i) && places_fine S P h times marks i)

-- place 0 holds 0, the axis is one ring over the places 1 .. p with its head at p + 1, and holds a notice; p + 1 limits nothing
unfoldable pub axis_fine : ℕ → List ℕ → List ℕ → List ℕ → Bool
axis_fine p axis times marks =
    eqb (get_or times 0 0) 0
    && (eqb (get_or marks 0 0) 0
    && (rings_fine (sucs (p + 2) axis) (pres (p + 2) axis) 1 (p + 1) (p + 1) 1 (p + 1)
    && (if eqb (get_or axis (p + 1) 0) (p + 1) then false else places_fine (sucs (p + 2) axis) (pres (p + 2) axis) (p + 1) times marks p)))

unfoldable pub tables_fine : Counts → Tables → Bool
tables_fine c t = links_fine (total c + 1) c.heads t.links && axis_fine c.processes t.axis t.times t.marks

unfoldable pub lengths_fine : Counts → Tables → Bool
lengths_fine c t =
    eqb (length t.links) (2 * (total c + 1))
    && (eqb (length t.axis) (2 * (c.processes + 2))
    && (eqb (length t.times) (c.processes + 1) && eqb (length t.marks) (c.processes + 1)))

-- limits and lengths, then the tables
unfoldable pub judged : Counts → Tables → Verdict
judged c t =
    if in_limits c && lengths_fine c t then (if tables_fine c t then (Ok tt) else Err Malformed) else Err Size

-- ---- a run's positions

-- "place 0 zero, each at most R"
unfoldable pub positions_fine : ℕ → List ℕ → ℕ → Bool
positions_fine R positions zero = eqb (get_or positions 0 0) 0
positions_fine R positions (suc i) = if ltb R (get_or positions (suc i) 0) then false else positions_fine R positions i

-- P + 1 words, else refusal 1; then as above, else refusal 2
unfoldable pub positions_judged : Counts → ℕ → List ℕ → Verdict
positions_judged c R positions =
    if eqb (length positions) (c.processes + 1)
    then (if positions_fine R positions c.processes then (Ok tt) else Err Malformed)
    else Err Size
