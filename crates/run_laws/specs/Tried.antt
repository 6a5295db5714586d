-- The calls that a stretch of turns makes itself, and those that are made apart. It is a matter of speed alone: what a call leaves is
-- `performed` for all of them.
use Rattle.std.specs.Prelude.{ℕ, ◌≤◌, ◌≡◌, ◌≢◌, Bool, ◌&&◌, ◌||◌, List, [], ◌∷◌, leb, ℤ, if◌then◌else◌, Ok, Err}
use Rattle.std.proofs.Math.Path.{refl, sym, ap}
use Rattle.std.proofs.Common.{◌∙◌}
use Rattle.std.proofs.Math.Bool.{true, false, not}
use Rattle.std.proofs.Math.Dec.{eqb}
use borrow.Author.Tests.{ne_eqb, leb-true, not-true}
use Rattle.ring_laws.specs.Tabulate.{has}
use Rattle.model.specs.declared.Counts.{Counts}
use Rattle.model.specs.Counts.{both, is_process}
use Rattle.model_laws.specs.Tables.{Tables}
use Rattle.simset_laws.specs.Full.{known_room}
use Rattle.simset_laws.specs.Calls.{or_none}
use Rattle.sheet.specs.declared.records.Record.{Record}
use Rattle.sheet.specs.Operations.{last_operation}
use Rattle.sheet.specs.AllTo.{all_to, all_at}
use Rattle.run_laws.specs.OnTables.{operand_with}
use Rattle.run_laws.specs.declared.Effect.TheVariants.{Stays, Jumps, Moves, Apart}
use Rattle.run_laws.specs.Performed.{Meant, Performed, performed}

-- out, hold, if-empty and accum are made in a stretch, whatever their operands are; others may be made apart
abbrev pub made_here : ℕ → Bool
made_here o = eqb o 1 || (eqb o 6 || (eqb o 12 || eqb o 13))

unfoldable pub apart : Record → Bool
apart q = not (made_here q.operation)

-- activate with no clause or after a delay is made in a stretch too,
abbrev pub made_soon : ℕ → Bool
made_soon k = eqb k 0 || eqb k 2

-- where x with no walk is a process or none: no walk past links stands in a stretch
abbrev pub at_hand : Counts → Record → ℕ → List ℕ → Bool
at_hand c q f links = let x = operand_with c false links f q.x in or_none (is_process c x) x

-- into and wait are made in a stretch,
abbrev pub enters : ℕ → Bool
enters o = eqb o 4 || eqb o 8

-- where y is a head's number, or none, and the set's room is known: no count stands in a stretch
abbrev pub room_known : Counts → Record → List ℕ → Bool
room_known c q bounds = known_room c q.y bounds

-- known is whether it is
unfoldable pub left : Counts → Record → ℕ → List ℕ → Bool → Bool
left c q f links known =
    if eqb q.operation 10 then not (made_soon q.clause && at_hand c q f links)
    else (if enters q.operation then not known else apart q)

-- a call that is left is not made, and nothing has changed
unfoldable pub tried : Counts → Record → ℕ → Tables → List ℤ → Bool → Performed
tried c q f t w known = if left c q f t.links known then record { tables = t; words = w; effect = (Ok Apart) } else performed c q f t w

no_here : (q : Record) → apart q ≡ true → made_here q.operation ≡ false
unfolding apart
no_here q a = not-true (made_here q.operation) a

-- of all operations, past those that are made in a stretch and the arms of those that are made apart, 10 and 11 are left
abbrev arms_apart : List ℕ
arms_apart = 2 ∷ 3 ∷ 4 ∷ 5 ∷ 7 ∷ 8 ∷ 9 ∷ []

abbrev covered : ℕ → Bool
covered o = made_here o || (has o arms_apart || (leb 10 o && leb o 11))

all_covered : all_to covered last_operation ≡ true
unfolding all_to
all_covered = refl

pub left_apart : (q : Record) (o : ℕ) → o ≡ q.operation → apart q ≡ true → 1 ≤ o → o ≤ last_operation → o ≢ 2 → o ≢ 3 → o ≢ 4 → o ≢ 5
    → o ≢ 7 → o ≢ 8 → o ≢ 9
    → (10 ≤ o) × (o ≤ 11)
left_apart q o is a lo hi n2 n3 n4 n5 n7 n8 n9 =
    let here_not : made_here o ≡ false = ap made_here is ∙ no_here q a in
    let none : has o arms_apart ≡ false =
    rw (other 2 n2, other 3 n3, other 4 n4, other 5 n5, other 7 n7, other 8 n8, other 9 n9) refl in
    let l : (leb 10 o && leb o 11) ≡ true = last (all_at covered last_operation all_covered o lo hi) here_not none in
    let p = both (leb 10 o) (leb o 11) l in
    (leb-true 10 o p.0, leb-true o 11 p.1)
  where
    other : (k : ℕ) → o ≢ k → eqb k o ≡ false
    other k n = ne_eqb k o (λ e. n (sym e))

    last : {a b c : Bool} → (a || (b || c)) ≡ true → a ≡ false → b ≡ false → c ≡ true
    last e f g = rw (f, g) at e

-- ---- what was tried

abbrev pub is_apart : Meant → Bool
is_apart (Ok Stays) = false
is_apart (Ok (Jumps y)) = false
is_apart (Ok Moves) = false
is_apart (Err r) = false
is_apart (Ok Apart) = true
