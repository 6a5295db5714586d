-- Which fields an operation uses: the table of operations, a line of it at a time.
use Rattle.std.specs.Prelude.{ℕ, ◌-◌, ◌≤◌, ◌<◌, ◌≡◌, Bool, true, false, ◌&&◌, List, [], ◌∷◌, leb, get_or, if◌then◌else◌}
use Rattle.std.proofs.Common.{ap, ◌∙◌, arith}
use Rattle.std.proofs.Math.Bool.{and-true}
use borrow.Author.Tests.{le-leb, lt-leb}
use Rattle.ring_laws.specs.Tabulate.{listed, has, listed_at}
use Rattle.sheet.specs.declared.operations.Holds.{Holds}
use Rattle.sheet.specs.declared.operations.Holds.TheVariants.{Nothing, Operand, RecordNumber, AccumulatorNumber}
use Rattle.sheet.specs.declared.operations.Uses.{Uses}

-- an operation with no clause
abbrev pub plain : Holds → Holds → Bool → Uses
plain x y t = record { clause = false; x = x; y = y; t = t }

-- "Operations are 1 to 13"
abbrev pub last_operation : ℕ
last_operation = 13

-- "operation | fields used"
unfoldable pub row_of : ℕ → Uses
row_of op =
    if has op (1 ∷ []) then plain Operand Nothing false  -- "1 out | x"
    else if has op (2 ∷ 3 ∷ 4 ∷ []) then plain Operand Operand false  -- "2 follow, 3 precede, 4 into | x, y"
    else if has op (5 ∷ []) then plain Operand Nothing false  -- "5 clear | x"
    else if has op (6 ∷ []) then plain Nothing Nothing true  -- "6 hold | t"
    else if has op (7 ∷ []) then plain Nothing Nothing false  -- "7 passivate | none"
    else if has op (8 ∷ []) then plain Nothing Operand false  -- "8 wait | y"
    else if has op (9 ∷ []) then plain Operand Nothing false  -- "9 cancel | x"
    -- "10 activate, 11 reactivate | clause, x, y .., t .."
    else if has op (10 ∷ 11 ∷ []) then record { clause = true; x = Operand; y = Operand; t = true }
    else if has op (12 ∷ []) then plain Operand RecordNumber false  -- "12 if head x is empty go to record y | x, y"
    else if has op (13 ∷ []) then plain AccumulatorNumber Nothing true  -- "13 accum number x by t | x"; "For 13, t is used too"
    else plain Nothing Nothing false

-- where a clause is used: ".. y for 5 and 6, t for 1 to 4"
unfoldable pub under : ℕ → Uses → Uses
under clause u =
    if u.clause
    then record { clause = true; x = u.x; y = if leb 5 clause then u.y else Nothing; t = leb 1 clause && leb clause 4 }
    else u

-- the fields that a record of this operation and clause uses
abbrev pub uses_of : ℕ → ℕ → Uses
uses_of op clause = under clause (row_of op)

-- ---- the constant table

-- a list that spells the rows from 1 on has the row of op at op - 1
pub row_at : (xs : List Uses) (d : Uses) → xs ≡ listed row_of 1 last_operation → (op : ℕ) → 1 ≤ op → op ≤ last_operation
    → get_or xs (op - 1) d ≡ row_of op
row_at xs d e op a b = ap (λ (l : List Uses). get_or l (op - 1) d) e ∙ listed_at row_of d last_operation 1 (op - 1) (omega arith)
    ∙ ap row_of (omega arith)

-- ---- the narrowing, by its cases

module _ (clause : ℕ) (u : Uses) where
  pub under_plain : u.clause ≡ false → u ≡ under clause u
  unfolding under
  under_plain e = rw e

  pub under_beside : u.clause ≡ true → 4 < clause → record { clause = true; x = u.x; y = u.y; t = false } ≡ under clause u
  unfolding under
  under_beside e l = rw (e, le-leb 5 clause (omega arith), lt-leb clause 4 l, le-leb 1 clause (omega arith))

  pub under_timed : u.clause ≡ true → clause ≤ 4 → record { clause = true; x = u.x; y = Nothing; t = leb 1 clause } ≡ under clause u
  unfolding under
  under_timed e l = rw (e, lt-leb 5 clause (omega arith), le-leb clause 4 l, and-true (leb 1 clause))
