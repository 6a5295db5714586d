-- What an operand of a record means, on the machine's lists. Document 01's rule, amended by request 2.4: it takes the operation.
use Rattle.std.specs.Prelude.{ℕ, ◌-◌, Bool, ◌||◌, List, [], ◌∷◌, ltb, eqb, if◌then◌else◌}
use Rattle.model.specs.declared.Counts.{Counts}
use Rattle.model.specs.Counts.{is_process}
use Rattle.model_laws.specs.Tables.{Lists, members_of}
use Rattle.model_laws.specs.Now.{current}
use Rattle.sheet.specs.Accepted.{operand_base}

-- the first of a list, none if it is empty
abbrev pub first_in : List ℕ → ℕ
first_in [] = 0
first_in (x ∷ l) = x

-- "the first member of head h that is a process, or none"
abbrev pub first_process : Counts → List ℕ → ℕ
first_process c [] = 0
first_process c (x ∷ l) = if is_process c x then x else first_process c l

-- "in operations 9, 10 and 11": cancel, activate and reactivate, whose operands are processes
abbrev pub takes_process : ℕ → Bool
takes_process op = eqb op 9 || (eqb op 10 || eqb op 11)

-- "in operations 9, 10 and 11, an operand 65,536 + h means the first member of head h that is a process, or none. Elsewhere it means the
-- first member as before"; l are the members of head h
abbrev pub member_meant : Counts → ℕ → List ℕ → ℕ
member_meant c op l = if takes_process op then first_process c l else first_in l

-- "An operand is 0 to N, or 65,536 for current, or 65,536 + h, h from 1 to H, for the first member of head h (none if empty)", the member
-- as the operation op has it
unfoldable pub operand_of : Counts → ℕ → Lists → ℕ → ℕ
operand_of c op l v =
    if ltb v operand_base then v
    else if eqb v operand_base then current l
    else member_meant c op (members_of l.sets (v - operand_base))
