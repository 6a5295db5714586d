-- What the code of a step's call computes: the tables and words after it, and what it means for the process that makes it.
use Rattle.std.specs.Prelude.{ℕ, ◌≡◌, Bool, true, false, ◌&&◌, List, eqb, ℤ, if◌then◌else◌, Ok, Err, Result}
use Rattle.std.proofs.Common.{sym, ap}
use Rattle.ring_laws.specs.Lists.{clash}
use Rattle.model.specs.declared.Counts.{Counts}
use Rattle.model.specs.declared.Refusal.{Refusal}
use Rattle.model.specs.Counts.{is_head}
use Rattle.model.specs.Answers.{Answered}
use Rattle.model.specs.declared.answer.Answer.TheVariants.{Done, Linkage, Number, Truth}
use Rattle.model.specs.Answers.{Verdict}
use Rattle.model_laws.specs.Tables.{Tables}
use Rattle.simset_laws.specs.Procedures.{empty_of}
use Rattle.simset_laws.specs.Calls.{told_if}
use Rattle.sheet.specs.declared.records.Record.{Record}
use Rattle.machine.specs.Calls.{ListCall, on_set, hold, passivate, wait, cancel, activate, if_empty, finish, Call, on_list, accum}
use Rattle.run_laws.specs.OnTables.{operand_with, carried_out}
use Rattle.run_laws.specs.declared.Effect.{Effect}
use Rattle.run_laws.specs.declared.Effect.TheVariants.{Stays, Jumps, Moves, Apart}
use Rattle.run_laws.specs.Run.{Turned, On, Off, resolved, call_due}

-- what a step's call means, or why it is turned down
abbrev pub Meant : Type 0
Meant = Result Effect Refusal

-- the process goes on at y
abbrev pub jumping : ℕ → Meant
jumping y = Ok (Jumps y)

-- a call that is no sequencing call leaves the first notice
abbrev pub list_effect : ListCall → Meant
list_effect (on_set k) = Ok Stays
list_effect (hold t) = Ok Moves
list_effect passivate = Ok Moves
list_effect (wait y) = Ok Moves
list_effect (cancel x) = Ok Moves
list_effect (activate again k x y t) = Ok Moves
list_effect (if_empty x) = Ok Stays
list_effect finish = Ok Moves

abbrev pub call_effect : Call → Meant
call_effect (on_list k) = list_effect k
call_effect (accum k d) = Ok Stays

-- there is no third kind
pub stays_or_moves : (P : Meant → Type 0) → P (Ok Stays) → P (Ok Moves) → (k : Call) → P (call_effect k)
stays_or_moves P s m (on_list (on_set k)) = s
stays_or_moves P s m (on_list (hold t)) = m
stays_or_moves P s m (on_list passivate) = m
stays_or_moves P s m (on_list (wait y)) = m
stays_or_moves P s m (on_list (cancel x)) = m
stays_or_moves P s m (on_list (activate again k x y t)) = m
stays_or_moves P s m (on_list (if_empty x)) = s
stays_or_moves P s m (on_list finish) = m
stays_or_moves P s m (accum k d) = s

-- "or to y when 12 finds the head empty"
unfoldable pub effect_of : Call → Record → Bool → Meant
effect_of k q none = if eqb q.operation 12 && none then jumping q.y else call_effect k

abbrev pub unless_refused : Answered → Meant → Meant
unless_refused (Ok a) e = e
unless_refused (Err r) e = Err r

-- 12 by itself: refusal 3 where x is no head
abbrev pub branched : Counts → Record → ℕ → List ℕ → Meant
branched c q f links =
    let x = operand_with c false links f q.x in
    unless_refused (told_if (is_head c x) (Ok Done)) (if empty_of x links then jumping q.y else (Ok Stays))

pub record Performed : Type 0 where
  pub tables : Tables
  pub words : List ℤ
  pub effect : Meant

-- a function that is lent no accumulators leaves these tables and comes to this, whatever the words are
abbrev pub Leaves : (List ℤ → Performed) → Tables → Meant → Type 0
Leaves made t e = (w : List ℤ) → record { tables = t; words = w; effect = e } ≡ made w

-- the call of a record, or of the one that stands for finish, where current is at place f
unfoldable pub performed : Counts → Record → ℕ → Tables → List ℤ → Performed
performed c q f t w =
    let d = resolved c t.links f q in
    let a = carried_out c (call_due d) t w in
    record { tables = a.tables; words = a.words; effect = unless_refused a.answer (effect_of (call_due d) q (empty_of d.x t.links)) }

-- whether it was refused
abbrev pub verdict_by : Meant → Verdict
verdict_by (Ok e) = Ok tt
verdict_by (Err r) = Err r

-- where the process goes, by the record's next; no call that was made is Apart
abbrev pub turned_by : Meant → ℕ → Turned
turned_by (Ok Stays) next = On next
turned_by (Ok (Jumps y)) next = On y
turned_by (Ok Moves) next = On next
turned_by (Err r) next = Off r
turned_by (Ok Apart) next = On next

-- the record where it then is
abbrev pub goes_to : Meant → ℕ → ℕ
goes_to (Ok Stays) next = next
goes_to (Ok (Jumps y)) next = y
goes_to (Ok Moves) next = next
goes_to (Err r) next = next
goes_to (Ok Apart) next = next

pub turned_to : (e : Meant) (next n : ℕ) → (Ok tt) ≡ verdict_by e → n ≡ goes_to e next → turned_by e next ≡ On n
turned_to (Ok Stays) next n h g = ap On (sym g)
turned_to (Ok (Jumps y)) next n h g = ap On (sym g)
turned_to (Ok Moves) next n h g = ap On (sym g)
turned_to (Err r) next n h g = let y : false ≡ true = cc in clash y
turned_to (Ok Apart) next n h g = ap On (sym g)

pub refused_of : (e : Meant) (x : Refusal) → Err x ≡ verdict_by e → e ≡ Err x
refused_of (Ok e) x h = let y : false ≡ true = cc in clash y
refused_of (Err r) x h = let y : r ≡ x = cc in ap Err y
