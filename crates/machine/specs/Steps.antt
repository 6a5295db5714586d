-- One step: the call it makes, where the stepping process goes, and the line.
use Rattle.std.specs.Prelude.{ℕ, ◌-◌, Bool, true, false, ◌&&◌, eqb, pos, get_or, if◌then◌else◌}
use Rattle.model.specs.declared.Counts.{Counts}
use Rattle.model.specs.declared.call.SetCall.TheVariants.{Out, Follow, Precede, Into, Clear}
use Rattle.model_laws.specs.Tables.{Lists, members_of}
use Rattle.model_laws.specs.Result.{done, refused, Result}
use Rattle.model_laws.specs.Now.{time, current}
use Rattle.simset_laws.specs.Sets.{no_links}
use Rattle.sheet.specs.declared.records.Record.{Record}
use Rattle.sheet.specs.Sheet.{Sheet}
use Rattle.machine.specs.declared.End.{End}
use Rattle.machine.specs.declared.End.TheVariants.{Refused}
use Rattle.machine.specs.Machine.{Machine, position_of, with_position}
use Rattle.machine.specs.Operands.{operand_of}
use Rattle.machine.specs.Calls.{on_set, hold, passivate, wait, cancel, activate, if_empty, finish, Call, on_list, accum, perform}

-- the call of a record whose operands are x and y; "in 13, x is 1 to 64", and such a number stands for itself
unfoldable pub call_of : Record → ℕ → ℕ → Call
call_of q x y =
    let op = q.operation in
    if eqb op 1 then on_list (on_set (Out x))
    else if eqb op 2 then on_list (on_set (Follow x y))
    else if eqb op 3 then on_list (on_set (Precede x y))
    else if eqb op 4 then on_list (on_set (Into x y))
    else if eqb op 5 then on_list (on_set (Clear x))
    else if eqb op 6 then on_list (hold q.t)
    else if eqb op 7 then on_list passivate
    else if eqb op 8 then on_list (wait y)
    else if eqb op 9 then on_list (cancel x)
    else if eqb op 10 then on_list (activate false q.clause x y q.t)
    else if eqb op 11 then on_list (activate true q.clause x y q.t)
    else if eqb op 12 then on_list (if_empty x)
    else accum x q.t

-- "The stepping process moves to next, or to y when 12 finds the head empty"
unfoldable pub next_of : Record → Bool → ℕ
next_of q none = if eqb q.operation 12 && none then q.y else q.next

-- ---- the machine's step

-- record r, numbered from 1
abbrev pub record_of : Sheet → ℕ → Record
record_of s r = get_or s.records (r - 1) (record { next = 0; operation = 0; clause = 0; x = 0; y = 0; t = pos 0 })

-- the record that current is at; 0 if it is at its end
abbrev pub record_now : Sheet → Machine → ℕ
record_now s m = position_of s.counts m (current m.lists)

-- what v, which is x or y of record q, means
abbrev pub its_operand : Counts → Record → Lists → ℕ → ℕ
its_operand c q l v = operand_of c q.operation l v

abbrev pub its_call : Counts → Record → Lists → Call
its_call c q l = call_of q (its_operand c q l q.x) (its_operand c q l q.y)

abbrev pub its_next : Counts → Record → Lists → ℕ
its_next c q l = next_of q (no_links (members_of l.sets (its_operand c q l q.x)))

-- "one step: the record's call, or finish at position 0"; a finish leaves the position at 0
unfoldable pub call_now : Sheet → Machine → Call
call_now s m = if eqb (record_now s m) 0 then on_list finish else its_call s.counts (record_of s (record_now s m)) m.lists

unfoldable pub next_now : Sheet → Machine → ℕ
next_now s m = if eqb (record_now s m) 0 then 0 else its_next s.counts (record_of s (record_now s m)) m.lists

-- "An accepted step writes time (64 bits), process (32) and record (32) as they were before it"
pub record Line : Type 0 where
  pub time : ℕ
  pub process : ℕ
  pub rec : ℕ

abbrev pub line_now : Sheet → Machine → Line
line_now s m = record { time = time m.lists; process = current m.lists; rec = record_now s m }

-- what a turn comes to: the run ends, or it writes a line and goes on
pub data Turn : Type 0 where
  ended : End → Turn
  stepped : Line → Machine → Turn

-- what an accepted step does to the machine beside its call, k being the machine after it: "The stepping process moves to next, or to y
-- when 12 finds the head empty"
abbrev pub moved_on : Sheet → Machine → Machine → Machine
moved_on s m k = with_position s.counts k (current m.lists) (next_now s m)

-- "A refused step changes nothing and ends the call"
abbrev pub moving : Sheet → Machine → Result Machine → Turn
moving s m (refused r) = ended (Refused r)
moving s m (done k) = stepped (line_now s m) (moved_on s m k)

unfoldable pub step : Sheet → Machine → Turn
step s m = moving s m (perform s.counts (call_now s m) m)
