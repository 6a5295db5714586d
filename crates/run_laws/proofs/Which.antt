-- Which call a record's operation is, with its operands resolved.
use Rattle.std.specs.Prelude.{ℕ, ◌≤◌, ◌≡◌, ◌≢◌, true, false, List, eqb}
use Rattle.std.proofs.Common.{sym, ◌∙◌}
use native.Mathlib.Omega.{arith}
use borrow.Author.Tests.{eq-eqb, ne_eqb, lt-ltb}
use Rattle.ring_laws.specs.Lists.{decide}
use Rattle.model.specs.declared.Counts.{Counts}
use Rattle.model.specs.declared.call.SetCall.TheVariants.{Out, Follow, Precede, Into, Clear}
use Rattle.sheet.specs.declared.records.Record.{Record}
use Rattle.sheet.specs.Accepted.{operand_base}
use Rattle.machine.specs.Calls.{on_set, hold, passivate, wait, cancel, activate, if_empty, finish, Call, on_list, accum}
use Rattle.machine.specs.Steps.{call_of}
use Rattle.run_laws.specs.OnTables.{operand_with}
use Rattle.run_laws.specs.Run.{record_operand, resolved, call_due}

module _ (c : Counts) (links : List ℕ) (f : ℕ) (q : Record) where
  -- what x and y mean where the operation takes no process, and where it takes one
  abbrev x : ℕ
  x = operand_with c false links f q.x

  abbrev y : ℕ
  y = operand_with c false links f q.y

  abbrev x_process : ℕ
  x_process = operand_with c true links f q.x

  abbrev y_process : ℕ
  y_process = operand_with c true links f q.y

  abbrev due : Call
  due = call_due (resolved c links f q)

  some : (n : ℕ) → q.operation ≡ n → n ≢ 0 → due ≡ call_of q (record_operand c links f q q.x) (record_operand c links f q q.y)
  unfolding call_due resolved call_of
  some n e z = rw (ne_eqb q.operation 0 (λ o. z (sym e ∙ o)))

  pub call_0 : q.operation ≡ 0 → due ≡ on_list finish
  unfolding call_due resolved
  call_0 e = rw (eq-eqb q.operation 0 e)

  pub call_1 : q.operation ≡ 1 → due ≡ on_list (on_set (Out x))
  unfolding call_of
  call_1 e = some 1 e (λ z. omega arith) ∙ (rw e)

  pub call_2 : q.operation ≡ 2 → due ≡ on_list (on_set (Follow x y))
  unfolding call_of
  call_2 e = some 2 e (λ z. omega arith) ∙ (rw e)

  pub call_3 : q.operation ≡ 3 → due ≡ on_list (on_set (Precede x y))
  unfolding call_of
  call_3 e = some 3 e (λ z. omega arith) ∙ (rw e)

  pub call_4 : q.operation ≡ 4 → due ≡ on_list (on_set (Into x y))
  unfolding call_of
  call_4 e = some 4 e (λ z. omega arith) ∙ (rw e)

  pub call_5 : q.operation ≡ 5 → due ≡ on_list (on_set (Clear x))
  unfolding call_of
  call_5 e = some 5 e (λ z. omega arith) ∙ (rw e)

  pub call_6 : q.operation ≡ 6 → due ≡ on_list (hold q.t)
  unfolding call_of
  call_6 e = some 6 e (λ z. omega arith) ∙ (rw e)

  pub call_7 : q.operation ≡ 7 → due ≡ on_list passivate
  unfolding call_of
  call_7 e = some 7 e (λ z. omega arith) ∙ (rw e)

  pub call_8 : q.operation ≡ 8 → due ≡ on_list (wait y)
  unfolding call_of
  call_8 e = some 8 e (λ z. omega arith) ∙ (rw e)

  pub call_9 : q.operation ≡ 9 → due ≡ on_list (cancel x_process)
  unfolding call_of
  call_9 e = some 9 e (λ z. omega arith) ∙ (rw e)

  -- 10 and 11
  pub call_timed : 10 ≤ q.operation → q.operation ≤ 11
      → due ≡ on_list (activate (eqb q.operation 11) q.clause x_process y_process q.t)
  unfolding call_of
  call_timed l m =
      decide q.operation 10
      (λ e. some 10 e (λ z. omega arith) ∙ (rw e))
      (λ n. let e : q.operation ≡ 11 = omega arith in some 11 e (λ z. omega arith) ∙ (rw e))

  pub call_12 : q.operation ≡ 12 → due ≡ on_list (if_empty x)
  unfolding call_of
  call_12 e = some 12 e (λ z. omega arith) ∙ (rw e)

  -- "in 13, x is 1 to 64": it stands for itself
  pub call_13 : q.operation ≡ 13 → q.x ≤ 64 → due ≡ accum q.x q.t
  unfolding call_of operand_with
  call_13 e l = some 13 e (λ z. omega arith) ∙ (rw (e, lt-ltb q.x operand_base (omega arith)))
