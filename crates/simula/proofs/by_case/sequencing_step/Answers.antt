use Prim.Native.Nat.{ℕ}
use mathlib.Core.Bool.{true, false}
use mathlib.Core.List.{List}
use lib.IntN.{ℤ}
use Rattle.simulation_laws.specs.Procedures.{Sqs}
use Rattle.simulation_laws.specs.Calls.{passivate_step, cancel_step, finish_step, wait_step, hold_step, timed_step}
use Rattle.simulation_laws.specs.ReadPromise.{on_sqs_lem, on_signed, on_marks_lem, on_sets_lem}
use Rattle.simulation_laws.specs.PublicLaws.{call_as}
use borrow.Author.Rules.{rules}
use Rattle.simula.proofs.by_case.sequencing_step.Goals as goal

pub returns-in-Hold : goal.returns-in-Hold
returns-in-Hold c = call_as _ _ _ _ _ c.in-Hold.is (on_signed _ _ _ _ _ _ _ _ c.in-Hold.t (record { sfits = (search rules) }) (λ (z : ℤ) (k : List ℕ) (a : Sqs). hold_step c.args.c z a) c.hold.ensures)

pub returns-in-Passivate : goal.returns-in-Passivate
returns-in-Passivate c = call_as _ _ _ _ _ c.in-Passivate.is (on_sqs_lem _ _ _ _ _ _ _ _ (λ (k : List ℕ) (a : Sqs). passivate_step c.args.c a) c.passivate.ensures)

pub returns-in-Wait : goal.returns-in-Wait
returns-in-Wait c = call_as _ _ _ _ _ c.in-Wait.is (on_sets_lem _ _ _ _ _ _ _ _ _ (λ (k : List ℕ) (a : Sqs). wait_step c.args.c c.in-Wait.y k a) c.wait.ensures)

pub returns-in-Cancel : goal.returns-in-Cancel
returns-in-Cancel c = call_as _ _ _ _ _ c.in-Cancel.is (on_sqs_lem _ _ _ _ _ _ _ _ (λ (k : List ℕ) (a : Sqs). cancel_step c.args.c c.in-Cancel.x a) c.cancel.ensures)

pub returns-in-Activate : goal.returns-in-Activate
returns-in-Activate c = call_as _ _ _ _ _ c.in-Activate.is (on_signed _ _ _ _ _ _ _ _ c.in-Activate.t (record { sfits = (search rules) }) (λ (z : ℤ) (k : List ℕ) (a : Sqs). timed_step c.args.c false c.in-Activate.clause c.in-Activate.x c.in-Activate.y z k a) c.activate.ensures)

pub returns-in-Reactivate : goal.returns-in-Reactivate
returns-in-Reactivate c = call_as _ _ _ _ _ c.in-Reactivate.is (on_signed _ _ _ _ _ _ _ _ c.in-Reactivate.t (record { sfits = (search rules) }) (λ (z : ℤ) (k : List ℕ) (a : Sqs). timed_step c.args.c true c.in-Reactivate.clause c.in-Reactivate.x c.in-Reactivate.y z k a) c.activate-in-Reactivate.ensures)

pub returns-in-Finish : goal.returns-in-Finish
returns-in-Finish c = call_as _ _ _ _ _ c.in-Finish.is (on_marks_lem _ _ _ _ _ _ _ _ _ (λ (k : List ℕ) (a : Sqs). finish_step c.args.c k a) c.finish.ensures)
