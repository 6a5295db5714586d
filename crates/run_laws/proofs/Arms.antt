-- Each arm of the match over operations: what its function leaves, and what that means for current, is what the record's call comes to.
use Rattle.std.specs.Prelude.{ℕ, ◌+◌, ◌≤◌, ◌≡◌, ◌≢◌, true, false, List, ℤ, pos, eqb, if◌then◌else◌, Ok}
use Rattle.std.proofs.Math.Path.{refl, sym, ap}
use Rattle.std.proofs.Common.{◌∙◌, arith, ne_eqb}
use Rattle.model.specs.declared.Counts.{Counts}
use Rattle.model.specs.Counts.{total, is_head}
use Rattle.model.specs.Answers.{Answered}
use Rattle.model.specs.declared.answer.Answer.TheVariants.{Done}
use Rattle.model.specs.declared.call.SetCall.{SetCall}
use Rattle.model.specs.declared.call.SetCall.TheVariants.{Out, Follow, Precede, Into, Clear}
use Rattle.model_laws.specs.Tables.{Tables, After, model_of}
use Rattle.model_laws.specs.Now.{time_of, half}
use Rattle.simset_laws.specs.Procedures.{empty_of}
use Rattle.simset_laws.specs.Calls.{Linked, told_if, out_step, follow_step, precede_step, into_step, clear_step}
use Rattle.simset_laws.specs.Promise.{Moved}
use Rattle.simset_laws.specs.Plain.{links_after}
use Rattle.simulation_laws.specs.Promise.{sqs, Answers}
use Rattle.simulation_laws.specs.StepPromise.{FinishMade, WaitMade}
use Rattle.simulation_laws.specs.ReadPromise.{on_sqs_lem, on_marks_lem, on_sets_lem}
use Rattle.simulation_laws.specs.Calls.{hold_step, passivate_step, cancel_step, timed_step, finish_step, wait_step}
use Rattle.accum_laws.specs.Flat.{Changed, updated_in}
use Rattle.sheet.specs.declared.records.Record.{Record}
use Rattle.machine.specs.Calls.{ListCall, on_set, hold, passivate, wait, cancel, activate, if_empty, finish, Call, on_list, accum}
use Rattle.run_laws.specs.OnTables.{operand_with, tables_after, Carried, carried_out}
use Rattle.run_laws.specs.declared.Effect.TheVariants.{Stays, Jumps, Moves}
use Rattle.run_laws.specs.Run.{record_operand, resolved, call_due}
use Rattle.run_laws.specs.Performed.{Meant, list_effect, call_effect, effect_of, unless_refused, branched, performed}
use Rattle.run_laws.specs.Walking.{at_hand_lem}
use Rattle.run_laws.specs.Tried.{at_hand}
use Rattle.run_laws.proofs.Which as which
use Rattle.run_laws.specs.Arms.{direct, delayed}

module _ (c : Counts) (q : Record) (f : ℕ) (links axis times marks : List ℕ) (w : List ℤ) where
  abbrev t : Tables
  t = model_of links axis times marks

  -- what x and y mean where the operation takes no process, where it takes one, and what x means in this operation
  abbrev x : ℕ
  x = operand_with c false links f q.x

  abbrev y : ℕ
  y = operand_with c false links f q.y

  abbrev x_process : ℕ
  x_process = operand_with c true links f q.x

  abbrev y_process : ℕ
  y_process = operand_with c true links f q.y

  abbrev its_x : ℕ
  its_x = record_operand c links f q q.x

  abbrev due : Call
  due = call_due (resolved c links f q)

  -- ---- by what the call carries out

  by : (k : Call) → due ≡ k → (e : Meant) → e ≡ effect_of k q (empty_of its_x links) → (a : Carried) → a ≡ carried_out c k t w
      → (v : Meant) → v ≡ unless_refused a.answer e → record { tables = a.tables; words = a.words; effect = v } ≡ performed c q f t w
  unfolding performed resolved
  by k ek e ee a ea v ev =
      ap (λ (z : Meant). record { tables = a.tables; words = a.words; effect = z }) (ev ∙ ap (unless_refused a.answer) ee)
      ∙ ap (λ (o : Carried). record {
        tables = o.tables;
        words = o.words;
        effect = unless_refused o.answer (effect_of k q (empty_of its_x links));
      }) ea
      ∙ sym (ap (λ (j : Call). let o = carried_out c j t w in
      record { tables = o.tables; words = o.words; effect = unless_refused o.answer (effect_of j q (empty_of its_x links)) }) ek)

  -- an operation other than 12
  plain : (n : ℕ) → q.operation ≡ n → n ≢ 12 → (k : Call) → call_effect k ≡ effect_of k q (empty_of its_x links)
  unfolding effect_of
  plain n e z k = rw (ne_eqb q.operation 12 (λ o. z (sym e ∙ o)))

  module _ (n : ℕ) (o : q.operation ≡ n) (z : n ≢ 12) (r : Answered) (v : Meant) where
    list_by : (k : ListCall) → due ≡ on_list k → (b : Tables) → record { tables = b; answer = r } ≡ tables_after c k t
        → v ≡ unless_refused r (list_effect k)
        → record { tables = b; words = w; effect = v } ≡ performed c q f t w
    unfolding carried_out
    list_by k ek b ea ev =
        by (on_list k) ek (list_effect k) (plain n o z (on_list k)) (record { tables = b; words = w; answer = r })
        (ap (λ (a : After Answered). record { tables = a.tables; words = w; answer = a.answer }) ea) v ev

    set_by : (k : SetCall) → due ≡ on_list (on_set k) → (l : List ℕ)
        → Moved (total c + 1) (links_after c k links) (record { links = l; answer = r })
        → v ≡ unless_refused r (Ok Stays) → record { tables = model_of l axis times marks; words = w; effect = v } ≡ performed c q f t w
    unfolding tables_after
    set_by k ek l m ev =
        list_by (on_set k) ek (model_of l axis times marks)
        (ap (λ (b : Linked). record { tables = model_of b.links axis times marks; answer = b.answer }) m.is) ev

  -- ---- the arms

  module _ (r : Answered) (v : Meant) where
    module _ (l : List ℕ) (ev : v ≡ unless_refused r (Ok Stays)) where
      abbrev Sets : Type 0
      Sets = record { tables = model_of l axis times marks; words = w; effect = v } ≡ performed c q f t w

      pub arm_1 : q.operation ≡ 1 → Moved (total c + 1) (out_step c x links) (record { links = l; answer = r }) → Sets
      arm_1 e m = set_by 1 e (λ z. omega arith) r v (Out x) (which.call_1 c links f q e) l m ev

      pub arm_2 : q.operation ≡ 2 → Moved (total c + 1) (follow_step c x y links) (record { links = l; answer = r }) → Sets
      arm_2 e m = set_by 2 e (λ z. omega arith) r v (Follow x y) (which.call_2 c links f q e) l m ev

      pub arm_3 : q.operation ≡ 3 → Moved (total c + 1) (precede_step c x y links) (record { links = l; answer = r }) → Sets
      arm_3 e m = set_by 3 e (λ z. omega arith) r v (Precede x y) (which.call_3 c links f q e) l m ev

      pub arm_4 : q.operation ≡ 4 → Moved (total c + 1) (into_step c x y links) (record { links = l; answer = r }) → Sets
      arm_4 e m = set_by 4 e (λ z. omega arith) r v (Into x y) (which.call_4 c links f q e) l m ev

      pub arm_5 : q.operation ≡ 5 → Moved (total c + 1) (clear_step c x links) (record { links = l; answer = r }) → Sets
      arm_5 e m = set_by 5 e (λ z. omega arith) r v (Clear x) (which.call_5 c links f q e) l m ev

    module _ (a u : List ℕ) (ev : v ≡ unless_refused r (Ok Moves)) where
      abbrev Axis : Type 0
      Axis = record { tables = model_of links a u marks; words = w; effect = v } ≡ performed c q f t w

      pub arm_6 : q.operation ≡ 6 → Answers (half c) (hold_step c q.t (sqs axis times)) a u r → Axis
      unfolding tables_after
      arm_6 e k =
          list_by 6 e (λ z. omega arith) r v (hold q.t) (which.call_6 c links f q e) _
          (on_sqs_lem (half c) links axis times marks a u r (λ m s. hold_step c q.t s) k) ev

      pub arm_7 : q.operation ≡ 7 → Answers (half c) (passivate_step c (sqs axis times)) a u r → Axis
      unfolding tables_after
      arm_7 e k =
          list_by 7 e (λ z. omega arith) r v passivate (which.call_7 c links f q e) _
          (on_sqs_lem (half c) links axis times marks a u r (λ m s. passivate_step c s) k) ev

      pub arm_8 : (l : List ℕ) → q.operation ≡ 8 → WaitMade c (wait_step c y links (sqs axis times)) l a u r
          → record { tables = model_of l a u marks; words = w; effect = v } ≡ performed c q f t w
      unfolding tables_after
      arm_8 l e k =
          list_by 8 e (λ z. omega arith) r v (wait y) (which.call_8 c links f q e) _
          (on_sets_lem c links axis times marks a u l r (λ n s. wait_step c y n s) k) ev

      pub arm_9 : q.operation ≡ 9 → Answers (half c) (cancel_step c x_process (sqs axis times)) a u r → Axis
      unfolding tables_after
      arm_9 e k =
          list_by 9 e (λ z. omega arith) r v (cancel x_process) (which.call_9 c links f q e) _
          (on_sqs_lem (half c) links axis times marks a u r (λ m s. cancel_step c x_process s) k) ev

      -- 10 and 11
      pub arm_timed : 10 ≤ q.operation → q.operation ≤ 11
          → Answers (half c) (timed_step c (eqb q.operation 11) q.clause x_process y_process q.t marks (sqs axis times)) a u r → Axis
      unfolding tables_after
      arm_timed lo hi k =
          list_by q.operation refl (λ z. omega arith) r v (activate (eqb q.operation 11) q.clause x_process y_process q.t)
          (which.call_timed c links f q lo hi) _
          (on_sqs_lem (half c) links axis times marks a u r (λ m s. timed_step c (eqb q.operation 11) q.clause x_process y_process q.t m s) k) ev

      -- by the operation that the code has read
      pub arm_timed_as : (o : ℕ) → o ≡ q.operation → 10 ≤ q.operation → q.operation ≤ 11
          → Answers (half c) (timed_step c (eqb o 11) q.clause x_process y_process q.t marks (sqs axis times)) a u r → Axis
      arm_timed_as o e lo hi k = arm_timed lo hi (rw e at k)

      -- 10 where x is at hand; with no clause, which uses neither y nor t
      pub arm_10 : q.operation ≡ 10 → q.clause ≡ 0 → at_hand c q f links ≡ true
          → Answers (half c) (timed_step c false 0 x 0 (pos 0) marks (sqs axis times)) a u r → Axis
      arm_10 e z h k =
          arm_timed (omega arith) (omega arith)
          (rw (e, z, at_hand_lem c links f q.x h, ← (direct c x y_process q.t marks (sqs axis times))) k)

      -- and after a delay
      pub arm_delay : q.operation ≡ 10 → q.clause ≡ 2 → at_hand c q f links ≡ true
          → Answers (half c) (timed_step c false 2 x 0 q.t marks (sqs axis times)) a u r → Axis
      arm_delay e z h k =
          arm_timed (omega arith) (omega arith)
          (rw (e, z, at_hand_lem c links f q.x h, ← (delayed c x y_process q.t marks (sqs axis times))) k)

      -- finish, at position 0
      pub arm_0 : (ms : List ℕ) → q.operation ≡ 0 → FinishMade c (finish_step c marks (sqs axis times)) a u ms r
          → record { tables = model_of links a u ms; words = w; effect = v } ≡ performed c q f t w
      unfolding tables_after
      arm_0 ms e k =
          list_by 0 e (λ z. omega arith) r v finish (which.call_0 c links f q e) _
          (on_marks_lem c links axis times marks a u ms r (λ n s. finish_step c n s) k) ev

    pub arm_13 : q.operation ≡ 13 → q.x ≤ 64 → (now : ℕ) → now ≡ time_of (half c) axis times → (u : List ℤ)
        → record { words = u; answer = r } ≡ updated_in q.x now q.t w
        → v ≡ unless_refused r (Ok Stays) → record { tables = t; words = u; effect = v } ≡ performed c q f t w
    unfolding carried_out
    arm_13 e l now i u m ev =
        by (accum q.x q.t) (which.call_13 c links f q e l) (Ok Stays) (plain 13 e (λ z. omega arith) (accum q.x q.t))
        (record { tables = t; words = u; answer = r })
        (ap (λ (b : Changed). record { tables = t; words = b.words; answer = b.answer })
        (m ∙ ap (λ (j : ℕ). updated_in q.x j q.t w) i)) v ev

  pub arm_12 : q.operation ≡ 12 → (v : Meant) → v ≡ branched c q f links
      → record { tables = t; words = w; effect = v } ≡ performed c q f t w
  unfolding carried_out tables_after effect_of
  arm_12 e v ev =
      by (on_list (if_empty x)) (which.call_12 c links f q e) (if empty_of x links then Ok (Jumps q.y) else (Ok Stays))
      (rw e)
      (record { tables = t; words = w; answer = told_if (is_head c x) (Ok Done) }) refl v ev
