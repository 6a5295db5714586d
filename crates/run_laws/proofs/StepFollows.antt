-- The step, whole: its call and its next are the machine's, and so is what it leaves.
use Rattle.std.specs.Prelude.{ℕ, zero, suc, ◌+◌, ◌-◌, ◌≤◌, ◌<◌, ◌≡◌, true, false, List, ◌∷◌, ℤ}
use Rattle.std.proofs.Math.Path.{refl, sym, ap, subst}
use Rattle.std.proofs.Common.{◌∙◌, arith}
use Rattle.std.proofs.Math.Dec.{eqb}
use Rattle.std.proofs.Math.ListN.{length, set, length-set}
use borrow.Author.Tests.{eqb-false}
use Rattle.ring_laws.specs.Lists.{test, clash}
use Rattle.model.specs.declared.Counts.{Counts}
use Rattle.model.specs.declared.Refusal.TheVariants.{Operand}
use Rattle.model.specs.Counts.{main, is_head}
use Rattle.model.specs.Answers.{Answered}
use Rattle.model_laws.specs.Tables.{Tables, Lists, Spells}
use Rattle.model_laws.specs.Now.{current, half, first_of}
use Rattle.model_laws.specs.Result.{done, refused, Result}
use Rattle.accum_laws.specs.Triples.{flat}
use Rattle.sheet.specs.declared.records.Record.{Record}
use Rattle.sheet.specs.Sheet.{counts_of, records_of, record_with, Sheet, sheet_of}
use Rattle.sheet.specs.Accepted.{accepted}
use Rattle.sheet.specs.Ranges.{records_listed}
use Rattle.trace.specs.Lines.{put}
use Rattle.machine.specs.Machine.{Machine}
use Rattle.machine.specs.Calls.{if_empty, Call, on_list, lists_after, perform}
use Rattle.machine.specs.Steps.{its_operand, call_of, next_of, record_of, record_now, its_call, its_next, call_now, next_now, line_now, moved_on}
use Rattle.machine_laws.specs.TurnCases.{Then}
use Rattle.run_laws.specs.OnTables.{Carried, carried_out}
use Rattle.run_laws.specs.PerformFollows.{FollowsRun}
use Rattle.run_laws.proofs.PerformFollows.{perform_follows}
use Rattle.run_laws.specs.MachineTurns.{perform_sizes, next_in_lem, set_in}
use Rattle.run_laws.specs.MachineLaws.{accepted_range}
use Rattle.run_laws.specs.Run.{RunTables, run_of, Turned, On, Off, record_got, resolved, call_due, turned_of, Stepped, moved, record_at_now}
use Rattle.run_laws.specs.Run.{due_in, line_in, step_on}
use Rattle.run_laws.specs.Standing.{Stands, ready, now_in}
use Rattle.run_laws.specs.Refine.{bytes_of}
use Rattle.run_laws.proofs.Refine.{stood, fit, current_is, record_is, line_is, list_after, some_call, some_next}

-- an accepted 12 has a head
head_done : (c : Counts) (x : ℕ) (m k : Machine) → perform c (on_list (if_empty x)) m ≡ done k → is_head c x ≡ true
unfolding perform lists_after
head_done c x m k e = test (is_head c x) (λ h. h) (λ h. let z : refused Operand ≡ done k = rw h at e in let y : false ≡ true = cc in clash y)

module _ (bytes : List ℕ) (ok : accepted bytes ≡ true) (m : Machine) (u : RunTables)
    (g : Stands (counts_of bytes) (records_of bytes) m u) where
  abbrev c : Counts
  c = counts_of bytes

  abbrev s : Sheet
  s = sheet_of bytes

  abbrev l : Lists
  l = m.lists

  abbrev r : ℕ
  r = record_at_now (counts_of bytes) u

  most : r ≤ records_of bytes
  most = now_in c bytes u (stood bytes ok m u g)

  at : r ≡ record_now s m
  at = record_is bytes ok m u g

  call_is : call_due (due_in c bytes u) ≡ call_now s m
  unfolding record_got call_due call_now resolved sheet_of
  call_is =
      test (eqb r 0)
      (λ z. rw (z, sym (ap (λ (n : ℕ). eqb n 0) at) ∙ z) refl)
      (λ z. rw (z, sym (ap (λ (n : ℕ). eqb n 0) at) ∙ z)
      (some_call bytes ok m u g r at (eqb-false r 0 z) most
      ∙ ap (λ (q : Record). its_call c q l) (sym (list_after bytes ok m u g r at (eqb-false r 0 z) most))))

  next_is : (k : Machine) → perform c (call_now s m) m ≡ done k → (due_in c bytes u).next ≡ next_now s m
  unfolding record_got call_now next_now resolved next_of call_of sheet_of
  next_is k e =
      test (eqb r 0)
      (λ z. rw (z, sym (ap (λ (n : ℕ). eqb n 0) at) ∙ z) refl)
      (λ z.
      let n = eqb-false r 0 z in
      let q : Record = record_with c.processes bytes r in
      let same : record_of s (record_now s m) ≡ q = list_after bytes ok m u g r at n most in
      let made : perform c (its_call c q l) m ≡ done k =
      ap (λ (p : Record). perform c (its_call c p l) m) (sym same) ∙ (rw (sym (ap (λ (j : ℕ). eqb j 0) at) ∙ z) at e) in
      rw (z, sym (ap (λ (n : ℕ). eqb n 0) at) ∙ z)
      (some_next bytes ok m u g r at n most
      (λ o. head_done c (its_operand c q l q.x) m k (ap (λ (call : Call). perform c call m) (sym (twelve q o)) ∙ made))
      ∙ ap (λ (p : Record). its_next c p l) (sym same)))
    where
      twelve : (q : Record) → q.operation ≡ 12 → its_call c q l ≡ on_list (if_empty (its_operand c q l q.x))
      twelve q o = rw o

  -- ---- what it leaves

  abbrev pub StepIs : Result Machine → List ℕ → ℕ → Stepped → Type 0
  StepIs (refused q) tr i o = (o.turned ≡ Off q) × (o.run ≡ u) × (o.trace ≡ tr)
  StepIs (done k) tr i o =
      (o.turned ≡ On (due_in c bytes u).next) × Stands c (records_of bytes) (moved_on s m k) o.run
      × (o.trace ≡ put tr i (bytes_of (line_now s m)))

  abbrev f : ℕ
  f = first_of (half (counts_of bytes)) u.model.axis

  -- place f in the table is the stepping process in the machine's list
  set_is : (ps : List ℕ) (v : ℕ) → ps ≡ m.positions → set u.positions f v ≡ 0 ∷ set ps (current l - main c) v
  set_is ps v e =
      ap (λ (k : List ℕ). set k f v) g.positions
      ∙ go f (ready c bytes u (stood bytes ok m u g)).first_some (current_is bytes ok m u g)
      ∙ ap (λ (k : List ℕ). 0 ∷ set k (current l - main c) v) (sym e)
    where
      go : (p : ℕ) → 0 < p → c.heads + p ≡ current l → set (0 ∷ m.positions) p v ≡ 0 ∷ set m.positions (current l - main c) v
      go zero a q = absurd (no a)
        where
          no : 0 < 0 → ⊥
          no z = omega arith
      go (suc i) a q = ap (λ (j : ℕ). 0 ∷ set m.positions j v) (omega arith)

  stands_next : (k : Machine) → perform c (call_now s m) m ≡ done k → (t : Tables) (w : List ℤ) → Spells c k.lists t
      → w ≡ flat k.triples
      → Stands c (records_of bytes) (moved_on s m k)
      (run_of t (set u.positions f (due_in c bytes u).next) w)
  unfolding sheet_of
  stands_next k e t w sp ew =
      let z : (k.positions ≡ m.positions) × (length k.triples ≡ length m.triples) =
      subst (Then (λ n. (n.positions ≡ m.positions) × (length n.triples ≡ length m.triples))) e (perform_sizes c (call_now s m) m) in
      record {
        model = sp;
        positions = set_is k.positions (due_in c bytes u).next z.0
            ∙ ap (λ (v : ℕ). 0 ∷ set k.positions (current l - main c) v) (next_is k e);
        words = ew;
        positions_all = length-set k.positions _ _ ∙ ap length z.0 ∙ g.positions_all;
        positions_in = set_in k.positions _ _ (records_of bytes) (rw z.0 g.positions_in) in_sheet;
        triples_all = z.1 ∙ g.triples_all;
      }
    where
      in_sheet : next_now s m ≤ records_of bytes
      in_sheet =
          let R : length s.records ≡ records_of bytes = records_listed bytes in
          subst (λ (n : ℕ). next_now s m ≤ n) R
          (next_in_lem s (accepted_range bytes ok) m (subst (λ (n : ℕ). record_now s m ≤ n) (sym R)
          (subst (λ (n : ℕ). n ≤ records_of bytes) at most)))

  pub step_follows : (tr : List ℕ) (i : ℕ) → StepIs (perform c (call_now s m) m) tr i (step_on c bytes i u tr)
  unfolding step_on turned_of
  step_follows tr i =
      subst (λ (a : Carried). StepIs (perform c (call_now s m) m) tr i
      (moved (turned_of a.answer (due_in c bytes u).next) a u.positions f tr i (line_in c u)))
      (sym (ap (λ (call : Call). carried_out c call u.model u.words) call_is ∙ ap (carried_out c (call_now s m) u.model) g.words))
      (go (perform c (call_now s m) m) refl (perform_follows c m u.model (fit bytes ok m u g) g.model (call_now s m)))
    where
      go : (r : Result Machine) → perform c (call_now s m) m ≡ r
          → FollowsRun c u.model (flat m.triples) r (carried_out c (call_now s m) u.model (flat m.triples))
          → StepIs r tr i (moved (turned_of (carried_out c (call_now s m) u.model (flat m.triples)).answer (due_in c bytes u).next)
          (carried_out c (call_now s m) u.model (flat m.triples)) u.positions f tr i (line_in c u))
      go (refused q) e w =
          subst (λ (v : Turned). StepIs (refused q) tr i (moved v (carried_out c (call_now s m) u.model (flat m.triples)) u.positions
          f tr i (line_in c u)))
          (sym (ap (λ (a : Answered). turned_of a (due_in c bytes u).next) w.0))
          (refl, (λ j. run_of (w.1 j) u.positions ((w.2 ∙ sym g.words) j)), refl)
      go (done k) e w =
          subst (λ (v : Turned). StepIs (done k) tr i (moved v (carried_out c (call_now s m) u.model (flat m.triples)) u.positions f
          tr i (line_in c u)))
          (sym (ap (λ (a : Answered). turned_of a (due_in c bytes u).next) w.0))
          (refl, stands_next k e _ _ w.1 w.2, ap (put tr i) (line_is bytes ok m u g))
