-- What the step's code leaves, from what its call came to.
use Rattle.std.specs.Prelude.{ℕ, ◌≡◌, Bool, true, ◌&&◌, List, eqb, set, if◌then◌else◌, Ok, Err}
use Rattle.std.proofs.Math.Path.{refl, sym, ap}
use Rattle.std.proofs.Common.{◌∙◌, eqb-true}
use Rattle.ring_laws.specs.Lists.{test, clash}
use Rattle.model.specs.declared.Counts.{Counts}
use Rattle.model.specs.declared.Refusal.{Refusal}
use Rattle.model.specs.Counts.{linkage_at, both}
use Rattle.model.specs.Answers.{Answered}
use Rattle.model.specs.declared.answer.Answer.TheVariants.{Done, Linkage, Number, Truth}
use Rattle.model_laws.specs.Now.{half, time_of, first_of}
use Rattle.simset_laws.specs.Procedures.{empty_of}
use Rattle.sheet.specs.declared.records.Record.{Record}
use Rattle.trace.specs.Lines.{put, line_bytes}
use Rattle.machine.specs.Calls.{Call}
use Rattle.machine.specs.Steps.{next_of}
use Rattle.run_laws.specs.OnTables.{Carried, carried_out}
use Rattle.run_laws.specs.declared.Effect.TheVariants.{Jumps}
use Rattle.run_laws.specs.Run.{RunTables, run_of, Turned, On, Off, record_got, resolved, call_due, turned_of, moved, record_at_now, due_in}
use Rattle.run_laws.specs.Run.{line_in, step_on}
use Rattle.run_laws.specs.Performed.{Meant, call_effect, stays_or_moves, effect_of, unless_refused, Performed, performed, turned_by}
use Rattle.run_laws.proofs.Which.{call_12}
use Rattle.run_laws.specs.StepIs.{Went, stayed, keeps}

-- ---- where the process goes

module _ (k : Call) (q : Record) (none : Bool) where
  goes_on : On (next_of q none) ≡ turned_by (effect_of k q none) q.next
  unfolding next_of effect_of
  goes_on =
      test (eqb q.operation 12 && none)
      (λ e. rw e refl)
      (λ e. rw e (stays_or_moves (λ (v : Meant). On q.next ≡ turned_by v q.next) refl refl k))

  turned_is : (a : Answered) → turned_of a (next_of q none) ≡ turned_by (unless_refused a (effect_of k q none)) q.next
  unfolding turned_of
  turned_is (Ok a) = goes_on
  turned_is (Err r) = refl

-- 12 stays
still : (k : Call) (q : Record) (none : Bool) → (q.operation ≡ 12 → stayed (call_effect k) ≡ true) → (a : Answered)
    → stayed (unless_refused a (effect_of k q none)) ≡ true → stayed (call_effect k) ≡ true
unfolding effect_of
still k q none twelve = go
  where
    on : stayed (if eqb q.operation 12 && none then Ok (Jumps q.y) else call_effect k) ≡ true → stayed (call_effect k) ≡ true
    on e =
        test (eqb q.operation 12 && none)
        (λ b. twelve (eqb-true q.operation 12 (both (eqb q.operation 12) none b).0))
        (λ b. rw b at e)

    go : (a : Answered) → stayed (unless_refused a (if eqb q.operation 12 && none then Ok (Jumps q.y) else call_effect k)) ≡ true
        → stayed (call_effect k) ≡ true
    go (Ok a) e = on e
    go (Err r) e = clash e

module _
    (c : Counts) (bytes : List ℕ) (i : ℕ) (u : RunTables) (tr : List ℕ)
    (f : ℕ) (ef : f ≡ first_of (half c) u.model.axis)
    (r : ℕ) (er : r ≡ record_at_now c u)
    (time : ℕ) (et : time ≡ time_of (half c) u.model.axis u.model.times)
    (p : Performed) (ep : p ≡ performed c (record_got c.processes bytes r) f u.model u.words) where
  abbrev q : Record
  q = record_got c.processes bytes (record_at_now c u)

  abbrev k : Call
  k = call_due (due_in c bytes u)

  abbrev a : Carried
  a = carried_out c k u.model u.words

  abbrev none : Bool
  none = empty_of (due_in c bytes u).x u.model.links

  same : p ≡ record { tables = a.tables; words = a.words; effect = unless_refused a.answer (effect_of k q none) }
  unfolding performed
  same =
      ep ∙ ap (λ (n : ℕ). performed c (record_got c.processes bytes n) f u.model u.words) er
      ∙ ap (λ (n : ℕ). performed c q n u.model u.words) ef

  line_is : line_bytes time (linkage_at c f) r ≡ line_in c u
  line_is =
      ap (λ (n : ℕ). line_bytes n (linkage_at c f) r) et
      ∙ ap (λ (n : ℕ). line_bytes (time_of (half c) u.model.axis u.model.times) (linkage_at c n) r) ef
      ∙ ap (λ (n : ℕ). line_bytes (time_of (half c) u.model.axis u.model.times) (linkage_at c (first_of (half c) u.model.axis)) n)
      er

  abbrev carried : Performed → Carried
  carried o = record { tables = o.tables; words = o.words; answer = a.answer }

  step_is : (v : Turned) → turned_by p.effect q.next ≡ v
      → moved v (carried p) u.positions (first_of (half c) u.model.axis) tr i (line_in c u) ≡ step_on c bytes i u tr
  unfolding step_on resolved
  step_is v e =
      ap (λ (x : Turned). moved x (carried p) u.positions (first_of (half c) u.model.axis) tr i (line_in c u))
      (sym e ∙ ap (λ (o : Performed). turned_by o.effect q.next) same ∙ sym (turned_is k q none a.answer))
      ∙ ap (λ (o : Performed). moved (turned_of a.answer (next_of q none)) (carried o) u.positions (first_of (half c) u.model.axis)
      tr i (line_in c u)) same

  pub step_off : (x : Refusal) → p.effect ≡ Err x
      → record { run = run_of p.tables u.positions p.words; trace = tr; turned = Off x } ≡ step_on c bytes i u tr
  step_off x e = step_is (Off x) (ap (λ (v : Meant). turned_by v q.next) e)

  pub step_on_lem : (next : ℕ) → turned_by p.effect (record_got c.processes bytes r).next ≡ On next → (ps tr' : List ℕ)
      → Went c f time r i next u.positions tr ps tr'
      → record { run = run_of p.tables ps p.words; trace = tr'; turned = On next } ≡ step_on c bytes i u tr
  step_on_lem next e ps tr' g =
      ap (λ (l : List ℕ). record { run = run_of p.tables l p.words; trace = tr'; turned = On next })
      (g.positions ∙ ap (λ (n : ℕ). set u.positions n next) ef)
      ∙ ap (λ (l : List ℕ). record {
        run = run_of p.tables (set u.positions (first_of (half c) u.model.axis) next) p.words;
        trace = l;
        turned = On next;
      })
      (g.trace ∙ ap (put tr i) line_is)
      ∙ step_is (On next) (sym (ap (λ (n : ℕ). turned_by p.effect (record_got c.processes bytes n).next) er) ∙ e)

  -- current and its time are as they were
  pub step_stays : stayed p.effect ≡ true → (p.tables.axis ≡ u.model.axis) × (p.tables.times ≡ u.model.times)
  unfolding resolved
  step_stays e =
      let z = keeps c u.model u.words k
      (still k q none
      (λ o. ap (λ (j : Call). stayed (call_effect j)) (call_12 c u.model.links (first_of (half c) u.model.axis) q o))
      a.answer (sym (ap (λ (o : Performed). stayed o.effect) same) ∙ e)) in
      (ap (λ (o : Performed). o.tables.axis) same ∙ z.0, ap (λ (o : Performed). o.tables.times) same ∙ z.1)
