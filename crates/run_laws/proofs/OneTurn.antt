-- One turn as a whole: what its code leaves is `turn_on`, and what that makes of the turns that are left.
use Rattle.std.specs.Prelude.{ℕ, ◌+◌, ◌*◌, ◌<◌, ◌≡◌, refl, ◌≢◌, Bool, true, false, ◌&&◌, List, eqb, length, get_or, Ok, Err}
use Rattle.std.proofs.Common.{sym, ap, ◌∙◌, subst}
use Rattle.ring_laws.specs.Lists.{test, clash}
use Rattle.model.specs.declared.Counts.{Counts}
use Rattle.model.specs.declared.Refusal.{Refusal}
use Rattle.model_laws.specs.Now.{half, first_of}
use Rattle.sheet.specs.Sheet.{record_offset}
use Rattle.machine.specs.declared.End.TheVariants.{Finished, Refused as Ended}
use Rattle.machine.specs.Run.{line_size}
use Rattle.run_laws.specs.declared.Turn.TheVariants.{Finished as AtEnd, Made}
use Rattle.run_laws.specs.Run.{RunTables, run_of, Stepped, record_got, record_at_now, step_on, ends_now, TurnedOn, turn_by, Taken}
use Rattle.run_laws.specs.Run.{turn_on, RanOn, stopped_on}
use Rattle.run_laws.specs.Performed.{Performed, performed, verdict_by, goes_to, turned_to, refused_of}
use Rattle.run_laws.specs.Tried.{apart}
use Rattle.run_laws.specs.Needs.{Performable}
use Rattle.run_laws.proofs.ReadsLaws.{ends_at}
use Rattle.run_laws.specs.Standing.{Standing, its_step}
use Rattle.run_laws.specs.StepIs.{Went}
use Rattle.run_laws.proofs.StepIs.{step_off, step_on_lem}
use Rattle.run_laws.specs.Turning.{Turning}
use Rattle.run_laws.proofs.Turning.{turning_on, step_refused, in_finished}
use Rattle.run_laws.specs.Running.{Here, here_at}
-- ---- what the code of a turn leaves, with current's place f, time and record r read off the tables
use Rattle.run_laws.specs.OneTurn.{made_on, off_by, no_end}

module _ (c : Counts) (bytes : List ℕ) (u : RunTables) (s : Standing c bytes u)
    (f : ℕ) (ef : f ≡ first_of (half c) u.model.axis) (r : ℕ) (er : r ≡ get_or u.positions f 0) where
  at : (time : ℕ) → time ≡ get_or u.model.times f 0 → Here c u f time r
  at time et = here_at c u f time r ef et er

  pub turn_callable : (time : ℕ) → time ≡ get_or u.model.times f 0 → r ≢ 0
      → Performable c bytes (record_offset c.processes r) f time u.model u.words
  turn_callable time et = its_step c bytes u s f ef r (at time et).record_is time (at time et).time_is

  -- its call is the one that is due
  pub turn_apart : apart (record_got c.processes bytes (record_at_now c u)) ≡ true → apart (record_got c.processes bytes r) ≡ true
  turn_apart a = ap (λ (j : ℕ). apart (record_got c.processes bytes j)) (at (get_or u.model.times f 0) refl).record_is ∙ a

  module _ (i : ℕ) (tr : List ℕ) (b : Bool) (eb : b ≡ (eqb r 0 && eqb f 1)) where
    ends : b ≡ ends_now c u.model.axis u.positions
    ends = ends_at c u.model.axis u.positions f ef r b er eb

    pub turn_finished : b ≡ true → record { run = u; trace = tr; turn = (Ok AtEnd) } ≡ turn_on c bytes i u tr
    unfolding turn_on
    turn_finished q = rw (sym ends ∙ q)

    module _ (q : b ≡ false) (time : ℕ) (et : time ≡ get_or u.model.times f 0)
        (p : Performed) (ep : p ≡ performed c (record_got c.processes bytes r) f u.model u.words) where
      by_step : (o : Stepped) → o ≡ step_on c bytes i u tr
          → record { run = o.run; trace = o.trace; turn = turn_by o.turned } ≡ turn_on c bytes i u tr
      unfolding turn_on
      by_step o eo =
          rw (sym ends ∙ q) (ap (λ (z : Stepped). record { run = z.run; trace = z.trace; turn = turn_by z.turned }) eo)

      pub turn_refused : (x : Refusal) → Err x ≡ verdict_by p.effect
          → record { run = run_of p.tables u.positions p.words; trace = tr; turn = Err x } ≡ turn_on c bytes i u tr
      turn_refused x v =
          by_step _ (step_off c bytes i u tr f ef r (at time et).record_is time (at time et).time_is p ep x (refused_of p.effect x v))

      pub turn_made : (Ok tt) ≡ verdict_by p.effect → (to next : ℕ) → to ≡ (record_got c.processes bytes r).next
          → next ≡ goes_to p.effect to
          → (ps tr' : List ℕ) → Went c f time r i next u.positions tr ps tr'
          → record { run = run_of p.tables ps p.words; trace = tr'; turn = (Ok Made) } ≡ turn_on c bytes i u tr
      turn_made v to next eto en ps tr' w =
          by_step _ (step_on_lem c bytes i u tr f ef r (at time et).record_is time (at time et).time_is p ep next
          (turned_to p.effect (record_got c.processes bytes r).next next v (en ∙ ap (goes_to p.effect) eto)) ps tr' w)

module _ (c : Counts) (bytes : List ℕ) (room n : ℕ) (whole : RanOn) (u₀ : RunTables) (tr₀ : List ℕ) (u : RunTables) (tr : List ℕ)
    (t : Turning c bytes room n whole u₀ tr₀ u tr)
    (h : n < room) (i : ℕ) (place : i ≡ line_size * n) (o : TurnedOn) (is : o ≡ turn_on c bytes i u tr) where
  eo : o ≡ turn_on c bytes (line_size * n) u tr
  eo = is ∙ ap (λ (j : ℕ). turn_on c bytes j u tr) place

  abbrev ended : Bool
  ended = ends_now c u.model.axis u.positions

  abbrev s : Stepped
  s = step_on c bytes (line_size * n) u tr

  at_end_lem : ended ≡ true → o ≡ record { run = u; trace = tr; turn = (Ok AtEnd) }
  unfolding turn_on
  at_end_lem e = rw e at eo

  at_step : ended ≡ false → o ≡ record { run = s.run; trace = s.trace; turn = turn_by s.turned }
  unfolding turn_on
  at_step e = rw e at eo

  turn_at : ended ≡ false → o.turn ≡ turn_by s.turned
  turn_at e = ap (λ (z : TurnedOn). z.turn) (at_step e)

  pub turned_finished : (k : ℕ) → k ≡ n → o.turn ≡ (Ok AtEnd) → stopped_on k Finished o.run o.trace ≡ whole
  turned_finished k ek v =
      test ended
      (λ e. ap (λ (z : TurnedOn). stopped_on k Finished z.run z.trace) (at_end_lem e)
      ∙ in_finished c bytes room n whole u₀ tr₀ u tr t h k ek e)
      (λ e. clash (no_end s.turned (sym (turn_at e) ∙ v)))

  pub turned_refused : (k : ℕ) → k ≡ n → (x : Refusal) → o.turn ≡ Err x → stopped_on k (Ended x) o.run o.trace ≡ whole
  turned_refused k ek x v =
      test ended
      (λ e. let z : false ≡ true = other (sym (ap (λ (z : TurnedOn). z.turn) (at_end_lem e)) ∙ v) in clash z)
      (λ e.
      ap (λ (z : TurnedOn). stopped_on k (Ended x) z.run z.trace) (at_step e)
      ∙ step_refused c bytes room n whole u₀ tr₀ u tr t h e s refl k ek x (off_by s.turned x (sym (turn_at e) ∙ v)))
    where
      other : (Ok AtEnd) ≡ Err x → false ≡ true
      other e = cc

  pub turned_made : o.turn ≡ (Ok Made) → length o.trace ≡ length tr → Turning c bytes room (n + 1) whole u₀ tr₀ o.run o.trace
  turned_made v z =
      test ended
      (λ e. let y : false ≡ true = other (sym (ap (λ (z : TurnedOn). z.turn) (at_end_lem e)) ∙ v) in clash y)
      (λ e.
      made_on s.turned (sym (turn_at e) ∙ v) (Turning c bytes room (n + 1) whole u₀ tr₀ o.run o.trace)
      (λ next q.
      subst (λ (k : TurnedOn). Turning c bytes room (n + 1) whole u₀ tr₀ k.run k.trace) (sym (at_step e))
      (turning_on c bytes room n whole u₀ tr₀ u tr t h e s refl next q (sym (ap (λ (k : TurnedOn). length k.trace) (at_step e)) ∙ z))))
    where
      other : ◌≡◌ {A = Taken} (Ok AtEnd) (Ok Made) → false ≡ true
      other e = cc
