-- The loop's variables: current's place, time and record beside the tables, and what a step makes of them.
use Rattle.std.specs.Prelude.{ℕ, ◌+◌, ◌*◌, ◌<◌, ◌≡◌, refl, ◌≢◌, Bool, true, false, ◌&&◌, List, eqb, length, get_or, Err}
use Rattle.std.proofs.Common.{sym, ap, ◌∙◌}
use Rattle.model.specs.declared.Counts.{Counts}
use Rattle.model.specs.declared.Refusal.{Refusal}
use Rattle.model_laws.specs.Now.{half, time_of, first_of}
use Rattle.sheet.specs.Sheet.{record_offset}
use Rattle.machine.specs.declared.End.TheVariants.{Refused}
use Rattle.machine.specs.Run.{line_size}
use Rattle.run_laws.specs.Run.{RunTables, run_of, On, Off, Stepped, record_got, step_on, ends_now, RanOn, stopped_on}
use Rattle.run_laws.specs.Performed.{Performed, performed, turned_by}
use Rattle.run_laws.specs.Needs.{Performable}
use Rattle.run_laws.proofs.ReadsLaws.{ends_at}
use Rattle.run_laws.specs.Standing.{its_step}
use Rattle.run_laws.specs.StepIs.{Went, stayed}
use Rattle.run_laws.proofs.StepIs.{step_off, step_on_lem, step_stays}
use Rattle.run_laws.specs.Turning.{Turning}
use Rattle.run_laws.proofs.Turning.{turning_on, turning_at, step_refused}
use Rattle.run_laws.specs.Running.{Here}

module _ (c : Counts) (bytes : List ℕ) (room n : ℕ) (whole : RanOn) (u₀ : RunTables) (tr₀ : List ℕ) (u : RunTables) (tr : List ℕ)
    (t : Turning c bytes room n whole u₀ tr₀ u tr)
    (f time r : ℕ) (at : Here c u f time r) where
  pub callable : r ≢ 0 → Performable c bytes (record_offset c.processes r) f time u.model u.words
  callable = its_step c bytes u t.stands f at.place_is r at.record_is time at.time_is

  pub ends : (b : Bool) → b ≡ (eqb r 0 && eqb f 1) → b ≡ ends_now c u.model.axis u.positions
  ends b = ends_at c u.model.axis u.positions f at.place_is r b
      (at.record_is ∙ ap (λ (j : ℕ). get_or u.positions j 0) (sym at.place_is))

  module _ (h : n < room) (e : ends_now c u.model.axis u.positions ≡ false)
      (p : Performed) (ep : p ≡ performed c (record_got c.processes bytes r) f u.model u.words) where
    pub turned_down_lem : (k : ℕ) → k ≡ n → (x : Refusal) → p.effect ≡ Err x
        → stopped_on k (Refused x) (run_of p.tables u.positions p.words) tr ≡ whole
    turned_down_lem k ek x ex =
        step_refused c bytes room n whole u₀ tr₀ u tr t h e
        (record { run = run_of p.tables u.positions p.words; trace = tr; turned = Off x })
        (step_off c bytes (line_size * n) u tr f at.place_is r at.record_is time at.time_is p ep x ex) k ek x refl

    module _ (next : ℕ) (v : turned_by p.effect (record_got c.processes bytes r).next ≡ On next)
        (ps tr' : List ℕ) (g : Went c f time r (line_size * n) next u.positions tr ps tr') where
      abbrev u' : RunTables
      u' = run_of p.tables ps p.words

      abbrev o : Stepped
      o = record { run = u'; trace = tr'; turned = On next }

      by_step : o ≡ step_on c bytes (line_size * n) u tr
      by_step = step_on_lem c bytes (line_size * n) u tr f at.place_is r at.record_is time at.time_is p ep next v ps tr' g

      pub goes_on : length tr' ≡ length tr → Turning c bytes room (n + 1) whole u₀ tr₀ u' tr'
      goes_on z = turning_on c bytes room n whole u₀ tr₀ u tr t h e o by_step next refl z

      -- the process is at next
      pub moved_on_lem : next ≡ get_or ps f 0
      moved_on_lem = turning_at c bytes room n whole u₀ tr₀ u tr t h e o by_step next f refl at.place_is

      -- and stays current
      pub stays_here : stayed p.effect ≡ true → Here c u' f time next
      stays_here s =
          let k = step_stays c bytes (line_size * n) u tr f at.place_is r at.record_is time at.time_is p ep s in
          let now : f ≡ first_of (half c) p.tables.axis = at.place_is ∙ ap (first_of (half c)) (sym k.0) in
          record {
            place_is = now;
            time_is = at.time_is ∙ ap (time_of (half c) u.model.axis) (sym k.1)
                ∙ ap (λ (l : List ℕ). time_of (half c) l p.tables.times) (sym k.0);
            record_is = moved_on_lem ∙ ap (λ (j : ℕ). get_or ps j 0) now;
          }
