-- A stretch of turns: while a process stays current its position is kept beside the tables, and is put there when the stretch ends.
use Rattle.std.specs.Prelude.{ℕ, ◌+◌, ◌*◌, ◌-◌, ◌/◌, ◌≤◌, ◌<◌, ◌≡◌, refl, ◌≢◌, Bool, true, false, ◌&&◌, List, eqb, length, get_or, set, Err}
use Rattle.std.proofs.Common.{sym, ap, subst, ◌∙◌, arith, length-set, set-set, ne_eqb}
use Rattle.ring_laws.specs.Lists.{clash}
use Rattle.model.specs.declared.Counts.{Counts}
use Rattle.model.specs.declared.Refusal.{Refusal}
use Rattle.model.specs.Counts.{linkage_at}
use Rattle.model_laws.specs.Now.{half, first_of}
use Rattle.simset_laws.specs.BoundLaws.{Linking}
use Rattle.sheet.specs.declared.records.Record.{Record}
use Rattle.sheet.specs.Sheet.{record_offset}
use Rattle.trace.specs.Fits.{past_last}
use Rattle.trace.specs.Lines.{put, line_bytes}
use Rattle.machine.specs.declared.End.TheVariants.{Refused as Ended}
use Rattle.machine.specs.Run.{line_size, trace_limit}
use Rattle.run_laws.specs.declared.Pause.TheVariants.{Refused as Stopped}
use Rattle.run_laws.specs.Run.{RunTables, run_of, On, record_got, ends_now, RanOn, stopped_on, turns_on}
use Rattle.run_laws.specs.Performed.{Performed, performed, turned_by}
use Rattle.run_laws.specs.Tried.{tried, is_apart}
use Rattle.run_laws.proofs.Tried.{left_0, made_of, not_left}
use Rattle.run_laws.specs.Paused.{Paused}
use Rattle.run_laws.specs.Needs.{Performable}
use Rattle.run_laws.specs.Reads.{got_end}
use Rattle.run_laws.specs.Standing.{Standing, linking, place_in, positions_length, number_in}
use Rattle.run_laws.specs.StepIs.{Went, stayed}
use Rattle.run_laws.specs.Turning.{Turning, SameLengths, same_lengths}
use Rattle.run_laws.specs.Counting.{Counting}
use Rattle.run_laws.proofs.Counting.{counting_start, room_left, counting_on}
use Rattle.run_laws.specs.Running.{positioned, as_positioned, here_positioned}
use Rattle.run_laws.proofs.Running.{callable, ends, turned_down_lem, goes_on, moved_on_lem}
use Rattle.run_laws.proofs.Running.{stays_here}
use Rattle.run_laws.specs.Stretching.{Stretching}

pub stretching_start : (c : Counts) (bytes : List ℕ) (end stop at : ℕ) (u : RunTables) (tr : List ℕ) (f time r : ℕ) → Standing c bytes u
    → length tr ≤ trace_limit → at ≡ line_size * (at / line_size) → at ≤ end → end ≤ length tr → stop ≡ past_last end
    → f ≡ first_of (half c) u.model.axis → time ≡ get_or u.model.times f 0 → r ≡ get_or u.positions f 0
    → Stretching c bytes end stop (at / line_size) (turns_on c bytes (at / line_size) (end / line_size - at / line_size) u tr) u tr at f time r
    u tr
stretching_start c bytes end stop at u tr f time r s l p h g e ef et er =
    record {
      counting =
          subst (λ (v : RunTables). Counting c bytes end stop at (turns_on c bytes (at / line_size) (end / line_size - at / line_size) u tr)
          u tr v tr)
          (as_positioned u f r er)
          (counting_start c bytes end stop at (end / line_size - at / line_size) u tr s l g (omega (arith, p, h)) p e);
      here = here_positioned c u f time r ef et er;
      begun = omega arith;
    }

module _ (c : Counts) (bytes : List ℕ) (end stop n₀ : ℕ) (whole : RanOn) (u₀ : RunTables) (tr₀ : List ℕ) (at f time r : ℕ) (u : RunTables)
    (tr : List ℕ)
    (s : Stretching c bytes end stop n₀ whole u₀ tr₀ at f time r u tr) where
  abbrev room : ℕ
  room = end / line_size

  abbrev n : ℕ
  n = at / line_size

  t : Turning c bytes room n whole u₀ tr₀ (positioned u f r) tr
  t = s.counting.turning

  pub its_call_lem : r ≢ 0 → Performable c bytes (record_offset c.processes r) f time u.model u.words
  its_call_lem = callable c bytes room n whole u₀ tr₀ (positioned u f r) tr t f time r s.here

  pub its_linking : Linking c u.model.links
  its_linking = linking c bytes (positioned u f r) t.stands

  pub in_table : f < length u.positions
  in_table =
      omega (
        arith,
        length-set u.positions f r,
        positions_length c bytes (positioned u f r) t.stands,
        place_in c bytes (positioned u f r) t.stands f s.here.place_is,
      )

  pub lengths : SameLengths u₀ u
  lengths =
      let e = same_lengths c bytes u₀ (positioned u f r) t.begun t.stands in
      record {
        links_same = e.links_same;
        axis_same = e.axis_same;
        times_same = e.times_same;
        marks_same = e.marks_same;
        positions_same = sym (length-set u.positions f r) ∙ e.positions_same;
        words_same = e.words_same;
      }

  pub its_number : c.heads + f < 4294967296
  its_number = number_in c bytes (positioned u f r) t.stands f s.here.place_is

  left : at < stop → n < room
  left = room_left c bytes end stop at whole u₀ tr₀ (positioned u f r) tr s.counting

  -- ---- a call that was made here

  module _ (h : at < stop) (p : Performed) (known : Bool)
      (is : p ≡ tried c (record_got c.processes bytes r) f u.model u.words known)
      (m : is_apart p.effect ≡ false) where
    made : p ≡ performed c (record_got c.processes bytes r) f u.model u.words
    made = made_of c (record_got c.processes bytes r) f u.model u.words known p is m

    -- main at position 0 is met apart
    unfinished : ends_now c u.model.axis (set u.positions f r) ≡ false
    unfinished =
        sym (ends c bytes room n whole u₀ tr₀ (positioned u f r) tr t f time r s.here (eqb r 0 && eqb f 1) refl)
        ∙ rw (ne_eqb r 0 some) refl
      where
        some : r ≢ 0
        some e =
            let z = left_0 c (record_got c.processes bytes r) f u.model.links known (ap (λ (q : Record). q.operation)
            (sym (got_end c.processes bytes r e))) in
            let y : true ≡ false = sym z ∙ not_left c (record_got c.processes bytes r) f u.model u.words known p is m in
            clash (sym y)

    pub stopped : (x : Refusal) → p.effect ≡ Err x → (ps : List ℕ) → ps ≡ set u.positions f r
        → Paused c bytes room n₀ whole tr₀ (run_of p.tables ps p.words) tr (record { at = at; pause = Stopped x })
    stopped x e ps eps =
        record {
          stands = λ z. clash z;
          size = t.size;
          more = s.begun;
          few = t.few;
          place = s.counting.place;
          left = λ k q.
              ap (λ (l : List ℕ). stopped_on n (Ended x) (run_of p.tables l p.words) tr) eps
              ∙ turned_down_lem c bytes room n whole u₀ tr₀ (positioned u f r) tr t f time r s.here (left h)
              unfinished p made n refl x e;
          full = λ z. clash z;
          due = λ z. clash z;
        }

    module _ (next : ℕ) (v : turned_by p.effect (record_got c.processes bytes r).next ≡ On next) (tr' : List ℕ)
        (z : length tr' ≡ length tr) where
      abbrev after : List ℕ → RunTables
      after ps = run_of p.tables ps p.words

      turned : (ps : List ℕ) → Went c f time r (line_size * n) next (set u.positions f r) tr ps tr'
          → Counting c bytes end stop (at + line_size) whole u₀ tr₀ (after ps) tr'
      turned ps g =
          counting_on c bytes end stop at whole u₀ tr₀ (positioned u f r) tr s.counting (after ps) tr'
          (goes_on c bytes room n whole u₀ tr₀ (positioned u f r) tr t f time r s.here (left h) unfinished
          p made next v ps tr' g z)

      -- the process stays current, and its position is kept beside the table
      pub stays : stayed p.effect ≡ true → tr' ≡ put tr at (line_bytes time (linkage_at c f) r)
          → Stretching c bytes end stop n₀ whole u₀ tr₀ (at + line_size) f time next (after u.positions) tr'
      stays st w =
          record {
            counting = turned (set u.positions f next) went;
            here =
                stays_here c bytes room n whole u₀ tr₀ (positioned u f r) tr t f time r s.here (left h)
                unfinished p made next v
                (set u.positions f next) tr' went st;
            begun = omega (arith, s.begun);
          }
        where
          went : Went c f time r (line_size * n) next (set u.positions f r) tr (set u.positions f next) tr'
          went = record {
            positions = sym (set-set u.positions f r next);
            trace = w ∙ ap (λ (j : ℕ). put tr j (line_bytes time (linkage_at c f) r)) s.counting.place;
          }

      -- another may be current
      module _ (ps : List ℕ) (g : Went c f time r at next u.positions tr ps tr') where
        went : Went c f time r (line_size * n) next (set u.positions f r) tr ps tr'
        went =
            record {
              positions = g.positions ∙ sym (set-set u.positions f r next);
              trace = g.trace ∙ ap (λ (j : ℕ). put tr j (line_bytes time (linkage_at c f) r)) s.counting.place;
            }

        pub stands_on : Standing c bytes (after ps)
        stands_on = (turned ps went).turning.stands

        pub next_kept : next ≡ get_or ps f 0
        next_kept =
            moved_on_lem c bytes room n whole u₀ tr₀ (positioned u f r) tr t f time r s.here (left h)
            unfinished p made next v ps tr' went

        pub moves : (f' time' r' : ℕ) → f' ≡ first_of (half c) p.tables.axis → time' ≡ get_or p.tables.times f' 0 → r' ≡ get_or ps f' 0
            → Stretching c bytes end stop n₀ whole u₀ tr₀ (at + line_size) f' time' r' (after ps) tr'
        moves f' time' r' ef et er =
            record {
              counting = subst (λ (x : RunTables). Counting c bytes end stop (at + line_size) whole u₀ tr₀ x tr')
                  (as_positioned (after ps) f' r' er) (turned ps went);
              here = here_positioned c (after ps) f' time' r' ef et er;
              begun = omega (arith, s.begun);
            }
