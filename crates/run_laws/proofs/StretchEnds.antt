-- The end of a stretch of turns, where the position goes to the table: there is no room for a line, or the call is made apart.
use Rattle.std.specs.Prelude.{ℕ, ◌/◌, ◌≤◌, ◌<◌, ◌≡◌, Bool, true, List, ℤ, set}
use Rattle.std.proofs.Common.{sym, ap, subst, ◌∙◌}
use Rattle.ring_laws.specs.Lists.{clash}
use Rattle.model.specs.declared.Counts.{Counts}
use Rattle.model_laws.specs.Tables.{Tables}
use Rattle.machine.specs.Run.{line_size}
use Rattle.run_laws.specs.declared.Pause.TheVariants.{Full, Apart}
use Rattle.run_laws.specs.Run.{RunTables, run_of, record_got, RanOn}
use Rattle.run_laws.specs.Performed.{Performed}
use Rattle.run_laws.specs.Tried.{apart, tried, is_apart}
use Rattle.run_laws.proofs.Tried.{left_of_lem}
use Rattle.run_laws.specs.Paused.{Paused}
use Rattle.run_laws.specs.Running.{positioned}
use Rattle.run_laws.proofs.Counting.{room_left, no_room}
use Rattle.run_laws.specs.Stretching.{Stretching}

module _ (c : Counts) (bytes : List ℕ) (end stop n₀ : ℕ) (whole : RanOn) (u₀ : RunTables) (tr₀ : List ℕ) (at f time r : ℕ) (u : RunTables)
    (tr : List ℕ)
    (s : Stretching c bytes end stop n₀ whole u₀ tr₀ at f time r u tr) where
  abbrev room : ℕ
  room = end / line_size

  -- where no line fits
  pub fills : stop ≤ at → (ps : List ℕ) → ps ≡ set u.positions f r
      → Paused c bytes room n₀ whole tr₀ (run_of u.model ps u.words) tr (record { at = at; pause = Full })
  fills l ps eps =
      subst (λ (l : List ℕ). Paused c bytes room n₀ whole tr₀ (run_of u.model l u.words) tr (record { at = at; pause = Full }))
      (sym eps)
      (record {
        stands = λ z. s.counting.turning.stands;
        size = s.counting.turning.size;
        more = s.begun;
        few = s.counting.turning.few;
        place = s.counting.place;
        left = s.counting.turning.same;
        full = λ z. no_room c bytes end stop at whole u₀ tr₀ (positioned u f r) tr s.counting l;
        due = λ z. clash z;
      })

  -- and before a call that is made apart
  module _ (h : at < stop) (p : Performed) (known : Bool)
      (is : p ≡ tried c (record_got c.processes bytes r) f u.model u.words known)
      (m : is_apart p.effect ≡ true) where
    pub waits : (ps : List ℕ) → ps ≡ set u.positions f r
        → Paused c bytes room n₀ whole tr₀ (run_of p.tables ps p.words) tr (record { at = at; pause = Apart })
    waits ps eps =
        let d = left_of_lem c (record_got c.processes bytes r) f u.model u.words known p is m in
        let same : positioned u f r ≡ run_of p.tables ps p.words =
        ap (λ (t : Tables). run_of t (set u.positions f r) u.words) (sym d.1)
        ∙ ap (λ (w : List ℤ). run_of p.tables (set u.positions f r) w) (sym d.2)
        ∙ ap (λ (l : List ℕ). run_of p.tables l p.words) (sym eps) in
        subst (λ (v : RunTables). Paused c bytes room n₀ whole tr₀ v tr (record { at = at; pause = Apart })) same
        (record {
          stands = λ z. s.counting.turning.stands;
          size = s.counting.turning.size;
          more = s.begun;
          few = s.counting.turning.few;
          place = s.counting.place;
          left = s.counting.turning.same;
          full = λ z. clash z;
          due = λ z. (
            room_left c bytes end stop at whole u₀ tr₀ (positioned u f r) tr s.counting h,
            ap (λ (j : ℕ). apart (record_got c.processes bytes j)) (sym s.here.record_is)
                ∙ d.0,
          );
        })
