-- The loop counts bytes alone, and neither divides nor multiplies: the next line's place is byte `at`; none goes behind byte `end`, so that
-- none begins at byte `stop` or behind it. That there are `at / line_size` lines, and room for `end / line_size`, is said here alone.
use Rattle.std.specs.Prelude.{ℕ, ◌+◌, ◌*◌, ◌/◌, ◌≤◌, ◌<◌, ◌≡◌, List, length}
use Rattle.std.proofs.Common.{sym, subst, arith}
use Rattle.model.specs.declared.Counts.{Counts}
use Rattle.trace.specs.Fits.{past_last, fits}
use Rattle.machine.specs.Run.{line_size, trace_limit}
use Rattle.run_laws.specs.Run.{RunTables, RanOn, turns_on}
use Rattle.run_laws.specs.Standing.{Standing}
use Rattle.run_laws.specs.Turning.{Turning, turning_start}
use Rattle.run_laws.proofs.Turning.{line_fits}
use Rattle.run_laws.specs.Counting.{Counting}

-- with the lines before byte `at` written, and room for j more
pub counting_start : (c : Counts) (bytes : List ℕ) (end stop at j : ℕ) (u : RunTables) (tr : List ℕ) → Standing c bytes u
    → length tr ≤ trace_limit → end ≤ length tr → at / line_size + j ≡ end / line_size → at ≡ line_size * (at / line_size)
    → stop ≡ past_last end
    → Counting c bytes end stop at (turns_on c bytes (at / line_size) j u tr) u tr u tr
counting_start c bytes end stop at j u tr s l h q p e =
    record {
      turning = turning_start c bytes (end / line_size) (at / line_size) j u tr s l (omega (arith, h)) q;
      place = p;
      within = h;
      stop_is = e;
    }

module _ (c : Counts) (bytes : List ℕ) (end stop at : ℕ) (whole : RanOn) (u₀ : RunTables) (tr₀ : List ℕ) (u : RunTables) (tr : List ℕ)
    (s : Counting c bytes end stop at whole u₀ tr₀ u tr) where
  pub few_bytes : at ≤ trace_limit
  few_bytes = omega (arith, s.place, s.turning.few, s.turning.room_in, s.turning.short)

  -- the loop's test is whether a line fits, and so whether there is room for one
  fits_here : at < stop → at + line_size ≤ end
  fits_here l = (fits end at).0 (subst (λ (j : ℕ). at < j) s.stop_is l)

  pub room_left : at < stop → at / line_size < end / line_size
  room_left l = omega (arith, s.place, fits_here l)

  pub no_room : stop ≤ at → end / line_size ≤ at / line_size
  no_room l = omega (arith, s.place, s.stop_is)

  pub line_in_lem : at < stop → at + line_size ≤ length tr
  line_in_lem l =
      omega (arith, s.place, line_fits c bytes (end / line_size) (at / line_size) whole u₀ tr₀ u tr s.turning (room_left l))

  -- what a stretch from here requires of its numbers
  pub as_required : (length tr ≤ trace_limit) × ((at ≡ line_size * (at / line_size)) × ((at ≤ end) × (end ≤ length tr)))
  as_required = (
    omega (arith, s.turning.size, s.turning.short),
    (s.place, (omega (arith, s.place, s.turning.few), omega (arith, s.within, s.turning.size))),
  )

  -- a line more
  pub counting_on : (v : RunTables) (tv : List ℕ) → Turning c bytes (end / line_size) (at / line_size + 1) whole u₀ tr₀ v tv
      → Counting c bytes end stop (at + line_size) whole u₀ tr₀ v tv
  counting_on v tv t =
      let one_more_lem : (at + line_size) / line_size ≡ at / line_size + 1 = omega arith in
      record {
        turning = subst (λ (j : ℕ). Turning c bytes (end / line_size) j whole u₀ tr₀ v tv) (sym one_more_lem) t;
        place = omega (arith, s.place);
        within = s.within;
        stop_is = s.stop_is;
      }
