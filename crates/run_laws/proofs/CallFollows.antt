-- One call on tables that spell a machine is the machine's call: for every accepted sheet, every such run and every trace buffer.
use Rattle.std.specs.Prelude.{ℕ, zero, suc, ◌*◌, ◌/◌, ◌≤◌, ◌<◌, ◌≡◌, refl, true, List, ◌∷◌, length, get_or, Ok, Err}
use Rattle.std.proofs.Common.{sym, ◌∙◌, subst, arith}
use Rattle.std.proofs.Math.Path.{ap}
use borrow.Author.Tests.{le-leb, lt-leb}
use Rattle.ring_laws.specs.Lists.{below}
use Rattle.model.specs.declared.Counts.{Counts}
use Rattle.model.specs.declared.Refusal.TheVariants.{Size}
use Rattle.model.specs.Counts.{in_limits, both}
use Rattle.model_laws.specs.Judge.{lengths_fine, judged, positions_judged}
use Rattle.model_laws.proofs.Verdict.{judged_says, mean_sized}
use Rattle.model_laws.proofs.PositionsVerdict.{positions_say}
use Rattle.sheet.specs.Sheet.{counts_of, records_of, Sheet, sheet_of}
use Rattle.sheet.specs.Accepted.{Checked, header_of, accepted, checked}
use Rattle.machine.specs.Machine.{Machine}
use Rattle.machine.specs.Run.{call, line_size, trace_limit}
use Rattle.machine.specs.Run as machine
use Rattle.run_laws.specs.Run.{RunTables, run_judged, RanOn, judged_run, checked_run, run_on}
use Rattle.run_laws.specs.Standing.{Stands, Standing, sized, positions_length, words_length}
use Rattle.run_laws.specs.TurnsFollow.{lines_bytes}
use Rattle.run_laws.proofs.TurnsFollow.{TurnsAre, turns_are}
use Rattle.run_laws.specs.Judging.{trace_size, tables_fine_lem}
use Rattle.run_laws.specs.CallFollows.{Agrees, lines_length, put_first_lem}

module _ (bytes : List ℕ) (ok : accepted bytes ≡ true) (m : Machine) (u : RunTables)
    (g : Stands (counts_of bytes) (records_of bytes) m u) where
  abbrev c : Counts
  c = counts_of bytes

  abbrev s : Sheet
  s = sheet_of bytes

  stood : Standing c bytes u
  stood = record { ok = ok; counts = refl; machine = m; stands = g }

  -- ---- such a run passes the judge

  lengths : true ≡ lengths_fine c u.model
  lengths = sym (both (in_limits c) (lengths_fine c u.model) (mean_sized c u.model (sized c bytes u stood))).1

  tables : (Ok tt) ≡ judged c u.model
  tables = sym ((judged_says c u.model).fine (sized c bytes u stood) (m.lists, g.model))

  positions : (Ok tt) ≡ positions_judged c (records_of bytes) u.positions
  positions =
      sym ((positions_say c (records_of bytes) u.positions).fine (positions_length c bytes u stood)
      (record {
        zero_is = ap (λ (l : List ℕ). get_or l 0 0) g.positions;
        in_sheet = λ y b. subst (λ (l : List ℕ). get_or l y 0 ≤ records_of bytes) (sym g.positions) (at y);
      }))
    where
      at : (y : ℕ) → get_or (0 ∷ m.positions) y 0 ≤ records_of bytes
      at zero = omega arith
      at (suc i) = g.positions_in i

  pub judged_short : (len : ℕ) → len ≤ trace_limit → run_judged c (records_of bytes) u len ≡ (Ok tt)
  judged_short len l =
      sym (tables_fine_lem c (records_of bytes) u len true lengths refl c.processes refl (positions_length c bytes u stood)
      (words_length c bytes u stood) l (Ok tt) (Ok tt) tables refl positions)

  pub judged_long : (len : ℕ) → trace_limit < len → run_judged c (records_of bytes) u len ≡ Err Size
  judged_long len l =
      sym (trace_size c (records_of bytes) u len true lengths refl c.processes refl (positions_length c bytes u stood)
      (words_length c bytes u stood) l)

  -- ---- the call

  is_accepted : checked bytes ≡ Ok (header_of bytes)
  unfolding checked
  is_accepted = rw ok

  pub by_judge : (b : List ℕ) → run_on bytes u b ≡ judged_run (run_judged c (records_of bytes) u (length b)) c bytes u b
  unfolding run_on
  by_judge b = ap (λ (k : Checked). checked_run k bytes u b) is_accepted

  from_turns : (b : List ℕ) (r : machine.Ran) (o : RanOn) → TurnsAre bytes ok 0 b r o → Agrees bytes b r o
  from_turns b r o t =
      record {
        lines = omega (arith, t.lines);
        end = t.end;
        trace = t.trace ∙ put_first_lem b (lines_bytes r.lines) (line_size * length r.lines) (lines_length r.lines);
        tables = t.run;
      }

  pub call_agrees : (b : List ℕ) → Agrees bytes b (call s (length b) m) (run_on bytes u b)
  unfolding call
  call_agrees b =
      below trace_limit (length b)
      (λ l. rw (by_judge b, judged_long (length b) l, lt-leb (length b) trace_limit l)
      (record { lines = refl; end = refl; trace = refl; tables = g }))
      (λ l. rw (by_judge b, judged_short (length b) l, le-leb (length b) trace_limit l)
      (from_turns b _ _ (turns_are bytes ok (length b / line_size) 0 m u b g (omega arith))))
