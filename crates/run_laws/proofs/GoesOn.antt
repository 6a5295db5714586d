-- A run from call to call: each finds tables of a run and leaves such tables, with no more lines than the trace has room for.
use Prim.Native.Nat.{ℕ, zero, suc, ◌+◌, ◌*◌, ◌/◌, ◌≤◌}
use Rattle.std.specs.Prelude.{List, length, Ok, Err}
use Rattle.std.proofs.Common.{sym, subst}
use native.Mathlib.Omega.{arith}
use Rattle.ring_laws.specs.Lists.{test}
use Rattle.model.specs.declared.Counts.{Counts}
use Rattle.model.specs.Answers.{Verdict}
use Rattle.sheet.specs.Sheet.{records_of, sheet_of}
use Rattle.sheet.specs.Accepted.{Checked, checked}
use Rattle.machine.specs.Run.{call, line_size}
use Rattle.run_laws.specs.Run.{RunTables, Turned, On, Off, step_on, ends_now, turns_on, run_judged, judged_run, checked_run, run_on}
use Rattle.run_laws.specs.Standing.{Stands, Standing}
use Rattle.run_laws.proofs.CallFollows.{call_agrees}
use Rattle.run_laws.proofs.Kept.{goes}

-- and such tables are some machine's after a call
pub run_stands : (c : Counts) (bytes : List ℕ) (u : RunTables) (tr : List ℕ) → Standing c bytes u → Standing c bytes (run_on bytes u tr).run
run_stands c bytes u tr s =
    let g = subst (λ (k : Counts). Stands k (records_of bytes) s.machine u) s.counts s.stands in
    let m = (call (sheet_of bytes) (length tr) s.machine).machine in
    record {
      ok = s.ok;
      counts = s.counts;
      machine = m;
      stands =
          subst (λ (k : Counts). Stands k (records_of bytes) m (run_on bytes u tr).run) (sym s.counts)
          (call_agrees bytes s.ok s.machine u g tr).tables;
    }

-- ---- lines, on any tables

module _ (c : Counts) (bytes : List ℕ) where
  turns_room : (n k : ℕ) (u : RunTables) (tr : List ℕ) → (turns_on c bytes n k u tr).result.lines ≤ n + k
  unfolding turns_on
  turns_room n zero u tr = test (ends_now c u.model.axis u.positions) (λ e. rw e (omega arith)) (λ e. rw e (omega arith))
  turns_room n (suc k) u tr =
      test (ends_now c u.model.axis u.positions)
      (λ e. rw e (omega arith))
      (λ e. rw e (go (step_on c bytes (line_size * n) u tr).turned
      (turns_room (suc n) k (step_on c bytes (line_size * n) u tr).run (step_on c bytes (line_size * n) u tr).trace)))
    where
      go : (d : Turned) → (turns_on c bytes (suc n) k (step_on c bytes (line_size * n) u tr).run (step_on c bytes (line_size * n) u tr).trace
          ).result.lines ≤ suc n + k
          → (goes c bytes n k (step_on c bytes (line_size * n) u tr) d).result.lines ≤ n + suc k
      go (On next) l = omega arith
      go (Off r) l = omega arith

-- a line takes 16 bytes
pub run_room : (bytes : List ℕ) (u : RunTables) (tr : List ℕ) → line_size * (run_on bytes u tr).result.lines ≤ length tr
unfolding run_on
run_room bytes u tr = by_sheet (checked bytes)
  where
    by_tables : (c : Counts) (v : Verdict) → line_size * (judged_run v c bytes u tr).result.lines ≤ length tr
    by_tables c (Ok tt) = omega (arith, turns_room c bytes 0 (length tr / line_size) u tr)
    by_tables c (Err q) = omega arith

    by_sheet : (k : Checked) → line_size * (checked_run k bytes u tr).result.lines ≤ length tr
    by_sheet (Ok h) = by_tables h.counts (run_judged h.counts h.records u (length tr))
    by_sheet (Err q) = omega arith
