-- A refused run call that wrote no line changes no word, whatever the tables: turned down by 8, 1 or 2, or stopped by its first step. And a
-- refused step keeps every word, whatever the tables.
use Prim.Native.Nat.{ℕ, zero, suc, ◌*◌, ◌/◌, ◌≤◌}
use Rattle.std.specs.Prelude.{◌≡◌, List, ℤ, length, Ok, Err}
use Rattle.std.proofs.Math.Path.{refl}
use Rattle.std.proofs.Math.Bool.{true, false}
use native.Mathlib.Omega.{arith}
use Rattle.ring_laws.specs.Lists.{test, clash}
use Rattle.model.specs.declared.Counts.{Counts}
use Rattle.model.specs.declared.Refusal.{Refusal}
use Rattle.model.specs.Answers.{Verdict}
use Rattle.model_laws.specs.Tables.{Tables}
use Rattle.model_laws.specs.Now.{half, first_of, time_of}
use Rattle.accum_laws.specs.Update.{Updated, updated_of}
use Rattle.accum_laws.specs.Flat.{words_at, word_place, stored, updated_in}
use Rattle.sheet.specs.Accepted.{Checked, checked}
use Rattle.machine.specs.declared.End.TheVariants.{Refused}
use Rattle.machine.specs.Calls.{Call, on_list, accum}
use Rattle.machine.specs.Run.{line_size}
use Rattle.run_laws.specs.OnTables.{Carried, carried_out}
use Rattle.run_laws.specs.Run.{RunTables, run_of, run_judged, call_due, Turned, On, Off, turned_of, Stepped, moved, due_in, line_in, step_on}
use Rattle.run_laws.specs.Run.{ends_now, RanOn, stopped_on, turns_on, judged_run, checked_run, run_on}
-- ---- a call
use Rattle.run_laws.specs.Kept.{lists_kept, turned_off}

pub call_kept : (c : Counts) (k : Call) (t : Tables) (w : List ℤ) (r : Refusal) → (carried_out c k t w).answer ≡ Err r
    → ((carried_out c k t w).tables ≡ t) × ((carried_out c k t w).words ≡ w)
unfolding carried_out updated_in
call_kept c (on_list k) t w r e = (lists_kept c k t r e, refl)
call_kept c (accum k d) t w r e = (refl, go (updated_of (words_at (word_place k) w) (time_of (half c) t.axis t.times) d) e)
  where
    go : (u : Updated) → (stored u (word_place k) w).answer ≡ Err r → (stored u (word_place k) w).words ≡ w
    go (Ok v) q = let z : false ≡ true = cc in clash z
    go (Err q) p = refl

module _ (c : Counts) (bytes : List ℕ) (i : ℕ) (u : RunTables) (tr : List ℕ) where
  abbrev its : Carried
  its = carried_out c (call_due (due_in c bytes u)) u.model u.words

  abbrev after : Turned → Stepped
  after d = moved d its u.positions (first_of (half c) u.model.axis) tr i (line_in c u)

  pub step_kept : (r : Refusal) → (step_on c bytes i u tr).turned ≡ Off r
      → ((step_on c bytes i u tr).run ≡ u) × ((step_on c bytes i u tr).trace ≡ tr)
  unfolding step_on
  step_kept r e = go (turned_of its.answer (due_in c bytes u).next) refl e
    where
      go : (d : Turned) → turned_of its.answer (due_in c bytes u).next ≡ d → (after d).turned ≡ Off r
          → ((after d).run ≡ u) × ((after d).trace ≡ tr)
      go (On next) q p = let z : false ≡ true = cc in clash z
      go (Off s) q p =
          let k = call_kept c (call_due (due_in c bytes u)) u.model u.words s (turned_off its.answer (due_in c bytes u).next s q) in
          (λ j. run_of (k.0 j) u.positions (k.1 j), refl)

-- ---- a call of a run

module _ (c : Counts) (bytes : List ℕ) where
  -- what a turn comes to, by its step
  abbrev pub goes : ℕ → ℕ → Stepped → Turned → RanOn
  goes n k s d = elim d [ On next ↦ turns_on c bytes (suc n) k s.run s.trace | Off r ↦ stopped_on n (Refused r) s.run s.trace ]

  -- lines are never taken back
  turns_lines : (n k : ℕ) (u : RunTables) (tr : List ℕ) → n ≤ (turns_on c bytes n k u tr).result.lines
  unfolding turns_on
  turns_lines n zero u tr = test (ends_now c u.model.axis u.positions) (λ e. rw e (omega arith)) (λ e. rw e (omega arith))
  turns_lines n (suc k) u tr =
      test (ends_now c u.model.axis u.positions)
      (λ e. rw e (omega arith))
      (λ e. rw e (go (step_on c bytes (line_size * n) u tr).turned
      (turns_lines (suc n) k (step_on c bytes (line_size * n) u tr).run (step_on c bytes (line_size * n) u tr).trace)))
    where
      go : (d : Turned) → suc n ≤ (turns_on c bytes (suc n) k (step_on c bytes (line_size * n) u tr).run
          (step_on c bytes (line_size * n) u tr).trace).result.lines
          → n ≤ (goes n k (step_on c bytes (line_size * n) u tr) d).result.lines
      go (On next) l = omega arith
      go (Off r) l = omega arith

  turns_kept : (k : ℕ) (u : RunTables) (tr : List ℕ) (r : Refusal)
      → (turns_on c bytes 0 k u tr).result.lines ≡ 0 → (turns_on c bytes 0 k u tr).result.end ≡ Refused r
      → ((turns_on c bytes 0 k u tr).run ≡ u) × ((turns_on c bytes 0 k u tr).trace ≡ tr)
  unfolding turns_on
  turns_kept zero u tr r =
      test (ends_now c u.model.axis u.positions) (λ e. rw e (λ a b. (refl, refl))) (λ e. rw e (λ a b. (refl, refl)))
  turns_kept (suc k) u tr r =
      test (ends_now c u.model.axis u.positions)
      (λ e. rw e (λ a b. (refl, refl)))
      (λ e. rw e (go (step_on c bytes (line_size * 0) u tr).turned refl))
    where
      go : (d : Turned) → (step_on c bytes (line_size * 0) u tr).turned ≡ d
          → (goes 0 k (step_on c bytes (line_size * 0) u tr) d).result.lines ≡ 0
          → (goes 0 k (step_on c bytes (line_size * 0) u tr) d).result.end ≡ Refused r
          → ((goes 0 k (step_on c bytes (line_size * 0) u tr) d).run ≡ u) × ((goes 0 k (step_on c bytes (line_size * 0) u tr) d).trace ≡ tr)
      go (On next) q a b = absurd (some a)
        where
          some : (turns_on c bytes 1 k (step_on c bytes (line_size * 0) u tr).run (step_on c bytes (line_size * 0) u tr).trace).result.lines
              ≡ 0 → ⊥
          some h = omega (arith, h, turns_lines 1 k (step_on c bytes (line_size * 0) u tr).run (step_on c bytes (line_size * 0) u tr).trace)
      go (Off s) q a b = step_kept c bytes (line_size * 0) u tr s q

-- a run call that was refused and wrote no line
pub run_kept : (bytes : List ℕ) (u : RunTables) (tr : List ℕ) (r : Refusal) → (run_on bytes u tr).result.lines ≡ 0
    → (run_on bytes u tr).result.end ≡ Refused r
    → ((run_on bytes u tr).run ≡ u) × ((run_on bytes u tr).trace ≡ tr)
unfolding run_on
run_kept bytes u tr r = by_sheet (checked bytes)
  where
    by_tables : (c : Counts) (v : Verdict) → (judged_run v c bytes u tr).result.lines ≡ 0 → (judged_run v c bytes u tr).result.end ≡ Refused r
        → ((judged_run v c bytes u tr).run ≡ u) × ((judged_run v c bytes u tr).trace ≡ tr)
    by_tables c (Ok tt) a b = turns_kept c bytes (length tr / line_size) u tr r a b
    by_tables c (Err q) a b = (refl, refl)

    by_sheet : (k : Checked) → (checked_run k bytes u tr).result.lines ≡ 0 → (checked_run k bytes u tr).result.end ≡ Refused r
        → ((checked_run k bytes u tr).run ≡ u) × ((checked_run k bytes u tr).trace ≡ tr)
    by_sheet (Ok h) a b = by_tables h.counts (run_judged h.counts h.records u (length tr)) a b
    by_sheet (Err q) a b = (refl, refl)
