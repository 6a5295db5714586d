-- "The C host hands over the sheet's bytes and a trace buffer, and gets a fresh run. The returned number is lines × 256 + code":
-- the number and every byte of the trace are the plain machine's, from the fresh machine on.
use Rattle.std.specs.Prelude.{ℕ, ◌+◌, ◌*◌, ◌≤◌, ◌<◌, ◌≡◌, true, List, ◌++◌, length, drop, if◌then◌else◌, Ok, Err}
use Rattle.std.proofs.Math.Path.{sym, ap, subst}
use Rattle.std.proofs.Common.{◌∙◌}
use borrow.Author.Tests.{lt-leb}
use Rattle.model.specs.declared.Counts.{Counts}
use Rattle.model.specs.declared.Refusal.{Refusal}
use Rattle.model.specs.declared.Refusal.TheVariants.{Size}
use Rattle.model.specs.Refusals.{refusal_number}
use Rattle.sheet.specs.declared.header.Header.{Header}
use Rattle.sheet.specs.Sheet.{counts_of, sheet_of}
use Rattle.sheet.specs.Accepted.{Checked, accepted, checked}
use Rattle.sheet.specs.Ranges.{checked_yes, checked_no}
use Rattle.machine.specs.Machine.{fresh}
use Rattle.machine.specs.Run.{call, line_size, trace_limit}
use Rattle.machine.specs.Run as machine
use Rattle.run_laws.specs.declared.Ran.{Ran}
use Rattle.run_laws.specs.Run.{run_on, judged_run, end_code, ran_number}
use Rattle.run_laws.specs.TurnsFollow.{lines_bytes}
use Rattle.run_laws.specs.Fresh.{fresh_run, fresh_stands}
use Rattle.run_laws.specs.Starting.{started_on}
use Rattle.run_laws.specs.CallFollows.{Agrees}
use Rattle.run_laws.proofs.CallFollows.{call_agrees, judged_short, by_judge}

-- the trace after a call, and the number
pub record Hosted : Type 0 where
  pub trace : List ℕ
  pub number : ℕ

-- what the machine's call says: its lines' bytes and then the trace as it was lent; lines × 256 + code
abbrev pub told : machine.Ran → List ℕ → Hosted
told r tr = record {
  trace = lines_bytes r.lines ++ drop (line_size * length r.lines) tr;
  number = length r.lines * 256 + end_code r.end;
}

-- a sheet that is not accepted is refused with 8; else it is one call of the machine, from fresh
unfoldable pub hosted : List ℕ → List ℕ → Hosted
hosted bytes tr =
    if accepted bytes then told (call (sheet_of bytes) (length tr) (fresh (sheet_of bytes))) tr
    else record { trace = tr; number = 8 }

-- ---- from what the code's calls left

-- the trace and the result of the runner's fresh run
pub record Started : Type 0 where
  pub trace : List ℕ
  pub result : Ran

abbrev pub started_here : Counts → List ℕ → List ℕ → Started
started_here c bytes tr = let o = started_on c bytes tr in record { trace = o.trace; result = o.result }

module _ (bytes tr : List ℕ) (k : Checked) (ek : k ≡ checked bytes) where
  pub host_8 : (q : Refusal) (r : ℕ) → k ≡ Err q → r ≡ refusal_number q → record { trace = tr; number = r } ≡ hosted bytes tr
  unfolding hosted
  host_8 q r e f =
      let n = checked_no bytes q (sym ek ∙ e) in
      rw n.0 (ap (λ (j : ℕ). record { trace = tr; number = j }) (f ∙ ap refusal_number n.1))

  module _ (h : Header) (e : k ≡ Ok h) where
    yes : (accepted bytes ≡ true) × (h.counts ≡ counts_of bytes)
    yes = let y = checked_yes bytes h (sym ek ∙ e) in (y.0, ap (λ (j : Header). j.counts) y.1)

    pub host_long : trace_limit < length tr → (r : ℕ) → r ≡ refusal_number Size → record { trace = tr; number = r } ≡ hosted bytes tr
    unfolding hosted call end_code
    host_long l r f = rw (yes.0, lt-leb (length tr) trace_limit l) (ap (λ (j : ℕ). record { trace = tr; number = j }) f)

    -- a short trace: what the runner started is what a run call of the fresh tables leaves
    same_run : length tr ≤ trace_limit → started_on h.counts bytes tr ≡ run_on bytes (fresh_run (counts_of bytes) bytes) tr
    unfolding started_on
    same_run l =
        ap (λ (c : Counts). started_on c bytes tr) yes.1
        ∙ sym (by_judge bytes yes.0 (fresh (sheet_of bytes)) (fresh_run (counts_of bytes) bytes) (fresh_stands bytes yes.0) tr
        ∙ ap (λ v. judged_run v (counts_of bytes) bytes (fresh_run (counts_of bytes) bytes) tr)
        (judged_short bytes yes.0 (fresh (sheet_of bytes)) (fresh_run (counts_of bytes) bytes) (fresh_stands bytes yes.0) (length tr) l))

    pub host_run : length tr ≤ trace_limit → (t : List ℕ) (r : Ran) (n : ℕ)
        → record { trace = t; result = r } ≡ started_here h.counts bytes tr → n ≡ ran_number r
        → record { trace = t; number = n } ≡ hosted bytes tr
    unfolding hosted ran_number
    host_run l t r n f g =
        let a : Agrees bytes tr (call (sheet_of bytes) (length tr) (fresh (sheet_of bytes))) (started_on h.counts bytes tr) =
        subst (Agrees bytes tr (call (sheet_of bytes) (length tr) (fresh (sheet_of bytes)))) (sym (same_run l))
        (call_agrees bytes yes.0 (fresh (sheet_of bytes)) (fresh_run (counts_of bytes) bytes) (fresh_stands bytes yes.0) tr) in
        let er : r ≡ (started_on h.counts bytes tr).result = ap (λ (o : Started). o.result) f in
        let et : t ≡ (started_on h.counts bytes tr).trace = ap (λ (o : Started). o.trace) f in
        let el = ap (λ (x : Ran). x.lines) er ∙ a.lines in
        let ee = ap (λ (x : Ran). x.end) er ∙ a.end in
        rw yes.0
        (λ i. record { trace = (et ∙ a.trace) i; number = (g ∙ (λ j. el j * 256 + end_code (ee j))) i })
