-- What the code of a run call leaves, from what its calls left.
use Rattle.std.specs.Prelude.{ℕ, ◌/◌, ◌≡◌, List, length, Ok, Err}
use Rattle.std.proofs.Math.Path.{sym, ap}
use Rattle.std.proofs.Common.{◌∙◌}
use Rattle.model.specs.declared.Refusal.{Refusal}
use Rattle.model.specs.Answers.{Verdict}
use Rattle.sheet.specs.declared.header.Header.{Header}
use Rattle.sheet.specs.Accepted.{Checked, checked}
use Rattle.run_laws.specs.declared.Ran.{Ran}
use Rattle.run_laws.specs.Run.{RunTables, run_judged, RanOn, refused_ran, turns_on, judged_run, checked_run, run_on}
use Rattle.machine.specs.Run.{line_size}

module _ (bytes : List ℕ) (u : RunTables) (tr : List ℕ) where
  module _ (h : Header) (v : Verdict) (ev : v ≡ run_judged h.counts h.records u (length tr)) where
    pub run_judged_lem : (q : Refusal) (r : Ran) → v ≡ Err q → r ≡ refused_ran q
        → record { run = u; trace = tr; result = r } ≡ checked_run (Ok h) bytes u tr
    run_judged_lem q r e f =
        ap (λ (x : Ran). record { run = u; trace = tr; result = x }) f
        ∙ sym (ap (λ (w : Verdict). judged_run w h.counts bytes u tr) (sym ev ∙ e))

    pub run_turns : (o : RanOn) → v ≡ (Ok tt) → o ≡ turns_on h.counts bytes 0 (length tr / line_size) u tr
        → o ≡ checked_run (Ok h) bytes u tr
    run_turns o e f = f ∙ sym (ap (λ (w : Verdict). judged_run w h.counts bytes u tr) (sym ev ∙ e))

  module _ (k : Checked) (ek : k ≡ checked bytes) where
    pub run_8 : (q : Refusal) (r : Ran) → k ≡ Err q → r ≡ refused_ran q
        → record { run = u; trace = tr; result = r } ≡ run_on bytes u tr
    unfolding run_on
    run_8 q r e f =
        ap (λ (x : Ran). record { run = u; trace = tr; result = x }) f ∙ sym (ap (λ (w : Checked). checked_run w bytes u tr) (sym ek ∙ e))

    pub run_accepted : (h : Header) (o : RanOn) → k ≡ Ok h → o ≡ checked_run (Ok h) bytes u tr → o ≡ run_on bytes u tr
    unfolding run_on
    run_accepted h o e f = f ∙ sym (ap (λ (w : Checked). checked_run w bytes u tr) (sym ek ∙ e))
