-- Turns on tables that spell a machine are the machine's turns: as many lines, the same end, the lines' bytes and then the trace as it
-- was lent, and tables that spell the machine after them.
use Prim.Native.Nat.{ℕ, zero, suc, ◌+◌, ◌*◌, ◌≤◌}
use Rattle.std.specs.Prelude.{◌≡◌, refl, true, List, length}
use Rattle.std.proofs.Common.{sym, ap, ◌∙◌, subst, arith}
use Rattle.ring_laws.specs.Lists.{test}
use Rattle.model.specs.declared.Counts.{Counts}
use Rattle.model_laws.specs.Result.{done, refused, Result}
use Rattle.sheet.specs.Sheet.{counts_of, records_of, Sheet, sheet_of}
use Rattle.sheet.specs.Accepted.{accepted}
use Rattle.trace.specs.Lines.{put}
use Rattle.trace.specs.Put.{length_put, put_put, length_line}
use Rattle.machine.specs.declared.End.{End}
use Rattle.machine.specs.declared.End.TheVariants.{Finished, Full, Refused}
use Rattle.machine.specs.Machine.{Machine}
use Rattle.machine.specs.Calls.{perform}
use Rattle.machine.specs.Steps.{call_now, Line, line_now, Turn, ended, stepped, moving, step, moved_on}
use Rattle.machine.specs.Run.{at_end, turn, stopped, also_line, turns, line_size}
use Rattle.machine.specs.Run as machine
use Rattle.run_laws.specs.Run.{RunTables, On, Off, Stepped, step_on, RanOn, stopped_on, turns_on}
use Rattle.run_laws.specs.Standing.{Stands}
use Rattle.run_laws.specs.Refine.{bytes_of}
use Rattle.run_laws.proofs.Refine.{ends_is}
use Rattle.run_laws.proofs.StepFollows.{StepIs, step_follows}
use Rattle.run_laws.specs.TurnsFollow.{lines_bytes, put_none}

module _ (bytes : List ℕ) (ok : accepted bytes ≡ true) where
  abbrev c : Counts
  c = counts_of bytes

  abbrev s : Sheet
  s = sheet_of bytes

  -- after n lines, with the trace tr
  pub record TurnsAre (n : ℕ) (tr : List ℕ) (r : machine.Ran) (o : RanOn) : Type 0 where
    pub lines : o.result.lines ≡ n + length r.lines
    pub end : o.result.end ≡ r.end
    pub trace : o.trace ≡ put tr (line_size * n) (lines_bytes r.lines)
    pub run : Stands c (records_of bytes) r.machine o.run

  stop : (n : ℕ) (tr : List ℕ) (e : End) (m : Machine) (u : RunTables) → Stands c (records_of bytes) m u
      → TurnsAre n tr (stopped e m) (stopped_on n e u tr)
  stop n tr e m u g = record { lines = omega arith; end = refl; trace = sym (put_none tr (line_size * n)); run = g }

  -- one line more
  also : (n : ℕ) (tr : List ℕ) (l : Line) (r : machine.Ran) (o : RanOn) → line_size * n + line_size ≤ length tr
      → TurnsAre (suc n) (put tr (line_size * n) (bytes_of l)) r o → TurnsAre n tr (also_line l r) o
  also n tr l r o fit a =
      record {
        lines = omega (arith, a.lines);
        end = a.end;
        trace =
            a.trace
            ∙ ap (λ (i : ℕ). put (put tr (line_size * n) (bytes_of l)) i (lines_bytes r.lines))
            (omega (arith, length_line l.time l.process l.rec))
            ∙ put_put tr (line_size * n) (bytes_of l) (lines_bytes r.lines) (omega (arith, length_line l.time l.process l.rec));
        run = a.run;
      }

  pub turns_are : (k n : ℕ) (m : Machine) (u : RunTables) (tr : List ℕ) → Stands c (records_of bytes) m u → line_size * (n + k) ≤ length tr
      → TurnsAre n tr (turns s k m) (turns_on c bytes n k u tr)
  unfolding turns turn step turns_on sheet_of
  turns_are zero n m u tr g fit =
      test (at_end s m)
      (λ e. rw (ends_is bytes ok m u g ∙ e, e, turns) (stop n tr Finished m u g))
      (λ e. rw (ends_is bytes ok m u g ∙ e, e, turns) (stop n tr Full m u g))
  turns_are (suc k) n m u tr g fit =
      test (at_end s m)
      (λ e. rw (ends_is bytes ok m u g ∙ e, e, turns) (stop n tr Finished m u g))
      (λ e. rw (ends_is bytes ok m u g ∙ e, e, turns) (go (turns_are k (suc n)) (perform c (call_now s m) m)
      (step_on c bytes (line_size * n) u tr) (step_follows bytes ok m u g tr (line_size * n))))
    where
      went : Turn → machine.Ran
      went t = elim t [ ended e ↦ stopped e m | stepped l j ↦ also_line l (turns s k j) ]

      goes : Stepped → RanOn
      goes o = elim o.turned [
        | On next ↦ turns_on c bytes (suc n) k o.run o.trace
        | Off q ↦ stopped_on n (Refused q) o.run
            o.trace
      ]

      go : ((j : Machine) (v : RunTables) (t : List ℕ) → Stands c (records_of bytes) j v → line_size * (suc n + k) ≤ length t
          → TurnsAre (suc n) t (turns s k j) (turns_on c bytes (suc n) k v t))
          → (r : Result Machine) (o : Stepped) → StepIs bytes ok m u g r tr (line_size * n) o → TurnsAre n tr (went (moving s m r)) (goes o)
      go f (refused q) o w =
          let x : TurnsAre n tr (stopped (Refused q) m) (stopped_on n (Refused q) o.run o.trace) =
          subst (λ (t : List ℕ). TurnsAre n tr (stopped (Refused q) m) (stopped_on n (Refused q) o.run t)) (sym w.2)
          (subst (λ (v : RunTables). TurnsAre n tr (stopped (Refused q) m) (stopped_on n (Refused q) v tr)) (sym w.1)
          (stop n tr (Refused q) m u g)) in
          rw w.0 x
      go f (done j) o w =
          let len : length (put tr (line_size * n) (bytes_of (line_now s m))) ≡ length tr =
          length_put tr (line_size * n) (bytes_of (line_now s m))
          (omega (arith, length_line (line_now s m).time (line_now s m).process (line_now s m).rec)) in
          let t = put tr (line_size * n) (bytes_of (line_now s m)) in
          rw w.0
          (subst (λ (t : List ℕ). TurnsAre n tr (also_line (line_now s m) (turns s k (moved_on s m j))) (turns_on c bytes (suc n) k o.run t))
          (sym w.2)
          (also n tr (line_now s m) _ _ (omega arith) (f _ o.run _ w.1 (omega arith))))
