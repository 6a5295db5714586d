-- The loop over turns: what is left to do from here comes to the whole, and the tables are still a machine's.
use Rattle.std.specs.Prelude.{ℕ, suc, ◌+◌, ◌*◌, ◌-◌, ◌≤◌, ◌<◌, ◌≡◌, refl, true, false, List, length, get_or}
use Rattle.std.proofs.Math.Path.{sym, ap}
use Rattle.std.proofs.Common.{◌∙◌, subst, arith, get_or-set_same}
use Rattle.ring_laws.specs.Lists.{clash}
use Rattle.model.specs.declared.Counts.{Counts}
use Rattle.model.specs.declared.Refusal.{Refusal}
use Rattle.model_laws.specs.Now.{half, first_of}
use Rattle.model_laws.specs.Result.{done, refused, Result}
use Rattle.sheet.specs.Sheet.{counts_of, sheet_of}
use Rattle.machine.specs.declared.End.TheVariants.{Finished, Full, Refused}
use Rattle.machine.specs.Machine.{Machine}
use Rattle.machine.specs.Calls.{perform}
use Rattle.machine.specs.Steps.{call_now, moved_on}
use Rattle.machine.specs.Run.{line_size}
use Rattle.run_laws.specs.OnTables.{Carried, carried_out}
use Rattle.run_laws.specs.Run.{RunTables, Turned, On, Off, Stepped, call_due, turned_of, moved, due_in, line_in, step_on, ends_now, RanOn}
use Rattle.run_laws.specs.Run.{stopped_on, turns_on}
use Rattle.run_laws.specs.Standing.{Standing, ready, positions_length}
use Rattle.run_laws.proofs.StepFollows.{StepIs, step_follows}
-- ---- an accepted step leaves tables of a machine
use Rattle.run_laws.specs.Turning.{Turning}

module _ (bytes : List ℕ) (u : RunTables) (i : ℕ) (tr : List ℕ) where
  next_standing : (next : ℕ) (s : Standing (counts_of bytes) bytes u) → (step_on (counts_of bytes) bytes i u tr).turned ≡ On next
      → Standing (counts_of bytes) bytes (step_on (counts_of bytes) bytes i u tr).run
  next_standing next s e = go (perform (counts_of bytes) (call_now (sheet_of bytes) s.machine) s.machine)
      (step_follows bytes s.ok s.machine u s.stands tr i)
    where
      go : (r : Result Machine) → StepIs bytes s.ok s.machine u s.stands r tr i (step_on (counts_of bytes) bytes i u tr)
          → Standing (counts_of bytes) bytes (step_on (counts_of bytes) bytes i u tr).run
      go (refused q) w = let z : Off q ≡ On next = sym w.0 ∙ e in let y : false ≡ true = cc in clash y
      go (done k) w = record { ok = s.ok; counts = refl; machine = moved_on (sheet_of bytes) s.machine k; stands = w.1 }

  pub step_standing : (c : Counts) (next : ℕ) → Standing c bytes u → (step_on c bytes i u tr).turned ≡ On next
      → Standing c bytes (step_on c bytes i u tr).run
  step_standing c next s =
      subst (λ (k : Counts). Standing k bytes u → (step_on k bytes i u tr).turned ≡ On next → Standing k bytes (step_on k bytes i u tr).run)
      (sym s.counts) (next_standing next) s

  -- the record that it goes on at is its position
  pub next_kept : (c : Counts) (next : ℕ) → Standing c bytes u → (step_on c bytes i u tr).turned ≡ On next
      → next ≡ get_or (step_on c bytes i u tr).run.positions (first_of (half c) u.model.axis) 0
  unfolding step_on
  next_kept c next s e = go (turned_of (carried_out c (call_due (due_in c bytes u)) u.model u.words).answer (due_in c bytes u).next) e
    where
      a : Carried
      a = carried_out c (call_due (due_in c bytes u)) u.model u.words

      within : first_of (half c) u.model.axis < length u.positions
      within = omega (arith, positions_length c bytes u s, (ready c bytes u s).first_in_lem)

      go : (v : Turned) → (moved v a u.positions (first_of (half c) u.model.axis) tr i (line_in c u)).turned ≡ On next
          → next ≡ get_or (moved v a u.positions (first_of (half c) u.model.axis) tr i (line_in c u)).run.positions
          (first_of (half c) u.model.axis) 0
      go (On n) w = let z : n ≡ next = cc in sym z ∙ sym (get_or-set_same u.positions (first_of (half c) u.model.axis) n 0 within)
      go (Off q) w = let y : false ≡ true = cc in clash y

module _ (c : Counts) (bytes : List ℕ) (room n : ℕ) (whole : RanOn) (u₀ : RunTables) (tr₀ : List ℕ) (u : RunTables) (tr : List ℕ)
    (t : Turning c bytes room n whole u₀ tr₀ u tr) where
  pub line_fits : n < room → line_size * n + line_size ≤ length tr
  line_fits l = omega (arith, t.room_in, t.size)

  -- at the end of the room
  module _ (h : room ≤ n) where
    none_left : n + 0 ≡ room
    none_left = omega (arith, t.few)

    pub out_finished : (k : ℕ) → k ≡ n → ends_now c u.model.axis u.positions ≡ true → stopped_on k Finished u tr ≡ whole
    unfolding turns_on
    out_finished k e f =
        ap (λ (j : ℕ). stopped_on j Finished u tr) e ∙ (rw f at (t.same 0 none_left))

    pub out_full : (k : ℕ) → k ≡ n → ends_now c u.model.axis u.positions ≡ false → stopped_on k Full u tr ≡ whole
    unfolding turns_on
    out_full k e f =
        ap (λ (j : ℕ). stopped_on j Full u tr) e ∙ (rw f at (t.same 0 none_left))

  -- with room for a line
  module _ (h : n < room) where
    abbrev rest : ℕ
    rest = room - (n + 1)

    one_left : n + suc rest ≡ room
    one_left = omega arith

    pub in_finished : (k : ℕ) → k ≡ n → ends_now c u.model.axis u.positions ≡ true → stopped_on k Finished u tr ≡ whole
    unfolding turns_on
    in_finished k e f =
        ap (λ (j : ℕ). stopped_on j Finished u tr) e ∙ (rw f at (t.same (suc rest) one_left))

    -- what is left after a step, by what it came to
    abbrev goes : ℕ → Stepped → Turned → RanOn
    goes k p (On next) = turns_on c bytes (suc n) k p.run p.trace
    goes k p (Off q) = stopped_on n (Refused q) p.run p.trace

    goes_is : (k : ℕ) (p : Stepped) (v : Turned)
        → elim v [ On next ↦ turns_on c bytes (suc n) k p.run p.trace | Off q ↦ stopped_on n (Refused q) p.run p.trace ]
        ≡ goes k p v
    goes_is k p (On next) = refl
    goes_is k p (Off q) = refl

    module _ (f : ends_now c u.model.axis u.positions ≡ false) (o : Stepped) (e : o ≡ step_on c bytes (line_size * n) u tr) where
      by_step : (k : ℕ) → goes k o o.turned ≡ turns_on c bytes n (suc k) u tr
      unfolding turns_on
      by_step k = ap (λ (p : Stepped). goes k p p.turned) e
          ∙ sym (rw (f, turns_on) (goes_is k (step_on c bytes (line_size * n) u tr) (step_on c bytes (line_size * n) u tr).turned))

      pub step_refused : (k : ℕ) → k ≡ n → (q : Refusal) → o.turned ≡ Off q → stopped_on k (Refused q) o.run o.trace ≡ whole
      step_refused k ek q v =
          ap (λ (j : ℕ). stopped_on j (Refused q) o.run o.trace) ek
          ∙ sym (ap (goes rest o) v)
          ∙ by_step rest
          ∙ t.same (suc rest) one_left

      pub turning_on : (next : ℕ) → o.turned ≡ On next → length o.trace ≡ length tr
          → Turning c bytes room (n + 1) whole u₀ tr₀ o.run o.trace
      turning_on next v z =
          record {
            begun = t.begun;
            stands = subst (λ (p : Stepped). Standing c bytes p.run) (sym e)
                (step_standing bytes u (line_size * n) tr c next t.stands (ap (λ (p : Stepped). p.turned) (sym e) ∙ v));
            size = z ∙ t.size;
            room_in = t.room_in;
            short = t.short;
            few = omega arith;
            same = λ k q.
                let one : n + 1 ≡ suc n = omega arith in
                ap (λ (j : ℕ). turns_on c bytes j k o.run o.trace) one
                ∙ sym (ap (goes k o) v)
                ∙ by_step k
                ∙ t.same (suc k) (omega arith);
          }

      -- the position that is kept beside the table
      pub turning_at : (next p : ℕ) → o.turned ≡ On next → p ≡ first_of (half c) u.model.axis → next ≡ get_or o.run.positions p 0
      turning_at next p v is =
          next_kept bytes u (line_size * n) tr c next t.stands (ap (λ (q : Stepped). q.turned) (sym e) ∙ v)
          ∙ ap (λ (q : Stepped). get_or q.run.positions (first_of (half c) u.model.axis) 0) (sym e)
          ∙ ap (λ (j : ℕ). get_or o.run.positions j 0) (sym is)
