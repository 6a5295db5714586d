-- From stretch to stretch: what a stretch leaves of the whole, and that a turn fits where its call is left.
use Rattle.std.specs.Prelude.{ℕ, ◌+◌, ◌-◌, ◌/◌, ◌≤◌, ◌<◌, ◌≡◌, refl, Bool, true, false, ◌||◌, List, length}
use Rattle.std.proofs.Common.{sym, ap, ◌∙◌, arith}
use Rattle.ring_laws.specs.Lists.{clash}
use Rattle.model.specs.declared.Counts.{Counts}
use Rattle.model.specs.declared.Refusal.{Refusal}
use Rattle.machine.specs.declared.End.TheVariants.{Refused as Ended}
use Rattle.machine.specs.Run.{line_size, trace_limit}
use Rattle.run_laws.specs.declared.Pause.{Pause}
use Rattle.run_laws.specs.declared.Pause.TheVariants.{Full, Apart as Due, Refused as Stopped}
use Rattle.run_laws.specs.declared.Stretch.{Stretch}
use Rattle.run_laws.specs.Run.{RunTables, RanOn, stopped_on, turns_on}
use Rattle.run_laws.specs.Turning.{turning_then}
use Rattle.run_laws.proofs.Turning.{line_fits}
use Rattle.run_laws.specs.Counting.{Counting}
use Rattle.run_laws.specs.Paused.{left_by, is_full, is_due, Paused}

module _ (c : Counts) (bytes : List ℕ) (end stop at : ℕ) (whole : RanOn) (u₀ : RunTables) (tr₀ : List ℕ) (u : RunTables) (tr : List ℕ)
    (t : Counting c bytes end stop at whole u₀ tr₀ u tr)
    (u' : RunTables) (tr' : List ℕ) (s : Stretch)
    (p : Paused c bytes (end / line_size) (at / line_size) (turns_on c bytes (at / line_size) (end / line_size - at / line_size) u tr) tr
    u' tr' s) where
  abbrev room : ℕ
  room = end / line_size

  -- lines before the stretch and after it
  abbrev n : ℕ
  n = at / line_size

  abbrev m : ℕ
  m = s.at / line_size

  part_is : turns_on c bytes n (room - n) u tr ≡ whole
  part_is = t.turning.same (room - n) (omega (arith, t.turning.few))

  pub paused_on : (is_full s.pause || is_due s.pause) ≡ true → Counting c bytes end stop s.at whole u₀ tr₀ u' tr'
  paused_on g =
      record {
        turning =
            turning_then c bytes room n m whole (turns_on c bytes n (room - n) u tr) u₀ tr₀ u tr u' tr' t.turning part_is
            (p.stands g) p.size (omega (arith, p.few)) (λ k e. left k s.pause (p.left k (omega (arith))) g);
        place = p.place;
        within = t.within;
        stop_is = t.stop_is;
      }
    where
      left : (k : ℕ) (q : Pause) → left_by c bytes q m k u' tr' ≡ turns_on c bytes n (room - n) u tr → (is_full q || is_due q) ≡ true
          → turns_on c bytes m k u' tr' ≡ turns_on c bytes n (room - n) u tr
      left k Full e z = e
      left k Due e z = e
      left k (Stopped x) e z = clash z

  pub paused_off : (k : ℕ) → k ≡ m → (x : Refusal) → s.pause ≡ Stopped x → stopped_on k (Ended x) u' tr' ≡ whole
  paused_off k ek x e =
      ap (λ (j : ℕ). stopped_on j (Ended x) u' tr') ek
      ∙ sym (ap (λ (q : Pause). left_by c bytes q m (room - m) u' tr') e)
      ∙ p.left (room - m) (omega (arith, p.few))
      ∙ part_is

  pub few_after : s.at ≤ trace_limit
  few_after = omega (arith, p.place, p.few, t.turning.room_in, t.turning.short)

  -- ---- at a call that is made apart

  module _ (g : is_due s.pause ≡ true) where
    pub due_on : Counting c bytes end stop s.at whole u₀ tr₀ u' tr'
    due_on = paused_on (rw g (or_true (is_full s.pause)))
      where
        or_true : (b : Bool) → (b || true) ≡ true
        or_true true = refl
        or_true false = refl

    pub due_room : m < room
    due_room = omega (arith, (p.due g).0)

    pub due_fits : s.at + line_size ≤ length tr'
    due_fits = omega (arith, p.place, line_fits c bytes room m whole u₀ tr₀ u' tr' due_on.turning due_room)
