-- The first notice of tables that spell lists is the lists' first: its place is current's, and its time is time.
use Rattle.std.specs.Prelude.{ℕ, ◌+◌, ◌-◌, ◌<◌, ◌≤◌, ◌≡◌, get_or}
use Rattle.std.proofs.Common.{sym, ap, ◌∙◌, arith}
use Rattle.ring_laws.specs.Stores.{sucs, pres, suc_at}
use Rattle.ring_laws.specs.Tabulate.{table_at}
use Rattle.model.specs.declared.Counts.{Counts}
use Rattle.model.specs.Counts.{linkage_at}
use Rattle.axis_laws.specs.Notices.{due_of}
use Rattle.model_laws.specs.Tables.{Tables, Lists, Spells}
use Rattle.model_laws.specs.Now.{current, time, half, first_of, next_place, time_of}
use Rattle.axis_laws.specs.AxisRing.{axis_head_lem}
use Rattle.model_laws.specs.Formed.{notice_process}
use Rattle.model_laws.specs.NowLaws.{first_next, first_due, first_process_lem}

module _ (c : Counts) (l : Lists) (t : Tables) (s : Spells c l t) where
  pub place_now : first_of (half c) t.axis ≡ current l - c.heads
  place_now =
      ap (λ (i : ℕ). next_place t.axis i) (omega arith)
      ∙ sym (suc_at (half c) t.axis (c.processes + 1) (omega arith))
      ∙ first_next c (sucs (half c) t.axis) (pres (half c) t.axis) (c.processes + 1) (c.processes + 1) l.notices s.some
      (s.axis.rings.ring (c.processes + 1) (axis_head_lem c.processes))

  pub current_process : (c.heads < current l) × (current l ≤ c.heads + c.processes)
  current_process = first_process_lem c l.notices s.some (notice_process c l t s)

  pub current_now : linkage_at c (first_of (half c) t.axis) ≡ current l
  current_now = omega (arith, place_now, current_process)

  pub time_now : time_of (half c) t.axis t.times ≡ time l
  time_now =
      let p = current_process in
      let back : c.heads + (current l - c.heads) ≡ current l = omega (arith, p) in
      ap (λ (i : ℕ). get_or t.times i 0) place_now
      ∙ table_at (λ p. due_of (c.heads + p) l.notices) c.processes t.times s.times (current l - c.heads) (omega (arith, p))
      (omega (arith, p))
      ∙ ap (λ (x : ℕ). due_of x l.notices) back
      ∙ first_due l.notices s.some
