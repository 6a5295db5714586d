-- What the step's code leaves, from what its call came to.
use Rattle.std.specs.Prelude.{ℕ, ◌≡◌, Bool, true, false, List, ℤ, set, Ok, Err}
use Rattle.std.proofs.Math.Path.{refl, sym, ap}
use Rattle.std.proofs.Common.{◌∙◌}
use Rattle.ring_laws.specs.Lists.{clash}
use Rattle.model.specs.declared.Counts.{Counts}
use Rattle.model.specs.Counts.{linkage_at}
use Rattle.model_laws.specs.Tables.{Tables}
use Rattle.trace.specs.Lines.{put, line_bytes}
use Rattle.machine.specs.Calls.{on_set, hold, passivate, wait, cancel, activate, if_empty, finish, Call, on_list, accum}
use Rattle.run_laws.specs.OnTables.{tables_after, carried_out}
use Rattle.run_laws.specs.declared.Effect.TheVariants.{Stays, Jumps, Moves, Apart}
use Rattle.run_laws.specs.Run.{On}
use Rattle.run_laws.specs.Performed.{Meant, call_effect, turned_by}

-- after an accepted call the process at place f is at next, and its line stands at byte i
pub record Went (c : Counts) (f time r i next : ℕ) (ps tr ps' tr' : List ℕ) : Type 0 where
  pub positions : ps' ≡ set ps f next
  pub trace : tr' ≡ put tr i (line_bytes time (linkage_at c f) r)

-- ---- a call after which current stays keeps the axis and the times

abbrev pub stayed : Meant → Bool
stayed (Ok Stays) = true
stayed (Ok (Jumps y)) = true
stayed (Ok Moves) = false
stayed (Err r) = false
stayed (Ok Apart) = false

module _ (c : Counts) (t : Tables) (w : List ℤ) where
  abbrev AxisStays : Call → Type 0
  AxisStays k = ((carried_out c k t w).tables.axis ≡ t.axis) × ((carried_out c k t w).tables.times ≡ t.times)

  pub keeps : (k : Call) → stayed (call_effect k) ≡ true → AxisStays k
  unfolding carried_out tables_after
  keeps (on_list (on_set s)) e = (refl, refl)
  keeps (on_list (hold z)) e = clash e
  keeps (on_list passivate) e = clash e
  keeps (on_list (wait y)) e = clash e
  keeps (on_list (cancel x)) e = clash e
  keeps (on_list (activate again cl x y z)) e = clash e
  keeps (on_list (if_empty x)) e = (refl, refl)
  keeps (on_list finish) e = clash e
  keeps (accum n d) e = (refl, refl)

-- ---- the record that an accepted call leads to, from what it means

module _ (v : Meant) (next n : ℕ) where
  -- the record's next, where the process stays or may have changed
  pub to_next : (w : Meant) → turned_by w next ≡ On next → v ≡ w → n ≡ next → turned_by v next ≡ On n
  to_next w t e en = ap (λ (u : Meant). turned_by u next) e ∙ t ∙ ap On (sym en)

  pub jumps_to : v ≡ Ok (Jumps n) → turned_by v next ≡ On n
  jumps_to e = ap (λ (w : Meant). turned_by w next) e
