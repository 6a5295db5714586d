-- A refused run call that wrote no line changes no word, whatever the tables: turned down by 8, 1 or 2, or stopped by its first step. And a
-- refused step keeps every word, whatever the tables.
use Prim.Native.Nat.{ℕ}
use Rattle.std.specs.Prelude.{◌≡◌, List, Ok, Err}
use Rattle.std.proofs.Math.Path.{refl}
use Rattle.std.proofs.Common.{ap}
use Rattle.std.proofs.Math.Bool.{true, false}
use Rattle.ring_laws.specs.Lists.{test, clash}
use Rattle.model.specs.declared.Counts.{Counts}
use Rattle.model.specs.declared.Refusal.{Refusal}
use Rattle.model.specs.Answers.{Answered}
use Rattle.model.specs.declared.answer.Answer.TheVariants.{Done, Linkage, Number, Truth}
use Rattle.model_laws.specs.Result.{KeepsRefused}
use Rattle.simset_laws.proofs.Kept.{set_steps}
use Rattle.simulation_laws.proofs.Kept.{hold_steps, passivate_steps, cancel_steps, timed_steps, finish_steps, wait_steps}
use Rattle.sheet.specs.Accepted.{Checked, checked}
use Rattle.machine.specs.Calls.{ListCall, on_set, hold, passivate, wait, cancel, activate, if_empty, finish}
use Rattle.run_laws.specs.Fresh.{sizes_fine, filled_for, filled}
use Rattle.run_laws.specs.OnTables.{tables_after}
use Rattle.run_laws.specs.Run.{RunTables, Off, turned_of}

-- ---- a call

pub lists_kept : (c : Counts) (k : ListCall) → KeepsRefused (tables_after c k)
unfolding tables_after
lists_kept c (on_set k) t r e = set_steps c k t r e
lists_kept c (hold z) t r e = hold_steps c z t r e
lists_kept c passivate t r e = passivate_steps c t r e
lists_kept c (wait y) t r e = wait_steps c y t r e
lists_kept c (cancel x) t r e = cancel_steps c x t r e
lists_kept c (activate again k x y z) t r e = timed_steps c again k x y z t r e
lists_kept c (if_empty x) t r e = refl
lists_kept c finish t r e = finish_steps c t r e

-- ---- a step

pub turned_off : (a : Answered) (next : ℕ) (r : Refusal) → turned_of a next ≡ Off r → a ≡ Err r
unfolding turned_of
turned_off (Ok a) next r e = let z : false ≡ true = cc in clash z
turned_off (Err q) next r e = let z : q ≡ r = cc in ap Err z

-- a fresh run that was refused
pub filled_kept : (bytes : List ℕ) (u : RunTables) (r : Refusal) → (filled bytes u).answer ≡ Err r → (filled bytes u).run ≡ u
unfolding filled
filled_kept bytes u r = by_sheet (checked bytes)
  where
    by_sheet : (k : Checked) → (filled_for k bytes u).answer ≡ Err r → (filled_for k bytes u).run ≡ u
    by_sheet (Ok h) = test (sizes_fine h.counts u) (λ e. rw e (λ q. let z : false ≡ true = cc in clash z)) (λ e. rw e (λ q. refl))
    by_sheet (Err p) = λ q. refl
