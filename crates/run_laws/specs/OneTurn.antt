-- One turn as a whole: what its code leaves is `turn_on`, and what that makes of the turns that are left.
use Rattle.std.specs.Prelude.{ℕ, ◌≡◌, refl, true, false, Ok, Err}
use Rattle.std.proofs.Common.{ap}
use Rattle.ring_laws.specs.Lists.{clash}
use Rattle.model.specs.declared.Refusal.{Refusal}
use Rattle.run_laws.specs.declared.Turn.TheVariants.{Finished as AtEnd, Made}
use Rattle.run_laws.specs.Run.{Turned, On, Off, turn_by}

-- ---- what the code of a turn leaves, with current's place f, time and record r read off the tables

-- ---- what a turn makes of those that are left

pub made_on : (v : Turned) → turn_by v ≡ (Ok Made) → (T : Type 0) → ((next : ℕ) → v ≡ On next → T) → T
made_on (On next) e T f = f next refl
made_on (Off r) e T f = let z : false ≡ true = cc in clash z

pub off_by : (v : Turned) (x : Refusal) → turn_by v ≡ Err x → v ≡ Off x
off_by (On next) x e = let z : false ≡ true = cc in clash z
off_by (Off r) x e = let z : r ≡ x = cc in ap Off z

pub no_end : (v : Turned) → turn_by v ≡ (Ok AtEnd) → false ≡ true
no_end (On next) e = cc
no_end (Off r) e = cc
