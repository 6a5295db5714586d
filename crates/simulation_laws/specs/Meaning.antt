-- What each sequencing call means, for every well-formed model: refused with the plain call's refusal and nothing changed, or done, and
-- the tables spell the lists that the plain call leaves.
use Rattle.std.specs.Prelude.{ℕ, ◌≡◌, List}
use borrow.Author.Tests.{eq-eqb}
use Rattle.model.specs.declared.Counts.{Counts}
use Rattle.model.specs.declared.Refusal.TheVariants.{Operand}
use Rattle.model.specs.Counts.{main}
use Rattle.model_laws.specs.Tables.{Lists}
use Rattle.model_laws.specs.Now.{current, first_of, half}
use Rattle.model_laws.specs.Result.{refused}
use Rattle.simulation_laws.specs.Plain.{finish}
use Rattle.simulation_laws.specs.Procedures.{Sqs, turned_down}
use Rattle.simulation_laws.specs.Calls.{finish_step}

-- main can't finish
pub main_refused : (c : Counts) (k : List ℕ) (a : Sqs) → first_of (half c) a.axis ≡ 1
    → finish_step c k a ≡ record { outcome = turned_down Operand a; marks = k }
unfolding finish_step
main_refused c k a f = rw (eq-eqb (first_of (half c) a.axis) 1 f)

pub plain_refused : (c : Counts) (l : Lists) → current l ≡ main c → finish c l ≡ refused Operand
unfolding finish
plain_refused c l q = rw (eq-eqb (current l) (main c) q)
