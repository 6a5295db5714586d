use mathlib.Core.Path.{refl}
use native.Mathlib.Omega.{arith}
use Rattle.run_laws.specs.Filling.{starting_out}
use Rattle.run_fresh.proofs.fill_starts.Goals as goal

pub returns : goal.returns
returns c = starting_out _ _ _ _ c.loop-p.invariant _ refl (omega arith)
