use mathlib.Core.Path.{◌∙◌}
use Rattle.simulation_laws.specs.WaitPromise.{made_as}
use Rattle.run_laws.proofs.ReadsLaws.{operand_low}
use native.Mathlib.Omega.{arith}
use Rattle.run_arms.proofs.arms.wait_known_of.Goals as goal

pub returns : goal.returns
returns c = made_as c.args.c _ _ _ _ _ _ _ _ (c.y-y.ensures ∙ operand_low c.args.c _ _ _ c.requires.readable.resolvable _ (omega (arith, c.requires.roomy.head))) c.wait_known.ensures
