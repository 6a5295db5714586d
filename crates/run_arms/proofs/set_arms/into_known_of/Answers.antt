use mathlib.Core.Path.{◌∙◌}
use Rattle.simset_laws.specs.Calls.{into_step}
use Rattle.simset_laws.specs.Promise.{moved_of}
use Rattle.run_laws.proofs.ReadsLaws.{operand_low}
use native.Mathlib.Omega.{arith}
use Rattle.run_arms.proofs.set_arms.into_known_of.Goals as goal

pub returns : goal.returns
returns c = moved_of _ (into_step c.args.c) _ _ _ _ _ _ c.x_of-x.ensures (c.y-y.ensures ∙ operand_low c.args.c _ _ _ c.requires.readable.resolvable _ (omega (arith, c.requires.roomy.head))) c.into_known.ensures
