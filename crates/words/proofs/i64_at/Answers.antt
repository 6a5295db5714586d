use mathlib.Core.Path.{◌∙◌, ap}
use mir.Syntax.{w64}
use mir.Val.{to_z}
use mir.ValLaws.{to_z-of_z}
use Rattle.words.specs.Words.{i64_at}
use Rattle.words.proofs.i64_at.Goals as goal

pub returns : goal.returns
unfolding i64_at
returns c = to_z-of_z w64 _ (record { sfits = c.cast_signed.type_inv }) ∙ c.cast_signed.ensures ∙ ap (to_z w64) c.u64_at.ensures
