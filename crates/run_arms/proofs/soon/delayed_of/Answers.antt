use mathlib.Core.Path.{◌∙◌}
use mir.Syntax.{w64}
use mir.ValLaws.{to_z-of_z}
use Rattle.run_laws.proofs.Soon.{soon_left, soon_delayed}
use Rattle.std.proofs.Common.{ap, not}
use Rattle.run_arms.proofs.soon.delayed_of.Goals as goal

pub returns-then-not-process_or_none : goal.returns-then-not-process_or_none
returns-then-not-process_or_none c = λ known w. soon_left _ _ _ _ _ _ _ w known c.requires.i_value.0 _ c.x_of-x.ensures _ c.process_or_none.ensures (ap not c.if-not-process_or_none.true)

pub returns : goal.returns
returns c = λ known w. soon_delayed _ _ _ _ _ _ _ w known c.requires.i_value.0 _ c.x_of-x.ensures _ c.process_or_none.ensures (ap not c.if-not-process_or_none.false) _ _ _ _ c.unless_refused.ensures c.requires.i_value.1 (rw (to_z-of_z w64 _ (record { sfits = c.t-t.type_inv }) ∙ c.t-t.ensures) at c.activate_after.ensures)
