use Rattle.std.specs.Prelude.{refl}
use Rattle.run_laws.proofs.ReadsLaws.{operand_low, operand_current, above, head_within, operand_member}
use native.Mathlib.Omega.{arith}
use Rattle.run_arms.proofs.reading.operand.Goals as goal

pub returns-then-v-total : goal.returns-then-v-total
returns-then-v-total c = operand_low _ _ _ _ c.requires.resolvable _ (omega (arith, c.if-v-total.true, c.total.ensures))

pub returns-then-v-eq-CURRENT : goal.returns-then-v-eq-CURRENT
returns-then-v-eq-CURRENT c = operand_current _ _ _ _ c.requires.resolvable _ c.if-v-eq-CURRENT.true

pub overflow_sub-v : goal.overflow_sub-v
overflow_sub-v c = (above _ _ _ _ c.requires.resolvable c.requires.v_value (omega (arith, c.if-v-total.false, c.total.ensures)) c.if-v-eq-CURRENT.false).0

pub member-requires-clause-sound : goal.member-requires-clause-sound
member-requires-clause-sound c = c.requires.resolvable.sound

pub member-requires-clause-h_in_bounds : goal.member-requires-clause-h_in_bounds
member-requires-clause-h_in_bounds c = head_within _ _ _ _ c.requires.resolvable c.requires.v_value (omega (arith, c.if-v-total.false, c.total.ensures)) c.if-v-eq-CURRENT.false _ refl

pub returns : goal.returns
returns c = operand_member _ _ _ _ c.requires.resolvable c.requires.v_value (omega (arith, c.if-v-total.false, c.total.ensures)) c.if-v-eq-CURRENT.false _ refl _ _ c.member.ensures
