use Rattle.simset_laws.proofs.Entering.{covers_clear_step}
use Rattle.run_laws.proofs.Arms.{arm_2, arm_3, arm_4, arm_5, arm_7, arm_8, arm_9, arm_timed_as}
use Rattle.run_laws.specs.Tried.{left_apart}
use Rattle.run_laws.specs.Performing.{x_readable, y_readable, some, most}
use mathlib.Core.Path.{sym, ◌∙◌}
use Rattle.sheet.specs.Sheet.{record_from}
use borrow.Author.Rules.{rules}
use native.Mathlib.Omega.{arith}
use Rattle.run_step.proofs.apart.apart_at.Goals as goal

pub timed_of-requires-clause-readable : goal.timed_of-requires-clause-readable
timed_of-requires-clause-readable c = x_readable _ _ _ _ _ c.requires.callable _ c.operation-op.ensures (λ z. omega (arith, z, (left_apart (record_from c.args.call.sheet.now c.args.call.at) _ c.operation-op.ensures c.requires.i_value (some _ _ _ _ _ c.requires.callable _ c.operation-op.ensures) (most _ _ _ _ _ c.requires.callable _ c.operation-op.ensures) (search rules) (search rules) (search rules) (search rules) (search rules) (search rules) (search rules)).1))

pub timed_of-requires-clause-readable_2 : goal.timed_of-requires-clause-readable_2
timed_of-requires-clause-readable_2 c = y_readable _ _ _ _ _ c.requires.callable _ c.operation-op.ensures (λ z. omega (arith, z, (left_apart (record_from c.args.call.sheet.now c.args.call.at) _ c.operation-op.ensures c.requires.i_value (some _ _ _ _ _ c.requires.callable _ c.operation-op.ensures) (most _ _ _ _ _ c.requires.callable _ c.operation-op.ensures) (search rules) (search rules) (search rules) (search rules) (search rules) (search rules) (search rules)).1))

pub returns-in-2-clause-leaves : goal.returns-in-2-clause-leaves
returns-in-2-clause-leaves c = λ w. arm_2 c.args.c (record_from c.args.call.sheet.now c.args.call.at) c.args.f c.args.links.now c.args.axis.now c.args.times.now c.args.marks.now w _ _ _ c.unless_refused.ensures (sym c.operation-op.ensures ∙ c.in-2.is) c.follow_of.ensures.moved

pub returns-in-3-clause-leaves : goal.returns-in-3-clause-leaves
returns-in-3-clause-leaves c = λ w. arm_3 c.args.c (record_from c.args.call.sheet.now c.args.call.at) c.args.f c.args.links.now c.args.axis.now c.args.times.now c.args.marks.now w _ _ _ c.unless_refused-in-3.ensures (sym c.operation-op.ensures ∙ c.in-3.is) c.precede_of.ensures.moved

pub returns-in-4-clause-leaves : goal.returns-in-4-clause-leaves
returns-in-4-clause-leaves c = λ w. arm_4 c.args.c (record_from c.args.call.sheet.now c.args.call.at) c.args.f c.args.links.now c.args.axis.now c.args.times.now c.args.marks.now w _ _ _ c.unless_refused-in-4.ensures (sym c.operation-op.ensures ∙ c.in-4.is) c.into_of.ensures.moved

pub returns-in-5-clause-leaves : goal.returns-in-5-clause-leaves
returns-in-5-clause-leaves c = λ w. arm_5 c.args.c (record_from c.args.call.sheet.now c.args.call.at) c.args.f c.args.links.now c.args.axis.now c.args.times.now c.args.marks.now w _ _ _ c.unless_refused-in-5.ensures (sym c.operation-op.ensures ∙ c.in-5.is) c.clear_of.ensures

pub returns-in-5-clause-covers_2 : goal.returns-in-5-clause-covers_2
returns-in-5-clause-covers_2 c = λ w. covers_clear_step _ _ _ c.requires.covers w _ _ c.clear_of.ensures

pub returns-in-7-clause-leaves : goal.returns-in-7-clause-leaves
returns-in-7-clause-leaves c = λ w. arm_7 c.args.c (record_from c.args.call.sheet.now c.args.call.at) c.args.f c.args.links.now c.args.axis.now c.args.times.now c.args.marks.now w _ _ _ _ c.unless_refused-in-7.ensures (sym c.operation-op.ensures ∙ c.in-7.is) c.passivate.ensures

pub returns-in-8-clause-leaves : goal.returns-in-8-clause-leaves
returns-in-8-clause-leaves c = λ w. arm_8 c.args.c (record_from c.args.call.sheet.now c.args.call.at) c.args.f c.args.links.now c.args.axis.now c.args.times.now c.args.marks.now w _ _ _ _ c.unless_refused-in-8.ensures _ (sym c.operation-op.ensures ∙ c.in-8.is) c.wait_of.ensures.waited

pub returns-in-9-clause-leaves : goal.returns-in-9-clause-leaves
returns-in-9-clause-leaves c = λ w. arm_9 c.args.c (record_from c.args.call.sheet.now c.args.call.at) c.args.f c.args.links.now c.args.axis.now c.args.times.now c.args.marks.now w _ _ _ _ c.unless_refused-in-9.ensures (sym c.operation-op.ensures ∙ c.in-9.is) c.cancel_of.ensures

pub returns-in_default-clause-leaves : goal.returns-in_default-clause-leaves
returns-in_default-clause-leaves c = λ w. arm_timed_as c.args.c (record_from c.args.call.sheet.now c.args.call.at) c.args.f c.args.links.now c.args.axis.now c.args.times.now c.args.marks.now w _ _ _ _ c.unless_refused-in_default.ensures _ c.operation-op.ensures (omega (arith, c.operation-op.ensures, (left_apart (record_from c.args.call.sheet.now c.args.call.at) _ c.operation-op.ensures c.requires.i_value (some _ _ _ _ _ c.requires.callable _ c.operation-op.ensures) (most _ _ _ _ _ c.requires.callable _ c.operation-op.ensures) (search rules) (search rules) (search rules) (search rules) (search rules) (search rules) (search rules)).0)) (omega (arith, c.operation-op.ensures, (left_apart (record_from c.args.call.sheet.now c.args.call.at) _ c.operation-op.ensures c.requires.i_value (some _ _ _ _ _ c.requires.callable _ c.operation-op.ensures) (most _ _ _ _ _ c.requires.callable _ c.operation-op.ensures) (search rules) (search rules) (search rules) (search rules) (search rules) (search rules) (search rules)).1)) c.timed_of.ensures
