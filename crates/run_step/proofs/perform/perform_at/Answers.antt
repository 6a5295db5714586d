use Rattle.simset_laws.specs.Promise.{failed, passed}
use Rattle.simset_laws.proofs.Entering.{covers_out_step}
use Rattle.simset_laws.specs.KnownRoom.{left_covers}
use Rattle.simset_laws.proofs.KnownRoom.{known_head, has_room, into_covers}
use Rattle.simulation_laws.specs.WaitPromise.{wait_covers}
use Rattle.run_laws.proofs.ReadsLaws.{operand_low}
use Rattle.run_laws.proofs.Arms.{arm_1, arm_4, arm_6, arm_8, arm_12, arm_13}
use Rattle.run_laws.proofs.Tried.{here, here_known, left_unknown, left_10, left_other, tried_not, tried_made}
use Rattle.run_laws.specs.Performing.{judged, y_readable, in_sixty_four}
use mathlib.Core.Path.{refl, sym, ◌∙◌}
use Rattle.sheet.specs.Sheet.{record_from}
use borrow.Author.Rules.{rules}
use native.Mathlib.Omega.{arith}
use Rattle.std.proofs.Common.{ap, not}
use Rattle.run_step.proofs.perform.perform_at.Goals as goal

pub returns-then-not-room_of-clause-result_after : goal.returns-then-not-room_of-clause-result_after
returns-then-not-room_of-clause-result_after c = tried_not _ _ _ _ _ _ (left_unknown _ (record_from c.args.call.sheet.now c.args.call.at) _ _ _ 4 refl refl (sym c.operation-op.ensures ∙ c.in-4.is) (failed _ _ c.room_of.ensures.is (ap not c.if-not-room_of.true)))

pub returns-then-not-room_of-clause-covers_2 : goal.returns-then-not-room_of-clause-covers_2
returns-then-not-room_of-clause-covers_2 c = λ w. left_covers c.args.c _ _ _ _ _ c.requires.covers c.room_of.ensures c.if-not-room_of.true

pub into_known_of-requires-clause-roomy : goal.into_known_of-requires-clause-roomy
into_known_of-requires-clause-roomy c = has_room c.args.c _ _ _ c.requires.covers (passed _ _ c.room_of.ensures.is (ap not c.if-not-room_of.false)) _

pub returns-then-not-room_of-2-clause-result_after : goal.returns-then-not-room_of-2-clause-result_after
returns-then-not-room_of-2-clause-result_after c = tried_not _ _ _ _ _ _ (left_unknown _ (record_from c.args.call.sheet.now c.args.call.at) _ _ _ 8 refl refl (sym c.operation-op.ensures ∙ c.in-8.is) (failed _ _ c.room_of-in-8.ensures.is (ap not c.if-not-room_of-2.true)))

pub returns-then-not-room_of-2-clause-covers_2 : goal.returns-then-not-room_of-2-clause-covers_2
returns-then-not-room_of-2-clause-covers_2 c = λ w. left_covers c.args.c _ _ _ _ _ c.requires.covers c.room_of-in-8.ensures c.if-not-room_of-2.true

pub wait_known_of-requires-clause-roomy : goal.wait_known_of-requires-clause-roomy
wait_known_of-requires-clause-roomy c = has_room c.args.c _ _ _ c.requires.covers (passed _ _ c.room_of-in-8.ensures.is (ap not c.if-not-room_of-2.false)) _

pub returns-in-1-clause-result_after : goal.returns-in-1-clause-result_after
returns-in-1-clause-result_after c = tried_made _ _ _ _ _ _ (here _ (record_from c.args.call.sheet.now c.args.call.at) _ _ _ 1 refl refl refl (sym c.operation-op.ensures ∙ c.in-1.is)) _ (arm_1 c.args.c (record_from c.args.call.sheet.now c.args.call.at) c.args.f c.args.links.now c.args.axis.now c.args.times.now c.args.marks.now c.args.accums.now _ _ _ c.unless_refused.ensures (sym c.operation-op.ensures ∙ c.in-1.is) c.out_of.ensures)

pub returns-in-1-clause-covers_2 : goal.returns-in-1-clause-covers_2
returns-in-1-clause-covers_2 c = λ w. covers_out_step _ _ _ c.requires.covers w _ _ c.out_of.ensures

pub returns-else-not-room_of-clause-result_after : goal.returns-else-not-room_of-clause-result_after
returns-else-not-room_of-clause-result_after c = tried_made _ _ _ _ _ _ (here_known _ (record_from c.args.call.sheet.now c.args.call.at) _ _ _ 4 refl refl (sym c.operation-op.ensures ∙ c.in-4.is) (passed _ _ c.room_of.ensures.is (ap not c.if-not-room_of.false))) _ (arm_4 c.args.c (record_from c.args.call.sheet.now c.args.call.at) c.args.f c.args.links.now c.args.axis.now c.args.times.now c.args.marks.now c.args.accums.now _ _ _ c.unless_refused-in-4.ensures (sym c.operation-op.ensures ∙ c.in-4.is) c.into_known_of.ensures)

pub returns-else-not-room_of-clause-covers_2 : goal.returns-else-not-room_of-clause-covers_2
returns-else-not-room_of-clause-covers_2 c = into_covers c.args.c _ _ _ c.requires.covers (passed _ _ c.room_of.ensures.is (ap not c.if-not-room_of.false)) _ c.room_of.ensures.bounds_are _ _ (operand_low c.args.c _ _ _ (y_readable _ _ _ _ _ c.requires.performable.callable _ c.operation-op.ensures (λ z. omega (arith, c.in-4.is))).resolvable _ (omega (arith, known_head c.args.c _ _ _ c.requires.covers (passed _ _ c.room_of.ensures.is (ap not c.if-not-room_of.false))))) _ c.into_known_of.ensures

pub returns-in-6-clause-result_after : goal.returns-in-6-clause-result_after
returns-in-6-clause-result_after c = tried_made _ _ _ _ _ _ (here _ (record_from c.args.call.sheet.now c.args.call.at) _ _ _ 6 refl refl refl (sym c.operation-op.ensures ∙ c.in-6.is)) _ (arm_6 c.args.c (record_from c.args.call.sheet.now c.args.call.at) c.args.f c.args.links.now c.args.axis.now c.args.times.now c.args.marks.now c.args.accums.now _ _ _ _ c.unless_refused-in-6.ensures (sym c.operation-op.ensures ∙ c.in-6.is) c.hold_of.ensures)

pub returns-else-not-room_of-2-clause-result_after : goal.returns-else-not-room_of-2-clause-result_after
returns-else-not-room_of-2-clause-result_after c = tried_made _ _ _ _ _ _ (here_known _ (record_from c.args.call.sheet.now c.args.call.at) _ _ _ 8 refl refl (sym c.operation-op.ensures ∙ c.in-8.is) (passed _ _ c.room_of-in-8.ensures.is (ap not c.if-not-room_of-2.false))) _ (arm_8 c.args.c (record_from c.args.call.sheet.now c.args.call.at) c.args.f c.args.links.now c.args.axis.now c.args.times.now c.args.marks.now c.args.accums.now _ _ _ _ c.unless_refused-in-8.ensures _ (sym c.operation-op.ensures ∙ c.in-8.is) c.wait_known_of.ensures)

pub returns-else-not-room_of-2-clause-covers_2 : goal.returns-else-not-room_of-2-clause-covers_2
returns-else-not-room_of-2-clause-covers_2 c = wait_covers c.args.c _ _ _ _ _ c.requires.covers (passed _ _ c.room_of-in-8.ensures.is (ap not c.if-not-room_of-2.false)) (judged _ _ _ _ _ c.requires.performable.callable) _ c.room_of-in-8.ensures.bounds_are _ (operand_low c.args.c _ _ _ (y_readable _ _ _ _ _ c.requires.performable.callable _ c.operation-op.ensures (λ z. omega (arith, c.in-8.is))).resolvable _ (omega (arith, known_head c.args.c _ _ _ c.requires.covers (passed _ _ c.room_of-in-8.ensures.is (ap not c.if-not-room_of-2.false))))) _ _ _ _ c.wait_known_of.ensures

pub returns-else-k-eq0-clause-result_after : goal.returns-else-k-eq0-clause-result_after
returns-else-k-eq0-clause-result_after c = tried_not _ _ _ _ _ _ (left_10 _ (record_from c.args.call.sheet.now c.args.call.at) _ _ _ (sym c.operation-op.ensures ∙ c.in-10.is) (λ z. c.if-k-eq2.false (c.clause-k.ensures ∙ z)) (λ z. c.if-k-eq0.false (c.clause-k.ensures ∙ z)))

pub returns-in-12-clause-result_after : goal.returns-in-12-clause-result_after
returns-in-12-clause-result_after c = tried_made _ _ _ _ _ _ (here _ (record_from c.args.call.sheet.now c.args.call.at) _ _ _ 12 refl refl refl (sym c.operation-op.ensures ∙ c.in-12.is)) _ (arm_12 c.args.c (record_from c.args.call.sheet.now c.args.call.at) c.args.f c.args.links.now c.args.axis.now c.args.times.now c.args.marks.now c.args.accums.now (sym c.operation-op.ensures ∙ c.in-12.is) _ c.branch-c.ensures)

pub returns-in-13-clause-result_after : goal.returns-in-13-clause-result_after
returns-in-13-clause-result_after c = tried_made _ _ _ _ _ _ (here _ (record_from c.args.call.sheet.now c.args.call.at) _ _ _ 13 refl refl refl (sym c.operation-op.ensures ∙ c.in-13.is)) _ (arm_13 c.args.c (record_from c.args.call.sheet.now c.args.call.at) c.args.f c.args.links.now c.args.axis.now c.args.times.now c.args.marks.now c.args.accums.now _ _ (sym c.operation-op.ensures ∙ c.in-13.is) (in_sixty_four _ _ _ _ _ _ _ c.requires.performable _ c.operation-op.ensures c.in-13.is) _ c.requires.performable.time_is _ c.accum_of.ensures c.unless_refused-in-13.ensures)

pub returns-in_default-clause-result_after : goal.returns-in_default-clause-result_after
returns-in_default-clause-result_after c = tried_not _ _ _ _ _ _ (left_other _ (record_from c.args.call.sheet.now c.args.call.at) _ _ _ _ c.operation-op.ensures (search rules) (search rules) (search rules) (search rules) (search rules) (search rules) (search rules))
