use Rattle.std.specs.Prelude.{refl}
use Rattle.std.proofs.Common.{ap, ◌∙◌}
use Rattle.model.specs.Answers.{Verdict}
use Rattle.model.specs.Passed.{passed_on}
use Rattle.run_laws.specs.Filling.{at}
use Rattle.run_laws.specs.Filling.{fill_positions, fill_words, starts_inside, fill_model, fill_all}
use Rattle.run_laws.specs.Run.{lent}
use Rattle.run_fresh.proofs.fill.Goals as goal

pub returns-then-positions-c : goal.returns-then-positions-c
returns-then-positions-c c = fill_positions (c.args.sheet.now) (lent c.args.links.now c.args.axis.now c.args.times.now c.args.marks.now c.args.positions.now c.args.accums.now) (c.args.header) _ refl (c.if-positions-c.true)

pub returns-then-accums-ne-RUN_WORDS : goal.returns-then-accums-ne-RUN_WORDS
returns-then-accums-ne-RUN_WORDS c = fill_words (c.args.sheet.now) (lent c.args.links.now c.args.axis.now c.args.times.now c.args.marks.now c.args.positions.now c.args.accums.now) (c.args.header) _ refl (c.if-positions-c.false) (c.if-accums-ne-RUN_WORDS.true)

pub fill_starts-requires-clause-positions_len : goal.fill_starts-requires-clause-positions_len
fill_starts-requires-clause-positions_len c = at (c.args.sheet.now) (lent c.args.links.now c.args.axis.now c.args.times.now c.args.marks.now c.args.positions.now c.args.accums.now) (c.args.header) _ refl (c.if-positions-c.false)

pub fill_starts-requires-clause-processes_in_bounds : goal.fill_starts-requires-clause-processes_in_bounds
fill_starts-requires-clause-processes_in_bounds c = starts_inside (c.args.sheet.now) (lent c.args.links.now c.args.axis.now c.args.times.now c.args.marks.now c.args.positions.now c.args.accums.now) (c.args.header) _ refl (c.if-positions-c.false) (c.if-accums-ne-RUN_WORDS.false) (c.requires)

pub returns-in_err-fresh : goal.returns-in_err-fresh
returns-in_err-fresh c = ap (λ (r : Verdict). record { run = lent c.fresh.new.links c.fresh.new.axis c.fresh.new.times c.fresh.new.marks c.args.positions.now c.args.accums.now; answer = r }) (passed_on _ _ c.from_residual.ensures.1) ∙ fill_model (c.args.sheet.now) (lent c.args.links.now c.args.axis.now c.args.times.now c.args.marks.now c.args.positions.now c.args.accums.now) (c.args.header) _ refl (c.if-positions-c.false) (c.if-accums-ne-RUN_WORDS.false) (c.requires) _ _ _ c.in_err-fresh.was (c.fresh.ensures)

pub returns : goal.returns
returns c = fill_all (c.args.sheet.now) (lent c.args.links.now c.args.axis.now c.args.times.now c.args.marks.now c.args.positions.now c.args.accums.now) (c.args.header) _ refl (c.if-positions-c.false) (c.if-accums-ne-RUN_WORDS.false) (c.requires) _ _ _ _ c.in_ok-fresh.was (c.fresh.ensures) (c.fill_starts.ensures) (c.fill.ensures.after (λ y e. e))
