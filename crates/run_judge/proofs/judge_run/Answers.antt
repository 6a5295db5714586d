use Rattle.model.specs.Passed.{passed_on}
use Rattle.std.proofs.Common.{◌∙◌}
use Rattle.std.specs.Prelude.{refl}
use Rattle.run_laws.specs.Judging.{model_sizes, positions_size, words_size, trace_size, tables_not, tables_fine_lem}
use Rattle.run_laws.specs.Run.{lent}
use Rattle.std.proofs.Common.{ap, not}
use Rattle.run_judge.proofs.judge_run.Goals as goal

pub returns-then-not-lengths_fine : goal.returns-then-not-lengths_fine
returns-then-not-lengths_fine c = model_sizes (c.args.c) (c.args.records) (lent c.args.links.now c.args.axis.now c.args.times.now c.args.marks.now c.args.positions.now c.args.accums.now) (c.args.len) _ (c.lengths_fine.ensures) ((ap not c.if-not-lengths_fine.true))

pub returns-then-positions-c : goal.returns-then-positions-c
returns-then-positions-c c = positions_size (c.args.c) (c.args.records) (lent c.args.links.now c.args.axis.now c.args.times.now c.args.marks.now c.args.positions.now c.args.accums.now) (c.args.len) _ (c.lengths_fine.ensures) ((ap not c.if-not-lengths_fine.false)) _ refl (c.if-positions-c.true)

pub returns-then-accums-ne-RUN_WORDS : goal.returns-then-accums-ne-RUN_WORDS
returns-then-accums-ne-RUN_WORDS c = words_size (c.args.c) (c.args.records) (lent c.args.links.now c.args.axis.now c.args.times.now c.args.marks.now c.args.positions.now c.args.accums.now) (c.args.len) _ (c.lengths_fine.ensures) ((ap not c.if-not-lengths_fine.false)) _ refl (c.if-positions-c.false) (c.if-accums-ne-RUN_WORDS.true)

pub returns-then-len-gt-TRACE_LIMIT : goal.returns-then-len-gt-TRACE_LIMIT
returns-then-len-gt-TRACE_LIMIT c = trace_size (c.args.c) (c.args.records) (lent c.args.links.now c.args.axis.now c.args.times.now c.args.marks.now c.args.positions.now c.args.accums.now) (c.args.len) _ (c.lengths_fine.ensures) ((ap not c.if-not-lengths_fine.false)) _ refl (c.if-positions-c.false) (c.if-accums-ne-RUN_WORDS.false) (c.if-len-gt-TRACE_LIMIT.true)

pub returns-in_err-judge_tables : goal.returns-in_err-judge_tables
returns-in_err-judge_tables c = passed_on _ _ c.from_residual.ensures.1 ∙ tables_not (c.args.c) (c.args.records) (lent c.args.links.now c.args.axis.now c.args.times.now c.args.marks.now c.args.positions.now c.args.accums.now) (c.args.len) _ (c.lengths_fine.ensures) ((ap not c.if-not-lengths_fine.false)) _ refl (c.if-positions-c.false) (c.if-accums-ne-RUN_WORDS.false) (c.if-len-gt-TRACE_LIMIT.false) _ _ (c.judge_tables.ensures) c.in_err-judge_tables.was

pub returns : goal.returns
returns c = tables_fine_lem (c.args.c) (c.args.records) (lent c.args.links.now c.args.axis.now c.args.times.now c.args.marks.now c.args.positions.now c.args.accums.now) (c.args.len) _ (c.lengths_fine.ensures) ((ap not c.if-not-lengths_fine.false)) _ refl (c.if-positions-c.false) (c.if-accums-ne-RUN_WORDS.false) (c.if-len-gt-TRACE_LIMIT.false) _ _ (c.judge_tables.ensures) c.in_ok-judge_tables.was (c.judge_positions.ensures)
