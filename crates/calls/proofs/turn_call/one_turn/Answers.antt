use native.Mathlib.Omega.{arith}
use Rattle.std.proofs.Common.{sym, ◌∙◌}
use Rattle.run_laws.specs.Judging.{fine_standing}
use Rattle.run_laws.specs.Run.{lent}
use Rattle.calls.proofs.turn_call.one_turn.Goals as goal

pub turn-requires : goal.turn-requires
turn-requires c =
    let run = lent c.args.links.now c.args.axis.now c.args.times.now c.args.marks.now c.args.positions.now c.args.accums.now in
    let fine = fine_standing c.args.sheet.now c.in_ok-header.header run _ (sym c.check.ensures ∙ c.in_ok-header.was) (sym c.judge_run.ensures ∙ c.in_ok-judge_run.was) in
    record { standing = fine.0; trace_len_bound = fine.1; i_value = omega arith; line_size_in_bounds = c.requires }
