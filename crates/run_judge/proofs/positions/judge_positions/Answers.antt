use Rattle.std.specs.Prelude.{refl}
use Rattle.run_judge.proofs.Judging.{positions_length, positions_not, positions_fine_lem}
use Rattle.std.proofs.Common.{ap, not}
use Rattle.run_judge.proofs.positions.judge_positions.Goals as goal

pub returns-then-positions-p : goal.returns-then-positions-p
returns-then-positions-p c = positions_length c.args.c _ _ _ refl c.if-positions-p.true

pub returns-then-not-positions_fine : goal.returns-then-not-positions_fine
returns-then-not-positions_fine c = positions_not c.args.c _ _ _ refl c.if-positions-p.false _ c.positions_fine.ensures (ap not c.if-not-positions_fine.true)

pub returns : goal.returns
returns c = positions_fine_lem c.args.c _ _ _ refl c.if-positions-p.false _ c.positions_fine.ensures (ap not c.if-not-positions_fine.false)
