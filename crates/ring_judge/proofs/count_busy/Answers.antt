use Rattle.ring_judge.proofs.Judging.{weighs_start, weighs_turn}
use Rattle.ring_judge.proofs.count_busy.Goals as goal

pub loop-j-init : goal.loop-j-init
loop-j-init c = weighs_start _ _ _

pub loop-j-preserved : goal.loop-j-preserved
loop-j-preserved c = weighs_turn _ _ _ _ _ _ _ c.loop-j.invariant c.is_idle.ensures c.from-n.ensures
