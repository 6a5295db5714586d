use Rattle.ring_judge.proofs.Judging.{not_fine, is_fine_lem}
use Rattle.ring_judge.proofs.rings_fine.Goals as goal

pub returns-then-is_idle : goal.returns-then-is_idle
returns-then-is_idle c = is_fine_lem _ _ _ _ _ _ _ _ c.is_idle.ensures _ _ c.if-is_idle.true c.count_busy.ensures c.all_closed.ensures

pub returns-else-is_idle : goal.returns-else-is_idle
returns-else-is_idle c = not_fine _ _ _ _ _ _ _ _ c.is_idle.ensures c.if-is_idle.false
