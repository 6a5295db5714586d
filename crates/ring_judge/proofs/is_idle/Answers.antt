use Rattle.ring_judge.proofs.Judging.{not_idle, half_idle}
use Rattle.ring_judge.proofs.is_idle.Goals as goal

pub returns-then-t-x-eq0 : goal.returns-then-t-x-eq0
returns-then-t-x-eq0 c = half_idle _ _ _ c.requires.1 c.if-t-x-eq0.true

pub returns-else-t-x-eq0 : goal.returns-else-t-x-eq0
returns-else-t-x-eq0 c = not_idle _ _ _ c.requires.1 c.if-t-x-eq0.false
