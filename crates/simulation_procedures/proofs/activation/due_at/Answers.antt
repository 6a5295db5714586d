use Rattle.simulation_procedures.proofs.Arms.{due_direct, due_beside, due_after, due_early, due_late}
use Rattle.simulation_procedures.proofs.activation.due_at.Goals as goal

pub returns-then-k-eq0 : goal.returns-then-k-eq0
returns-then-k-eq0 c = due_direct _ _ _ _ _ _ c.if-k-eq0.true c.plus.ensures

pub returns-then-k-ge5 : goal.returns-then-k-ge5
returns-then-k-ge5 c = due_beside _ _ _ _ _ _ _ c.if-k-ge5.true c.due.ensures c.plus-then-k-ge5.ensures

pub returns-then-k-eq2 : goal.returns-then-k-eq2
returns-then-k-eq2 c = due_after _ _ _ _ _ _ c.then-k-eq2.either c.plus-then-k-eq2.ensures

pub returns-then-d-time : goal.returns-then-d-time
returns-then-d-time c = due_early _ _ _ _ _ _ c.if-k-eq0.false c.if-k-ge5.false c.if-k-eq2.false c.if-k-eq4.false c.if-d-time.true c.plus-then-d-time.ensures

pub returns : goal.returns
returns c = due_late _ _ _ _ _ _ c.if-k-eq0.false c.if-k-ge5.false c.if-k-eq2.false c.if-k-eq4.false c.if-d-time.false c.plus-2.ensures
