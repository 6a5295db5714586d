use Rattle.simulation_procedures.proofs.Chained.{scheduled_by}
use Rattle.simulation_procedures.proofs.activation.schedule.Goals as goal

pub returns-clause-left : goal.returns-clause-left
returns-clause-left c = scheduled_by _ _ _ _ _ _ _ _ _ _ _ _ _ c.drop.ensures.left
    (rw (c.reading.ensures.1, c.reading.ensures.0, c.drop.ensures.kept.half) at c.place_for-q.ensures)
    (rw c.drop.ensures.kept.half at c.put.ensures.left)
