use Rattle.ring.specs.Rings.{made}
use Rattle.simulation_procedures.proofs.Chained.{moved_by, put_by}
use Rattle.simulation_procedures.proofs.axis.move_to.Goals as goal

pub returns-clause-left : goal.returns-clause-left
returns-clause-left c =
    moved_by _ _ _ _ _ _ _ _ _ _ _ c.drop_first.ensures.left
    (rw (c.reading.ensures.1, c.reading.ensures.0, c.drop_first.ensures.kept.half) at c.seek-q.ensures)
    (put_by _ _ _ _ _ _ _ _ (rw c.drop_first.ensures.kept.half at (made _ _ _ c.link_behind.ensures)) c.set_time.ensures)
