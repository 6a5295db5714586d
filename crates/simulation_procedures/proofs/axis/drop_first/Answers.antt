use Rattle.ring.specs.Rings.{made}
use Rattle.simulation_procedures.proofs.Chained.{dropped_by}
use Rattle.simulation_procedures.proofs.axis.drop_first.Goals as goal

pub returns-clause-left : goal.returns-clause-left
returns-clause-left c = dropped_by _ _ _ _ _ _ (made _ _ _ c.unlink_behind.ensures) c.set_time.ensures
