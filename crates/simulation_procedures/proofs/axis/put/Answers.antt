use Rattle.ring.specs.Rings.{made}
use Rattle.simulation_procedures.proofs.Chained.{put_by}
use Rattle.simulation_procedures.proofs.axis.put.Goals as goal

pub returns-clause-left : goal.returns-clause-left
returns-clause-left c = put_by _ _ _ _ _ _ _ _ (made _ _ _ c.link_behind.ensures) c.store.ensures
