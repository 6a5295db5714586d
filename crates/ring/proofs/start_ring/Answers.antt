use mathlib.Core.Path.{refl}
use Rattle.ring_laws.specs.Table.{self_linked}
use Rattle.ring.proofs.start_ring.Goals as goal

pub returns : goal.returns
unfolding self_linked
returns c = refl
