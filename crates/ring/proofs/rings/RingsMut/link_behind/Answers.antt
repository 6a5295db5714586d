use mathlib.Core.Path.{refl}
use Rattle.ring_laws.specs.Table.{linked_behind}
use Rattle.ring.proofs.rings.RingsMut.link_behind.Goals as goal

pub returns : goal.returns
unfolding linked_behind
returns c = record { is = refl; kept = record { half = refl; same = refl } }
