use mathlib.Core.Path.{refl}
use Rattle.ring_laws.specs.Table.{linked_before}
use Rattle.ring.proofs.rings.RingsMut.link_before.Goals as goal

pub returns : goal.returns
unfolding linked_before
returns c = record { is = refl; kept = record { half = refl; same = refl } }
