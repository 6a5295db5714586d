use mathlib.Core.Path.{refl}
use borrow.Author.Tests.{eq-eqb, ne_eqb}
use Rattle.ring_laws.specs.Table.{unlinked}
use Rattle.ring.proofs.rings.RingsMut.unlink_behind.Goals as goal

pub returns-then-sw-eq0 : goal.returns-then-sw-eq0
unfolding unlinked
returns-then-sw-eq0 c = record { is = simp (eq-eqb _ _ c.if-sw-eq0.true); kept = record { half = refl; same = refl } }

pub returns : goal.returns
unfolding unlinked
returns c = record { is = simp (ne_eqb _ _ c.if-sw-eq0.false, c.requires.pw_value); kept = record { half = refl; same = refl } }
