use mathlib.Core.Path.{refl, ap, ◌∙◌}
use native.Mathlib.Numerals.{add-one}
use Prim.Native.Nat.{◌+◌}
use Rattle.ring_laws.specs.Table.{self_linked}
use Rattle.model_laws.specs.Fresh.{fresh_heads}
use Rattle.model_fresh.proofs.start_heads.Goals as goal

pub loop-h-init : goal.loop-h-init
unfolding fresh_heads
loop-h-init c = refl

pub loop-h-preserved : goal.loop-h-preserved
unfolding fresh_heads
loop-h-preserved c = c.start_ring.ensures ∙ ap (self_linked c.args.m (c.loop-h.h + 1)) c.loop-h.invariant ∙ rw (add-one c.loop-h.h)
