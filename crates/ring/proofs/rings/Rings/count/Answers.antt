use mathlib.Core.Path.{refl}
use Rattle.ring.proofs.Counting.{counting_start, counting_turn, counting_found, counting_out}
use Rattle.ring.proofs.rings.Rings.count.Goals as goal

pub loop-n-init : goal.loop-n-init
loop-n-init c = counting_start _ _ _ _ _ c.args.self.sound c.requires refl

pub returns-then-i-h : goal.returns-then-i-h
returns-then-i-h c = counting_found _ _ _ _ _ _ c.loop-n.invariant c.if-i-h.true

pub loop-n-preserved : goal.loop-n-preserved
loop-n-preserved c =
    counting_turn _ _ _ _ _ _ c.loop-n.invariant _ c.args.self.sound c.loop-n-test.true c.if-i-h.false refl

pub returns : goal.returns
returns c = counting_out _ _ _ _ _ _ c.loop-n.invariant c.loop-n-test.false
