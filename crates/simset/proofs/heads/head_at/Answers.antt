use borrow.Author.Tests.{le-leb, lt-leb}
use Prim.Native.Nat.{ℕ}
use mathlib.Core.Path.{refl, subst}
use lib.Dec.{leb}
use lib.ListN.{get_or}
use Rattle.simset_laws.specs.Walk.{Walking}
use native.Mathlib.Omega.{arith}
use Rattle.simset_laws.proofs.Walk.{walk_found, walk_on, walk_out}
use Rattle.simset.proofs.heads.head_at.Goals as goal

pub returns-then-i-heads : goal.returns-then-i-heads
returns-then-i-heads c = walk_found _ _ _ _ _ _ _ c.loop.invariant (omega arith) (le-leb _ _ c.if-i-heads.true)

pub loop-preserved : goal.loop-preserved
loop-preserved c =
    subst (λ (k : ℕ). Walking (λ (j : ℕ). leb j c.args.heads) c.args.heads c.args.links.m c.args.links.words.now (get_or c.args.links.words.now c.args.x 0) k (get_or c.args.links.words.now c.loop.i 0))
    (omega arith)
    (walk_on _ _ _ _ _ _ _ c.loop.invariant (omega arith) c.args.links.sound (lt-leb _ _ c.if-i-heads.false) c.if-i-heads.false _ refl)

pub returns : goal.returns
returns c = walk_out _ _ _ _ _ _ _ c.loop.invariant (omega arith)
