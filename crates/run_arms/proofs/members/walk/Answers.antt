use Rattle.std.specs.Prelude.{ℕ, ◌+◌, refl}
use Rattle.std.proofs.Common.{sym, subst, ◌∙◌, arith}
use Rattle.std.specs.Prelude.{get_or}
use Rattle.model.specs.Counts.{is_process, total}
use Rattle.simset_laws.specs.Walk.{Walking}
use Rattle.simset_laws.proofs.Walk.{walk_found, walk_none, walk_on, walk_out}
use Rattle.run_arms.proofs.members.walk.Goals as goal

pub returns-then-is_process : goal.returns-then-is_process
returns-then-is_process c = walk_found _ _ _ _ _ _ _ c.loop.invariant (omega (arith, c.total-end.ensures)) (sym c.is_process.ensures ∙ c.if-is_process.true)

pub returns-then-i-c : goal.returns-then-i-c
returns-then-i-c c = walk_none _ _ _ _ _ _ _ c.loop.invariant (omega (arith, c.total-end.ensures)) (sym c.is_process.ensures ∙ c.if-is_process.false) c.if-i-c.true

pub loop-preserved : goal.loop-preserved
loop-preserved c =
    subst (λ (k : ℕ). Walking (is_process c.args.c) c.args.c.heads (total c.args.c + 1) c.args.links.now c.args.v k (get_or c.args.links.now c.loop.i 0))
    (omega (arith, c.total-end.ensures))
    (walk_on _ _ _ _ _ _ _ c.loop.invariant (omega (arith, c.total-end.ensures)) c.requires.sound (sym c.is_process.ensures ∙ c.if-is_process.false) c.if-i-c.false _ refl)

pub returns : goal.returns
returns c = walk_out _ _ _ _ _ _ _ c.loop.invariant (omega (arith, c.total-end.ensures))
