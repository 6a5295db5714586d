use mathlib.Core.Path.{refl, ◌∙◌}
use Rattle.simset_laws.specs.Promise.{failed, passed, head_in}
use Rattle.sheet.specs.Sheet.{record_from}
use Rattle.run_laws.proofs.ReadsLaws.{operand_low, no_head, branch_3, branch_to, branch_on}
use native.Mathlib.Omega.{arith}
use Rattle.std.proofs.Common.{ap, not}
use Rattle.run_step.proofs.perform.branch.Goals as goal

pub returns-then-not-is_head : goal.returns-then-not-is_head
returns-then-not-is_head c = branch_3 _ (record_from c.args.call.sheet.now c.args.call.at) _ _ _ refl (no_head _ _ _ _ c.requires.readable.resolvable c.requires.readable.operand c.requires.f_nonzero (rw c.x-x.ensures at (failed _ _ c.is_head.ensures (ap not c.if-not-is_head.true))))

pub returns-then-links-x : goal.returns-then-links-x
returns-then-links-x c = branch_to _ (record_from c.args.call.sheet.now c.args.call.at) _ _ _ (c.x-x.ensures ∙ operand_low _ _ _ _ c.requires.readable.resolvable _ (omega (arith, c.x-x.ensures, head_in c.args.c c.x-x.result (passed c.is_head.result _ c.is_head.ensures (ap not c.if-not-is_head.false))))) (passed _ _ c.is_head.ensures (ap not c.if-not-is_head.false)) _ refl c.if-links-x.true _ c.y.ensures

pub returns : goal.returns
returns c = branch_on _ (record_from c.args.call.sheet.now c.args.call.at) _ _ _ (c.x-x.ensures ∙ operand_low _ _ _ _ c.requires.readable.resolvable _ (omega (arith, c.x-x.ensures, head_in c.args.c c.x-x.result (passed c.is_head.result _ c.is_head.ensures (ap not c.if-not-is_head.false))))) (passed _ _ c.is_head.ensures (ap not c.if-not-is_head.false)) _ refl c.if-links-x.false
