use native.Mathlib.Omega.{arith}
use Rattle.std.specs.Prelude.{refl}
use borrow.Author.Tests.{le-leb, lt-leb}
use borrow.Author.Rules.{rules}
use Rattle.sheet.specs.AllTo.{left_start, left_turn, left_break, left_out}
use Rattle.sheet.specs.Sheet.{start_at}
use Rattle.sheet_check.proofs.check.starts_fine.Goals as goal

pub loop-p-init : goal.loop-p-init
loop-p-init c = left_start _ _ _ refl

pub returns-then-header-start_at : goal.returns-then-header-start_at
returns-then-header-start_at c = left_break _ _ _ c.loop-p.invariant c.loop-p-test.true (lt-leb (start_at _ _) _ (search rules))

pub loop-p-preserved : goal.loop-p-preserved
loop-p-preserved c = left_turn _ _ _ c.loop-p.invariant c.loop-p-test.true (le-leb (start_at _ _) _ (search rules))

pub returns : goal.returns
returns c = left_out _ _ _ c.loop-p.invariant (omega (arith, c.loop-p-test.false))
