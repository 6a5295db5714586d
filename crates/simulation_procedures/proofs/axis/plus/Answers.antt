use Prim.Native.Nat.{◌+◌}
use native.Mathlib.Omega.{arith}
use Rattle.simulation_laws.specs.Promise.{capped_fine, capped_over}
use mathlib.Core.Path.{sym}
use Rattle.simulation_procedures.proofs.axis.plus.Goals as goal
use Rattle.simulation_procedures.proofs.axis.plus.Goals.{then-a-gt-TIME_LIMIT-via-then-a-gt-TIME_LIMIT, then-a-gt-TIME_LIMIT-via-else-a-gt-TIME_LIMIT+then-b-a}

pub returns-then-a-gt-TIME_LIMIT : goal.returns-then-a-gt-TIME_LIMIT
returns-then-a-gt-TIME_LIMIT c =
    elim c.then-a-gt-TIME_LIMIT.branch [
      | then-a-gt-TIME_LIMIT-via-then-a-gt-TIME_LIMIT w ↦ sym (capped_over (c.args.a + c.args.b) (omega arith))
      | then-a-gt-TIME_LIMIT-via-else-a-gt-TIME_LIMIT+then-b-a w ↦ sym (capped_over (c.args.a + c.args.b) (omega arith))
    ]

pub returns : goal.returns
returns c = sym (capped_fine _ (omega arith))
