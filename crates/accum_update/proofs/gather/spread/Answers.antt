use Rattle.accum_laws.specs.Gather.{copied_put}
use Rattle.accum_update.proofs.gather.spread.Goals as goal

pub loop-i-preserved : goal.loop-i-preserved
loop-i-preserved c =
    copied_put _ _ _ _ c.loop-i.invariant c.loop-i-test.true _ c.put.ensures
