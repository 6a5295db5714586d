use Rattle.accum_laws.specs.Gather.{copied_taken}
use Rattle.accum_update.proofs.gather.gather.Goals as goal

pub loop-i-preserved : goal.loop-i-preserved
loop-i-preserved c = copied_taken _ _ _ _ c.loop-i.invariant c.loop-i-test.true _ c.taken.ensures
