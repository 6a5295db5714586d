use Rattle.std.proofs.Common.{◌-◌}
use Rattle.calls.proofs.flow.Flow.read_up_to.Given as goal

abbrev pub decreases-loop-self : goal.decreases-loop-self
decreases-loop-self g l = 262144 - l.self.end
