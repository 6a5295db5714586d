use Rattle.std.proofs.Common.{ℕ, List}
use borrow.Author.Rules.{rules}
use Rattle.ring.specs.Rings.{told_by}
use Rattle.model_laws.specs.Now.{half}
use Rattle.simulation_laws.specs.Sign.{above_passed}
use Rattle.simulation_laws.specs.Plain.{above}
use Rattle.simulation_laws.specs.Procedures.{held}
use Rattle.simulation_laws.specs.Promise.{sqs, Answers}
use Rattle.simulation_laws.specs.Calls.{hold_step}
use Rattle.simulation.proofs.steps.hold.Goals as goal

pub returns : goal.returns
unfolding hold_step
returns c =
    told_by (half c.args.c) c.args.axis.now _ c.axis_of.result c.hold.new.axis c.axis_of.ensures.value (search rules)
    (λ (m : ℕ) (a v : List ℕ). Answers m (held m (above c.args.t) (sqs a c.args.times.now)) v c.hold.new.times c.hold.result)
    (rw (above_passed c.args.t c.ranges.t _ c.above_zero.ensures) at c.hold.ensures.answers)
