use Rattle.std.proofs.Common.{ℕ, List}
use borrow.Author.Rules.{rules}
use Rattle.ring.specs.Rings.{told_by}
use Rattle.model_laws.specs.Now.{half}
use Rattle.simulation_laws.specs.Procedures.{passivated}
use Rattle.simulation_laws.specs.Promise.{sqs, Answers}
use Rattle.simulation_laws.specs.Calls.{passivate_step}
use Rattle.simulation.proofs.steps.passivate.Goals as goal

pub returns : goal.returns
unfolding passivate_step
returns c =
    told_by (half c.args.c) c.args.axis.now _ c.axis_of.result c.passivate.new.axis c.axis_of.ensures.value (search rules)
    (λ (m : ℕ) (a v : List ℕ). Answers m (passivated m (sqs a c.args.times.now)) v c.passivate.new.times c.passivate.result)
    c.passivate.ensures.answers
