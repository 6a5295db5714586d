use Rattle.std.proofs.Common.{ap, not, ℕ, List}
use borrow.Author.Rules.{rules}
use Rattle.ring.specs.Rings.{told_by}
use Rattle.model_laws.specs.Now.{half}
use native.Mathlib.Omega.{arith}
use Rattle.model.specs.Counts.{place_of}
use Rattle.std.proofs.Common.{false}
use Rattle.simulation_laws.specs.Sign.{above_passed}
use Rattle.simulation_laws.specs.Plain.{above}
use Rattle.simulation_laws.specs.Procedures.{activated}
use Rattle.simulation_laws.specs.Promise.{sqs, Answers}
use Rattle.simulation.proofs.ByFirst.{soon_3, soon_0}
use Rattle.simulation.proofs.soon.activate_after.Goals as goal

pub returns-then-not-process_or_none : goal.returns-then-not-process_or_none
returns-then-not-process_or_none c = soon_3 _ _ _ _ _ _ c.process_or_none.ensures 2 (omega arith) c.args.t c.requires.judged.sound (ap not c.if-not-process_or_none.true)

pub returns : goal.returns
returns c = soon_0 _ _ _ _ _ _ c.process_or_none.ensures 2 (omega arith) c.args.t (ap not c.if-not-process_or_none.false) _ _ _
    (told_by (half c.args.c) c.args.axis.now _ c.axis_of.result c.delayed.new.axis c.axis_of.ensures.value (search rules)
    (λ (m : ℕ) (a v : List ℕ). Answers m (activated m false 2 (place_of c.args.c c.args.x) 0 (above c.args.t) c.args.marks.now (sqs a c.args.times.now)) v c.delayed.new.times c.delayed.result)
    (rw (c.place_of.ensures, above_passed c.args.t c.ranges.t _ c.above_zero.ensures) at c.delayed.ensures.answers))
