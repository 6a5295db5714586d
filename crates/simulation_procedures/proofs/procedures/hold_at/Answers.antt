use Rattle.simulation_procedures.proofs.Chained.{held_last, held_soon, held_moved}
use Rattle.simulation_procedures.proofs.procedures.hold_at.Goals as goal
use Rattle.simulation_procedures.proofs.procedures.hold_at.Goals.{then-s-axis-via-then-s-axis, then-s-axis-via-else-s-axis+then-u-time_at}

pub returns-then-s-axis-clause-left : goal.returns-then-s-axis-clause-left
returns-then-s-axis-clause-left c =
    elim c.then-s-axis.branch [
      | then-s-axis-via-then-s-axis w ↦ held_last _ _ _ _ _ _ (rw (c.reading.ensures.1, c.reading.ensures.0) at c.next-s.ensures) _ c.args.axis.now.sound w.if-s-axis.true c.set_time.ensures
      | then-s-axis-via-else-s-axis+then-u-time_at w ↦ held_soon _ _ _ _ _ _ (rw (c.reading.ensures.1, c.reading.ensures.0) at c.next-s.ensures) _ _ c.args.axis.now.sound w.if-s-axis.false w.time_at.ensures w.if-u-time_at.true c.set_time.ensures
    ]

pub returns-clause-left : goal.returns-clause-left
returns-clause-left c = held_moved _ _ _ _ _ _ (rw (c.reading.ensures.1, c.reading.ensures.0) at c.next-s.ensures) _ _ _ c.if-s-axis.false c.time_at.ensures c.if-u-time_at.false c.move_to.ensures.left
