use native.Mathlib.Omega.{arith}
use Rattle.simulation_axis.proofs.Seeks.{seeks_start, seeks_turn, seeks_head, seeks_back, seeks_front, seeks_out}
use Rattle.simulation_axis.proofs.seek.Goals as goal
use Rattle.simulation_axis.proofs.seek.Goals.{then-q-head-via-then-q-head, then-q-head-via-else-q-head+then-due-w}

pub overflow_sub-head : goal.overflow_sub-head
overflow_sub-head c = omega (arith, c.args.axis.sound.inside 0)

pub bounds-axis-head : goal.bounds-axis-head
bounds-axis-head c = omega (arith, c.args.axis.sound.inside 0, c.args.axis.sound.two)

pub loop-init : goal.loop-init
loop-init c = seeks_start _ _ _ _ c.args.axis.sound

pub returns-then-q-head : goal.returns-then-q-head
returns-then-q-head c =
    elim c.then-q-head.branch [
      | then-q-head-via-then-q-head w ↦ seeks_head _ _ _ _ _ _ _ c.loop.invariant w.if-q-head.true
      | then-q-head-via-else-q-head+then-due-w w ↦ seeks_back _ _ _ _ _ _ _ c.loop.invariant _ w.due.ensures w.if-due-w.true
    ]

pub returns-then-due-w-2 : goal.returns-then-due-w-2
returns-then-due-w-2 c = seeks_front _ _ _ _ _ _ _ c.loop.invariant _ _ c.args.axis.sound c.loop-test.true c.if-q-head.false c.due.ensures c.if-due-w.false c.due-in-loop.ensures c.if-due-w-2.true

pub loop-preserved : goal.loop-preserved
loop-preserved c = seeks_turn _ _ _ _ _ _ _ c.loop.invariant _ _ c.args.axis.sound c.loop-test.true c.if-q-head.false c.due.ensures c.if-due-w.false c.due-in-loop.ensures c.if-due-w-2.false

pub returns : goal.returns
returns c = seeks_out _ _ _ _ _ _ _ c.loop.invariant c.loop-test.false
