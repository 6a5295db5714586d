use native.Mathlib.Omega.{arith}
use Rattle.simulation_procedures.proofs.Chained.{place_5, place_6, place_behind, place_now, place_front}
use Rattle.simulation_procedures.proofs.activation.place_for.Goals as goal

pub returns-then-k-eq5 : goal.returns-then-k-eq5
returns-then-k-eq5 c = place_5 _ _ _ _ _ _ _ _ c.if-k-eq5.true c.prev.ensures

pub returns-then-k-eq6 : goal.returns-then-k-eq6
returns-then-k-eq6 c = place_6 _ _ _ _ _ _ _ c.requires.y_lt_m c.if-k-eq6.true

pub returns-then-k-eq1 : goal.returns-then-k-eq1
returns-then-k-eq1 c = place_behind _ _ _ _ _ _ _ _ c.then-k-eq1.either c.seek.ensures

pub returns-then-u-time : goal.returns-then-u-time
returns-then-u-time c = place_now _ _ _ _ _ _ _ c.if-k-eq5.false c.if-k-eq6.false c.if-k-eq1.false c.if-k-eq2.false (omega (arith, c.args.axis.sound.inside 0)) c.if-u-time.true

pub returns : goal.returns
returns c = place_front _ _ _ _ _ _ _ c.if-k-eq5.false c.if-k-eq6.false c.if-k-eq1.false c.if-k-eq2.false _ c.if-u-time.false c.seek-2.ensures
