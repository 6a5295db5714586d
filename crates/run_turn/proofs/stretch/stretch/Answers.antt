use Rattle.std.specs.Prelude.{Ok}
use mathlib.Core.Path.{refl, ap, ◌∙◌}
use Rattle.run_laws.specs.declared.Effect.TheVariants.{Stays, Moves}
use Rattle.run_laws.specs.Tried.{is_apart}
use Rattle.run_laws.specs.Standing.{its_judged, in_positions, in_times}
use Rattle.run_laws.specs.StepIs.{stayed, to_next, jumps_to}
use Rattle.run_laws.proofs.Counting.{line_in_lem}
use Rattle.run_laws.proofs.Stretching.{stretching_start, its_call_lem, its_linking, in_table, its_number, stopped, stays, stands_on, next_kept, moves}
use Rattle.run_laws.proofs.StretchEnds.{fills, waits}
use native.Mathlib.Omega.{arith}
use Rattle.run_turn.proofs.stretch.stretch.Goals as goal

pub place_now-f-requires : goal.place_now-f-requires
place_now-f-requires c = its_judged _ _ _ c.requires.standing

pub time_of-time-requires : goal.time_of-time-requires
time_of-time-requires c = in_times _ _ _ c.requires.standing _ c.place_now-f.ensures

pub record_of-r-requires : goal.record_of-r-requires
record_of-r-requires c = in_positions _ _ _ c.requires.standing _ c.place_now-f.ensures

pub loop-at-init : goal.loop-at-init
loop-at-init c = (stretching_start _ _ _ _ _ _ _ _ _ _ c.requires.standing c.requires.trace_len_bound c.requires.from_value c.requires.from_le_end c.requires.end_in_bounds c.past_last-stop.ensures c.place_now-f.ensures c.time_of-time.ensures c.record_of-r.ensures, c.requires.covers, refl)

pub perform-requires-clause-performable : goal.perform-requires-clause-performable
perform-requires-clause-performable c = its_call_lem _ _ _ _ _ _ _ _ _ _ _ _ _ _ c.loop-at.invariant.0

pub perform-requires-clause-covers : goal.perform-requires-clause-covers
perform-requires-clause-covers c = c.loop-at.invariant.1

pub write-requires-clause-f_bound : goal.write-requires-clause-f_bound
write-requires-clause-f_bound c = its_number _ _ _ _ _ _ _ _ _ _ _ _ _ _ c.loop-at.invariant.0

pub write-requires-clause-line_size_in_bounds : goal.write-requires-clause-line_size_in_bounds
write-requires-clause-line_size_in_bounds c = line_in_lem _ _ _ _ _ _ _ _ _ _ c.loop-at.invariant.0.counting c.loop-at-test.true

pub next_of-r-requires : goal.next_of-r-requires
next_of-r-requires c = λ z. (its_call_lem _ _ _ _ _ _ _ _ _ _ _ _ _ _ c.loop-at.invariant.0 z).callable.inside

pub loop-at-smaller-in-Ok-Stays : goal.loop-at-smaller-in-Ok-Stays
loop-at-smaller-in-Ok-Stays c = omega (arith, c.loop-at-test.true)

pub loop-at-preserved-in-Ok-Stays : goal.loop-at-preserved-in-Ok-Stays
loop-at-preserved-in-Ok-Stays c = (stays _ _ _ _ _ _ _ _ _ _ _ _ _ _ c.loop-at.invariant.0 c.loop-at-test.true _ _ c.perform.ensures.result_after (ap is_apart (c.in-Ok-Stays.is ∙ ap Ok c.in-Ok-Stays.field-0-is)) _ (to_next _ _ _ (Ok Stays) refl (c.in-Ok-Stays.is ∙ ap Ok c.in-Ok-Stays.field-0-is) c.next_of-r.ensures) _ c.write.auto.trace (ap stayed (c.in-Ok-Stays.is ∙ ap Ok c.in-Ok-Stays.field-0-is)) c.write.ensures, c.perform.ensures.covers_2 (its_linking _ _ _ _ _ _ _ _ _ _ _ _ _ _ c.loop-at.invariant.0), c.perform.auto.bounds ∙ c.loop-at.invariant.2)

pub write-requires-in-Ok-Jumps-clause-f_bound : goal.write-requires-in-Ok-Jumps-clause-f_bound
write-requires-in-Ok-Jumps-clause-f_bound c = its_number _ _ _ _ _ _ _ _ _ _ _ _ _ _ c.loop-at.invariant.0

pub write-requires-in-Ok-Jumps-clause-line_size_in_bounds : goal.write-requires-in-Ok-Jumps-clause-line_size_in_bounds
write-requires-in-Ok-Jumps-clause-line_size_in_bounds c = line_in_lem _ _ _ _ _ _ _ _ _ _ c.loop-at.invariant.0.counting c.loop-at-test.true

pub loop-at-smaller-in-Ok-Jumps : goal.loop-at-smaller-in-Ok-Jumps
loop-at-smaller-in-Ok-Jumps c = omega (arith, c.loop-at-test.true)

pub loop-at-preserved-in-Ok-Jumps : goal.loop-at-preserved-in-Ok-Jumps
loop-at-preserved-in-Ok-Jumps c = (stays _ _ _ _ _ _ _ _ _ _ _ _ _ _ c.loop-at.invariant.0 c.loop-at-test.true _ _ c.perform.ensures.result_after (ap is_apart (c.in-Ok-Jumps.is ∙ ap Ok c.in-Ok-Jumps.field-0-is)) _ (jumps_to _ _ _ (c.in-Ok-Jumps.is ∙ ap Ok c.in-Ok-Jumps.field-0-is)) _ c.write-in-Ok-Jumps.auto.trace (ap stayed (c.in-Ok-Jumps.is ∙ ap Ok c.in-Ok-Jumps.field-0-is)) c.write-in-Ok-Jumps.ensures, c.perform.ensures.covers_2 (its_linking _ _ _ _ _ _ _ _ _ _ _ _ _ _ c.loop-at.invariant.0), c.perform.auto.bounds ∙ c.loop-at.invariant.2)

pub next_of-next-requires : goal.next_of-next-requires
next_of-next-requires c = λ z. (its_call_lem _ _ _ _ _ _ _ _ _ _ _ _ _ _ c.loop-at.invariant.0 z).callable.inside

pub move_on-requires-clause-f_in_bounds : goal.move_on-requires-clause-f_in_bounds
move_on-requires-clause-f_in_bounds c = in_table _ _ _ _ _ _ _ _ _ _ _ _ _ _ c.loop-at.invariant.0

pub move_on-requires-clause-f_bound : goal.move_on-requires-clause-f_bound
move_on-requires-clause-f_bound c = its_number _ _ _ _ _ _ _ _ _ _ _ _ _ _ c.loop-at.invariant.0

pub move_on-requires-clause-line_size_in_bounds : goal.move_on-requires-clause-line_size_in_bounds
move_on-requires-clause-line_size_in_bounds c = line_in_lem _ _ _ _ _ _ _ _ _ _ c.loop-at.invariant.0.counting c.loop-at-test.true

pub place_now-g-requires : goal.place_now-g-requires
place_now-g-requires c = its_judged _ _ _ (stands_on _ _ _ _ _ _ _ _ _ _ _ _ _ _ c.loop-at.invariant.0 c.loop-at-test.true _ _ c.perform.ensures.result_after (ap is_apart (c.in-Ok-Moves.is ∙ ap Ok c.in-Ok-Moves.field-0-is)) _ (to_next _ _ _ (Ok Moves) refl (c.in-Ok-Moves.is ∙ ap Ok c.in-Ok-Moves.field-0-is) c.next_of-next.ensures) _ c.move_on.auto.trace _ c.move_on.ensures)

pub position-r-requires-clause-f_in_bounds : goal.position-r-requires-clause-f_in_bounds
position-r-requires-clause-f_in_bounds c = in_positions _ _ _ (stands_on _ _ _ _ _ _ _ _ _ _ _ _ _ _ c.loop-at.invariant.0 c.loop-at-test.true _ _ c.perform.ensures.result_after (ap is_apart (c.in-Ok-Moves.is ∙ ap Ok c.in-Ok-Moves.field-0-is)) _ (to_next _ _ _ (Ok Moves) refl (c.in-Ok-Moves.is ∙ ap Ok c.in-Ok-Moves.field-0-is) c.next_of-next.ensures) _ c.move_on.auto.trace _ c.move_on.ensures) _ c.place_now-g.ensures

pub position-r-requires-clause-at_value : goal.position-r-requires-clause-at_value
position-r-requires-clause-at_value c = next_kept _ _ _ _ _ _ _ _ _ _ _ _ _ _ c.loop-at.invariant.0 c.loop-at-test.true _ _ c.perform.ensures.result_after (ap is_apart (c.in-Ok-Moves.is ∙ ap Ok c.in-Ok-Moves.field-0-is)) _ (to_next _ _ _ (Ok Moves) refl (c.in-Ok-Moves.is ∙ ap Ok c.in-Ok-Moves.field-0-is) c.next_of-next.ensures) _ c.move_on.auto.trace _ c.move_on.ensures

pub time_of-time-requires-in-Ok-Moves : goal.time_of-time-requires-in-Ok-Moves
time_of-time-requires-in-Ok-Moves c = in_times _ _ _ (stands_on _ _ _ _ _ _ _ _ _ _ _ _ _ _ c.loop-at.invariant.0 c.loop-at-test.true _ _ c.perform.ensures.result_after (ap is_apart (c.in-Ok-Moves.is ∙ ap Ok c.in-Ok-Moves.field-0-is)) _ (to_next _ _ _ (Ok Moves) refl (c.in-Ok-Moves.is ∙ ap Ok c.in-Ok-Moves.field-0-is) c.next_of-next.ensures) _ c.move_on.auto.trace _ c.move_on.ensures) _ c.place_now-g.ensures

pub loop-at-smaller : goal.loop-at-smaller
loop-at-smaller c = omega (arith, c.loop-at-test.true)

pub loop-at-preserved : goal.loop-at-preserved
loop-at-preserved c = (moves _ _ _ _ _ _ _ _ _ _ _ _ _ _ c.loop-at.invariant.0 c.loop-at-test.true _ _ c.perform.ensures.result_after (ap is_apart (c.in-Ok-Moves.is ∙ ap Ok c.in-Ok-Moves.field-0-is)) _ (to_next _ _ _ (Ok Moves) refl (c.in-Ok-Moves.is ∙ ap Ok c.in-Ok-Moves.field-0-is) c.next_of-next.ensures) _ c.move_on.auto.trace _ c.move_on.ensures _ _ _ c.place_now-g.ensures c.time_of-time-in-Ok-Moves.ensures c.position-r.ensures, c.perform.ensures.covers_2 (its_linking _ _ _ _ _ _ _ _ _ _ _ _ _ _ c.loop-at.invariant.0), c.perform.auto.bounds ∙ c.loop-at.invariant.2)

pub place-requires : goal.place-requires
place-requires c = in_table _ _ _ _ _ _ _ _ _ _ _ _ _ _ c.loop-at.invariant.0

pub returns-in-Ok-Apart-clause-paused : goal.returns-in-Ok-Apart-clause-paused
returns-in-Ok-Apart-clause-paused c = waits _ _ _ _ _ _ _ _ _ _ _ _ _ _ c.loop-at.invariant.0 c.loop-at-test.true _ _ c.perform.ensures.result_after (ap is_apart (c.in-Ok-Apart.is ∙ ap Ok c.in-Ok-Apart.field-0-is)) _ c.place.ensures

pub returns-in-Ok-Apart-clause-covers_2 : goal.returns-in-Ok-Apart-clause-covers_2
returns-in-Ok-Apart-clause-covers_2 c = c.perform.ensures.covers_2 (its_linking _ _ _ _ _ _ _ _ _ _ _ _ _ _ c.loop-at.invariant.0)

pub place-requires-in-Err : goal.place-requires-in-Err
place-requires-in-Err c = in_table _ _ _ _ _ _ _ _ _ _ _ _ _ _ c.loop-at.invariant.0

pub returns-in-Err-clause-paused : goal.returns-in-Err-clause-paused
returns-in-Err-clause-paused c = stopped _ _ _ _ _ _ _ _ _ _ _ _ _ _ c.loop-at.invariant.0 c.loop-at-test.true _ _ c.perform.ensures.result_after (ap is_apart c.in-Err.is) _ c.in-Err.is _ c.place-in-Err.ensures

pub returns-in-Err-clause-covers_2 : goal.returns-in-Err-clause-covers_2
returns-in-Err-clause-covers_2 c = c.perform.ensures.covers_2 (its_linking _ _ _ _ _ _ _ _ _ _ _ _ _ _ c.loop-at.invariant.0)

pub place-requires-2 : goal.place-requires-2
place-requires-2 c = in_table _ _ _ _ _ _ _ _ _ _ _ _ _ _ c.loop-at.invariant.0

pub returns-clause-paused : goal.returns-clause-paused
returns-clause-paused c = fills _ _ _ _ _ _ _ _ _ _ _ _ _ _ c.loop-at.invariant.0 c.loop-at-test.false _ c.place-2.ensures

pub returns-clause-covers_2 : goal.returns-clause-covers_2
returns-clause-covers_2 c = c.loop-at.invariant.1
