use Rattle.std.specs.Prelude.{Ok}
use mathlib.Core.Path.{refl, sym, ap, ◌∙◌}
use mathlib.Core.Bool.{◌||◌}
use Rattle.simset_laws.proofs.UnknownBounds.{covers_unknown, unknown_length}
use Rattle.run_laws.specs.declared.Pause.{Pause}
use Rattle.run_laws.specs.Standing.{allowed, its_judged, in_positions}
use Rattle.run_laws.proofs.Turning.{out_finished, out_full}
use Rattle.run_laws.proofs.Counting.{counting_start, few_bytes, room_left, no_room, as_required, counting_on}
use Rattle.run_laws.specs.Running.{here_at}
use Rattle.run_laws.proofs.Running.{ends}
use Rattle.run_laws.specs.Paused.{is_full, is_due}
use Rattle.run_laws.proofs.Between.{paused_on, paused_off, few_after, due_on, due_room, due_fits}
use Rattle.run_laws.proofs.OneTurn.{turned_finished, turned_refused, turned_made}
use native.Mathlib.Omega.{arith}
use Rattle.run_turns.proofs.turns.Goals as goal

pub unknown_bounds-bounds-requires : goal.unknown_bounds-bounds-requires
unknown_bounds-bounds-requires c = allowed _ _ _ c.requires.standing

pub loop-at-init : goal.loop-at-init
loop-at-init c = (counting_start _ _ _ _ _ _ _ _ c.requires.standing c.requires.trace_len_bound (omega arith) (omega arith) (omega arith) c.past_last-stop.ensures, covers_unknown c.args.c _ _ c.unknown_bounds-bounds.ensures (allowed _ _ _ c.requires.standing), unknown_length c.args.c _ c.unknown_bounds-bounds.ensures)

pub stretch-s-requires : goal.stretch-s-requires
stretch-s-requires c =
    let q = as_required _ _ _ _ _ _ _ _ _ _ c.loop-at.invariant.0 in
    record {
      standing = c.loop-at.invariant.0.turning.stands;
      trace_len_bound = q.0;
      from_value = q.1.0;
      from_le_end = q.1.1.0;
      end_in_bounds = q.1.1.1;
      covers = c.loop-at.invariant.1;
    }

pub loop-at-smaller-in-Full : goal.loop-at-smaller-in-Full
loop-at-smaller-in-Full c = omega (arith, room_left _ _ _ _ _ _ _ _ _ _ c.loop-at.invariant.0 c.loop-at-test.true, c.stretch-s.ensures.paused.full (ap is_full c.in-Full.is))

pub loop-at-preserved-in-Full : goal.loop-at-preserved-in-Full
loop-at-preserved-in-Full c = (paused_on _ _ _ _ _ _ _ _ _ _ c.loop-at.invariant.0 _ _ _ c.stretch-s.ensures.paused (ap (λ (q : Pause). is_full q || is_due q) c.in-Full.is), c.stretch-s.ensures.covers_2, c.stretch-s.auto.bounds ∙ c.loop-at.invariant.2)

pub lines_in-requires : goal.lines_in-requires
lines_in-requires c = few_after _ _ _ _ _ _ _ _ _ _ c.loop-at.invariant.0 _ _ _ c.stretch-s.ensures.paused

pub returns-in-Refused : goal.returns-in-Refused
returns-in-Refused c = paused_off _ _ _ _ _ _ _ _ _ _ c.loop-at.invariant.0 _ _ _ c.stretch-s.ensures.paused _ c.lines_in.ensures _ c.in-Refused.is

pub turn_apart-requires-clause-standing : goal.turn_apart-requires-clause-standing
turn_apart-requires-clause-standing c = (due_on _ _ _ _ _ _ _ _ _ _ c.loop-at.invariant.0 _ _ _ c.stretch-s.ensures.paused (ap is_due c.in-Apart.is)).turning.stands

pub turn_apart-requires-clause-line_size_in_bounds : goal.turn_apart-requires-clause-line_size_in_bounds
turn_apart-requires-clause-line_size_in_bounds c = due_fits _ _ _ _ _ _ _ _ _ _ c.loop-at.invariant.0 _ _ _ c.stretch-s.ensures.paused (ap is_due c.in-Apart.is)

pub turn_apart-requires-clause-accums_value : goal.turn_apart-requires-clause-accums_value
turn_apart-requires-clause-accums_value c = (c.stretch-s.ensures.paused.due (ap is_due c.in-Apart.is)).1

pub turn_apart-requires-clause-covers : goal.turn_apart-requires-clause-covers
turn_apart-requires-clause-covers c = c.stretch-s.ensures.covers_2

pub lines_in-requires-in-Ok-Finished : goal.lines_in-requires-in-Ok-Finished
lines_in-requires-in-Ok-Finished c = few_after _ _ _ _ _ _ _ _ _ _ c.loop-at.invariant.0 _ _ _ c.stretch-s.ensures.paused

pub returns-in-Ok-Finished : goal.returns-in-Ok-Finished
returns-in-Ok-Finished c = turned_finished _ _ _ _ _ _ _ _ _ (due_on _ _ _ _ _ _ _ _ _ _ c.loop-at.invariant.0 _ _ _ c.stretch-s.ensures.paused (ap is_due c.in-Apart.is)).turning (due_room _ _ _ _ _ _ _ _ _ _ c.loop-at.invariant.0 _ _ _ c.stretch-s.ensures.paused (ap is_due c.in-Apart.is)) _ c.stretch-s.ensures.paused.place _ c.turn_apart.ensures.result_after _ c.lines_in-in-Ok-Finished.ensures (c.in-Ok-Finished.is ∙ ap Ok c.in-Ok-Finished.field-0-is)

pub lines_in-requires-in-Err : goal.lines_in-requires-in-Err
lines_in-requires-in-Err c = few_after _ _ _ _ _ _ _ _ _ _ c.loop-at.invariant.0 _ _ _ c.stretch-s.ensures.paused

pub returns-in-Err : goal.returns-in-Err
returns-in-Err c = turned_refused _ _ _ _ _ _ _ _ _ (due_on _ _ _ _ _ _ _ _ _ _ c.loop-at.invariant.0 _ _ _ c.stretch-s.ensures.paused (ap is_due c.in-Apart.is)).turning (due_room _ _ _ _ _ _ _ _ _ _ c.loop-at.invariant.0 _ _ _ c.stretch-s.ensures.paused (ap is_due c.in-Apart.is)) _ c.stretch-s.ensures.paused.place _ c.turn_apart.ensures.result_after _ c.lines_in-in-Err.ensures _ c.in-Err.is

pub loop-at-smaller : goal.loop-at-smaller
loop-at-smaller c = omega (arith, c.stretch-s.ensures.paused.more, due_room _ _ _ _ _ _ _ _ _ _ c.loop-at.invariant.0 _ _ _ c.stretch-s.ensures.paused (ap is_due c.in-Apart.is))

pub loop-at-preserved : goal.loop-at-preserved
loop-at-preserved c = (counting_on _ _ _ _ _ _ _ _ _ _ (due_on _ _ _ _ _ _ _ _ _ _ c.loop-at.invariant.0 _ _ _ c.stretch-s.ensures.paused (ap is_due c.in-Apart.is)) _ _ (turned_made _ _ _ _ _ _ _ _ _ (due_on _ _ _ _ _ _ _ _ _ _ c.loop-at.invariant.0 _ _ _ c.stretch-s.ensures.paused (ap is_due c.in-Apart.is)).turning (due_room _ _ _ _ _ _ _ _ _ _ c.loop-at.invariant.0 _ _ _ c.stretch-s.ensures.paused (ap is_due c.in-Apart.is)) _ c.stretch-s.ensures.paused.place _ c.turn_apart.ensures.result_after (c.in-Ok-Made.is ∙ ap Ok c.in-Ok-Made.field-0-is) c.turn_apart.auto.trace), c.turn_apart.ensures.covers_2, c.turn_apart.auto.bounds ∙ c.stretch-s.auto.bounds ∙ c.loop-at.invariant.2)

pub place_now-f-requires : goal.place_now-f-requires
place_now-f-requires c = its_judged _ _ _ c.loop-at.invariant.0.turning.stands

pub record_of-r-requires : goal.record_of-r-requires
record_of-r-requires c = in_positions _ _ _ c.loop-at.invariant.0.turning.stands _ c.place_now-f.ensures

pub lines_in-requires-then-is_end : goal.lines_in-requires-then-is_end
lines_in-requires-then-is_end c = few_bytes _ _ _ _ _ _ _ _ _ _ c.loop-at.invariant.0

pub returns-then-is_end : goal.returns-then-is_end
returns-then-is_end c = out_finished _ _ _ _ _ _ _ _ _ c.loop-at.invariant.0.turning (no_room _ _ _ _ _ _ _ _ _ _ c.loop-at.invariant.0 c.loop-at-test.false) _ c.lines_in-then-is_end.ensures (sym (ends _ _ _ _ _ _ _ _ _ c.loop-at.invariant.0.turning _ _ _ (here_at _ _ _ _ _ c.place_now-f.ensures refl c.record_of-r.ensures) _ c.is_end.ensures) ∙ c.if-is_end.true)

pub lines_in-requires-2 : goal.lines_in-requires-2
lines_in-requires-2 c = few_bytes _ _ _ _ _ _ _ _ _ _ c.loop-at.invariant.0

pub returns : goal.returns
returns c = out_full _ _ _ _ _ _ _ _ _ c.loop-at.invariant.0.turning (no_room _ _ _ _ _ _ _ _ _ _ c.loop-at.invariant.0 c.loop-at-test.false) _ c.lines_in-2.ensures (sym (ends _ _ _ _ _ _ _ _ _ c.loop-at.invariant.0.turning _ _ _ (here_at _ _ _ _ _ c.place_now-f.ensures refl c.record_of-r.ensures) _ c.is_end.ensures) ∙ c.if-is_end.false)
