use mathlib.Core.Path.{sym, ap, ◌∙◌}
use Rattle.model.specs.Passed.{passed_on}
use Rattle.run_laws.specs.Performed.{Meant, verdict_by, goes_to}
use Rattle.run_laws.specs.Run.{Taken, lent}
use Rattle.run_laws.specs.Standing.{linking, ready, its_judged, in_positions, in_times, number_in}
use Rattle.run_laws.proofs.OneTurn.{turn_callable, turn_apart, turn_finished, turn_refused, turn_made}
use Rattle.run_turn.proofs.turn.turn_apart.Goals as goal

pub place_now-f-requires : goal.place_now-f-requires
place_now-f-requires c = its_judged _ _ _ c.requires.standing

pub record_of-r-requires : goal.record_of-r-requires
record_of-r-requires c = in_positions _ _ _ c.requires.standing _ c.place_now-f.ensures

pub returns-then-is_end-clause-result_after : goal.returns-then-is_end-clause-result_after
returns-then-is_end-clause-result_after c = turn_finished _ _ _ c.requires.standing _ c.place_now-f.ensures _ c.record_of-r.ensures _ _ _ c.is_end.ensures c.if-is_end.true

pub returns-then-is_end-clause-covers_2 : goal.returns-then-is_end-clause-covers_2
returns-then-is_end-clause-covers_2 c = c.requires.covers

pub time_of-time-requires : goal.time_of-time-requires
time_of-time-requires c = in_times _ _ _ c.requires.standing _ c.place_now-f.ensures

pub perform_apart-requires-clause-callable : goal.perform_apart-requires-clause-callable
perform_apart-requires-clause-callable c = λ z. (turn_callable _ _ _ c.requires.standing _ c.place_now-f.ensures _ c.record_of-r.ensures _ c.time_of-time.ensures z).callable

pub perform_apart-requires-clause-ready : goal.perform_apart-requires-clause-ready
perform_apart-requires-clause-ready c = ready _ _ _ c.requires.standing

pub perform_apart-requires-clause-r_value : goal.perform_apart-requires-clause-r_value
perform_apart-requires-clause-r_value c = turn_apart _ _ _ c.requires.standing _ c.place_now-f.ensures _ c.record_of-r.ensures c.requires.accums_value

pub perform_apart-requires-clause-covers : goal.perform_apart-requires-clause-covers
perform_apart-requires-clause-covers c = c.requires.covers

pub next_of-requires : goal.next_of-requires
next_of-requires c = λ z. (turn_callable _ _ _ c.requires.standing _ c.place_now-f.ensures _ c.record_of-r.ensures _ c.time_of-time.ensures z).callable.inside

pub move_on-requires-clause-f_in_bounds : goal.move_on-requires-clause-f_in_bounds
move_on-requires-clause-f_in_bounds c = in_positions _ _ _ c.requires.standing _ c.place_now-f.ensures

pub move_on-requires-clause-f_bound : goal.move_on-requires-clause-f_bound
move_on-requires-clause-f_bound c = number_in _ _ _ c.requires.standing _ c.place_now-f.ensures

pub move_on-requires-clause-line_size_in_bounds : goal.move_on-requires-clause-line_size_in_bounds
move_on-requires-clause-line_size_in_bounds c = c.requires.line_size_in_bounds

pub returns-in_err-e-clause-result_after : goal.returns-in_err-e-clause-result_after
returns-in_err-e-clause-result_after c =
    ap (λ (v : Taken). record { run = lent c.perform_apart.new.links c.perform_apart.new.axis c.perform_apart.new.times c.perform_apart.new.marks c.args.positions.now c.args.accums.now; trace = c.args.trace.now; turn = v }) (passed_on _ _ c.from_residual.ensures.1)
    ∙ turn_refused _ _ _ c.requires.standing _ c.place_now-f.ensures _ c.record_of-r.ensures _ _ _ c.is_end.ensures c.if-is_end.false _ c.time_of-time.ensures _ (c.perform_apart.ensures.leaves _) _ (sym (ap verdict_by c.in_err-e.was))

pub returns-in_err-e-clause-covers_2 : goal.returns-in_err-e-clause-covers_2
returns-in_err-e-clause-covers_2 c = c.perform_apart.ensures.covers_2 (linking _ _ _ c.requires.standing)

pub returns-clause-result_after : goal.returns-clause-result_after
returns-clause-result_after c = turn_made _ _ _ c.requires.standing _ c.place_now-f.ensures _ c.record_of-r.ensures _ _ _ c.is_end.ensures c.if-is_end.false _ c.time_of-time.ensures _ (c.perform_apart.ensures.leaves _) (sym (ap verdict_by c.in_ok-e.was)) _ _ c.next_of.ensures (c.goes_to-next.ensures ∙ ap (λ (v : Meant). goes_to v c.next_of.result) (sym c.in_ok-e.was)) _ _ c.move_on.ensures

pub returns-clause-covers_2 : goal.returns-clause-covers_2
returns-clause-covers_2 c = c.perform_apart.ensures.covers_2 (linking _ _ _ c.requires.standing)
