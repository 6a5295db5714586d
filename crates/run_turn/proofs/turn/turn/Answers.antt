use mathlib.Core.Path.{ap}
use mathlib.Core.Bool.{◌||◌}
use Rattle.simset_laws.proofs.UnknownBounds.{covers_unknown}
use Rattle.run_laws.specs.declared.Pause.{Pause}
use Rattle.run_laws.specs.Standing.{allowed}
use Rattle.run_laws.specs.Paused.{is_full, is_due}
use Rattle.run_laws.proofs.AnyTurn.{any_made, any_refused, any_due}
use native.Mathlib.Omega.{arith}
use Rattle.run_turn.proofs.turn.turn.Goals as goal

pub unknown_bounds-bounds-requires : goal.unknown_bounds-bounds-requires
unknown_bounds-bounds-requires c = allowed _ _ _ c.requires.standing

pub stretch-s-requires-clause-standing : goal.stretch-s-requires-clause-standing
stretch-s-requires-clause-standing c = c.requires.standing

pub stretch-s-requires-clause-trace_len_bound : goal.stretch-s-requires-clause-trace_len_bound
stretch-s-requires-clause-trace_len_bound c = c.requires.trace_len_bound

pub stretch-s-requires-clause-from_value : goal.stretch-s-requires-clause-from_value
stretch-s-requires-clause-from_value c = c.requires.i_value

pub stretch-s-requires-clause-from_le_end : goal.stretch-s-requires-clause-from_le_end
stretch-s-requires-clause-from_le_end c = omega arith

pub stretch-s-requires-clause-end_in_bounds : goal.stretch-s-requires-clause-end_in_bounds
stretch-s-requires-clause-end_in_bounds c = c.requires.line_size_in_bounds

pub stretch-s-requires-clause-covers : goal.stretch-s-requires-clause-covers
stretch-s-requires-clause-covers c = covers_unknown c.args.c _ _ c.unknown_bounds-bounds.ensures (allowed _ _ _ c.requires.standing)

pub turn_apart-requires-clause-standing : goal.turn_apart-requires-clause-standing
turn_apart-requires-clause-standing c = c.stretch-s.ensures.paused.stands (ap (λ (q : Pause). is_full q || is_due q) c.in-Apart.is)

pub turn_apart-requires-clause-line_size_in_bounds : goal.turn_apart-requires-clause-line_size_in_bounds
turn_apart-requires-clause-line_size_in_bounds c = omega (arith, c.stretch-s.ensures.paused.size, c.requires.line_size_in_bounds)

pub turn_apart-requires-clause-accums_value : goal.turn_apart-requires-clause-accums_value
turn_apart-requires-clause-accums_value c = (c.stretch-s.ensures.paused.due (ap is_due c.in-Apart.is)).1

pub turn_apart-requires-clause-covers : goal.turn_apart-requires-clause-covers
turn_apart-requires-clause-covers c = c.stretch-s.ensures.covers_2

pub returns-in-Full : goal.returns-in-Full
returns-in-Full c = any_made _ _ _ _ c.requires.i_value _ _ _ _ _ c.stretch-s.ensures.paused c.in-Full.is

pub returns-in-Refused : goal.returns-in-Refused
returns-in-Refused c = any_refused _ _ _ _ c.requires.i_value _ _ _ _ _ c.stretch-s.ensures.paused _ c.in-Refused.is

pub returns-in-Apart : goal.returns-in-Apart
returns-in-Apart c = any_due _ _ _ _ c.requires.i_value _ _ _ _ _ c.stretch-s.ensures.paused c.in-Apart.is _ c.turn_apart.ensures.result_after
