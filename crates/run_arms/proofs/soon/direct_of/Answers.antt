use Rattle.run_laws.proofs.Soon.{soon_left, soon_direct}
use Rattle.std.proofs.Common.{ap, not}
use Rattle.run_arms.proofs.soon.direct_of.Goals as goal

pub returns-then-not-process_or_none : goal.returns-then-not-process_or_none
returns-then-not-process_or_none c = λ known w. soon_left _ _ _ _ _ _ _ w known c.requires.i_value.0 _ c.x_of-x.ensures _ c.process_or_none.ensures (ap not c.if-not-process_or_none.true)

pub returns : goal.returns
returns c = λ known w. soon_direct _ _ _ _ _ _ _ w known c.requires.i_value.0 _ c.x_of-x.ensures _ c.process_or_none.ensures (ap not c.if-not-process_or_none.false) _ _ _ _ c.unless_refused.ensures c.requires.i_value.1 c.activate_now.ensures
