use Rattle.run_laws.specs.Starting.{filled_standing, started_is}
use Rattle.run_laws.specs.Run.{lent}
use Rattle.host.proofs.start.start.Goals as goal

pub fill-requires : goal.fill-requires
fill-requires c = c.requires.ok

pub turns-requires-clause-standing : goal.turns-requires-clause-standing
turns-requires-clause-standing c = filled_standing (c.args.header) (c.args.sheet.now) (lent c.args.links.now c.args.axis.now c.args.times.now c.args.marks.now c.args.positions.now c.args.accums.now) (c.args.trace.now) (c.requires) _ _ (c.fill.ensures)

pub turns-requires-clause-trace_len_bound : goal.turns-requires-clause-trace_len_bound
turns-requires-clause-trace_len_bound c = c.requires.short

pub returns : goal.returns
returns c = started_is (c.args.header) (c.args.sheet.now) (lent c.args.links.now c.args.axis.now c.args.times.now c.args.marks.now c.args.positions.now c.args.accums.now) (c.args.trace.now) (c.requires) _ _ (c.fill.ensures) _ (c.turns.ensures)
