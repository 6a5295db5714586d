use Rattle.run_laws.specs.GoesOn.{fresh_stands_on}
use Rattle.run_print.proofs.show.on_tables.Goals as goal

pub pieces-requires-clause-standing : goal.pieces-requires-clause-standing
pieces-requires-clause-standing g c = fresh_stands_on c.args.header c.args.sheet.now _ c.args.trace.now c.requires.startable _ _ c.fresh_run.ensures
