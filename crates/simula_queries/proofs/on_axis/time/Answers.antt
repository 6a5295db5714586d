use Rattle.std.specs.Prelude.{refl}
use Rattle.simulation_laws.specs.ReadPromise.{time_told_lem}
use Rattle.simula_queries.proofs.on_axis.time.Goals as goal

pub returns : goal.returns
returns c = time_told_lem c.args.c _ _ _ _ _ (rw (c.notices.ensures.1, c.notices.ensures.0) at c.first-f.ensures) refl c.due.ensures
