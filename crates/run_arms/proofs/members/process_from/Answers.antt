use mathlib.Core.Path.{sym, ◌∙◌}
use Rattle.run_laws.specs.Walking.{no_walk}
use Rattle.run_arms.proofs.members.process_from.Goals as goal

pub returns-then-ok : goal.returns-then-ok
returns-then-ok c = no_walk _ _ _ (sym c.is_process-ok.ensures ∙ c.if-ok.true)
