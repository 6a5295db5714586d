use mathlib.Core.Path.{sym, ap, ◌∙◌}
use Rattle.run_laws.specs.Run.{end_code}
use borrow.Author.Rules.{rules}
use Rattle.run_answer.proofs.end_code.Goals as goal

pub returns-in-Finished : goal.returns-in-Finished
unfolding end_code
returns-in-Finished c = search rules

pub returns-in-Full : goal.returns-in-Full
unfolding end_code
returns-in-Full c = search rules

pub returns-in-Refused : goal.returns-in-Refused
unfolding end_code
returns-in-Refused c = c.number.ensures ∙ sym (ap end_code (c.in-Refused.is))
