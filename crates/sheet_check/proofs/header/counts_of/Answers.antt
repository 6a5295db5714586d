use mathlib.Core.Path.{◌∙◌}
use Rattle.sheet.specs.Sheet.{counts_of}
use Rattle.sheet_check.proofs.header.counts_of.Goals as goal

pub returns : goal.returns
unfolding counts_of
returns c = c.new.ensures ∙ cc
