use Rattle.sheet.specs.Sheet.{start_at}
use Rattle.sheet.proofs.records.start_at.Goals as goal

pub returns : goal.returns
unfolding start_at
returns c = c.u32_at.ensures
