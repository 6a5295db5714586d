use mathlib.Core.Path.{◌∙◌}
use Rattle.trace.proofs.Bytes.{line_put}
use Rattle.trace.proofs.put_line.Goals as goal

pub returns : goal.returns
returns c = line_put c.args.s.now c.args.i c.args.time c.args.process c.args.rec _ _ _ c.requires
    (c.copy_from_slice.ensures.after ∙ c.to_le_bytes.ensures)
    (c.copy_from_slice-2.ensures.after ∙ c.to_le_bytes-2.ensures)
    (c.copy_from_slice-3.ensures.after ∙ c.to_le_bytes-3.ensures)
