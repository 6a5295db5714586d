use Rattle.simset_laws.proofs.Entering.{beside_free}
use native.Mathlib.Omega.{arith}
use Rattle.simset.proofs.steps.beside.Goals as goal

pub returns-then-y-bounds : goal.returns-then-y-bounds
returns-then-y-bounds c = beside_free c.args.c c.args.x c.args.y _ _ c.requires.covers (omega (arith, c.if-y-bounds.true, c.requires.covers.fits.free_linkages))
