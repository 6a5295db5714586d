use mathlib.Core.Path.{refl}
use Prim.Native.Nat.{ℕ}
use lib.ListN.{length-replicate}
use Rattle.run_laws.specs.Arrays.{links_in, axis_in, one_in, links_part, axis_part, one_part, lent_startable}
use native.Mathlib.Omega.{arith}
use Rattle.run_print.proofs.show.show.Goals as goal

pub slice_bounds-links-end : goal.slice_bounds-links-end
slice_bounds-links-end g c = links_in c.args.sheet.now _ c.requires _ c.total-n.ensures _ refl

pub slice_bounds-on_tables-end : goal.slice_bounds-on_tables-end
slice_bounds-on_tables-end g c = links_part c.args.sheet.now _ c.requires _ c.total-n.ensures _ refl

pub slice_bounds-axis-end : goal.slice_bounds-axis-end
slice_bounds-axis-end g c = axis_in c.args.sheet.now _ c.requires _ c.total-n.ensures _ refl

pub slice_bounds-on_tables-end-2 : goal.slice_bounds-on_tables-end-2
slice_bounds-on_tables-end-2 g c = axis_part c.args.sheet.now _ c.requires _ c.total-n.ensures _ refl

pub slice_bounds-times-end : goal.slice_bounds-times-end
slice_bounds-times-end g c = one_in c.args.sheet.now _ c.requires _ c.total-n.ensures _ refl

pub slice_bounds-on_tables-end-3 : goal.slice_bounds-on_tables-end-3
slice_bounds-on_tables-end-3 g c = one_part c.args.sheet.now _ c.requires _ c.total-n.ensures _ refl

pub slice_bounds-marks-end : goal.slice_bounds-marks-end
slice_bounds-marks-end g c = one_in c.args.sheet.now _ c.requires _ c.total-n.ensures _ refl

pub slice_bounds-on_tables-end-4 : goal.slice_bounds-on_tables-end-4
slice_bounds-on_tables-end-4 g c = one_part c.args.sheet.now _ c.requires _ c.total-n.ensures _ refl

pub slice_bounds-positions-end : goal.slice_bounds-positions-end
slice_bounds-positions-end g c = one_in c.args.sheet.now _ c.requires _ c.total-n.ensures _ refl

pub slice_bounds-on_tables-end-5 : goal.slice_bounds-on_tables-end-5
slice_bounds-on_tables-end-5 g c = one_part c.args.sheet.now _ c.requires _ c.total-n.ensures _ refl

pub on_tables-requires-clause-startable : goal.on_tables-requires-clause-startable
on_tables-requires-clause-startable g c = lent_startable c.args.sheet.now _ c.requires _ c.total-n.ensures _ refl _ (omega (arith, length-replicate {A = ℕ} 65536 0))
