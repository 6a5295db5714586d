use Rattle.std.specs.Prelude.{refl}
use Rattle.accum_laws.specs.Signed.{kept}
use Rattle.accum_laws.specs.Gather.{listed_in, listed_within}
use Rattle.accum_laws.proofs.Gather.{listed_size, listed_lent}
use Rattle.std.proofs.Common.{ap, not}
use Rattle.accum.proofs.lending.accum_listed_lent.Goals as goal

pub returns-then-not-list_fine : goal.returns-then-not-list_fine
returns-then-not-list_fine c = listed_size _ _ _ _ _ _ _ c.list_fine.ensures (ap not c.if-not-list_fine.true)

pub gather-list-requires : goal.gather-list-requires
gather-list-requires c = listed_within _ _ _ _ c.list_fine.ensures (ap not c.if-not-list_fine.false) refl

pub accum_at_first-r-requires : goal.accum_at_first-r-requires
accum_at_first-r-requires c = listed_in _ _ _ _ c.list_fine.ensures (ap not c.if-not-list_fine.false) refl

pub spread-requires : goal.spread-requires
spread-requires c = listed_within _ _ _ _ c.list_fine.ensures (ap not c.if-not-list_fine.false) refl

pub returns : goal.returns
returns c =
    listed_lent _ _ _ _ _ _ _ c.list_fine.ensures (ap not c.if-not-list_fine.false) _ refl _
    c.gather-list.ensures _ _ _ (kept c.ranges.d) c.accum_at_first-r.ensures _ c.spread.ensures
