use Rattle.model_fresh.proofs.Filling.{fresh_limits, fresh_lengths, fresh_filled}
use Rattle.model_laws.proofs.Verdict.{verdict_sized}
use Rattle.std.proofs.Common.{ap, not}
use Rattle.model_fresh.proofs.fresh.Goals as goal

pub returns-then-not-within_limits : goal.returns-then-not-within_limits
returns-then-not-within_limits c = fresh_limits _ _ _ c.within_limits.ensures (ap not c.if-not-within_limits.true)

pub returns-then-not-lengths_fine : goal.returns-then-not-lengths_fine
returns-then-not-lengths_fine c = fresh_lengths _ _ _ c.within_limits.ensures (ap not c.if-not-within_limits.false) _ c.lengths_fine.ensures (ap not c.if-not-lengths_fine.true)

pub fill-requires : goal.fill-requires
fill-requires c = verdict_sized _ _ _ c.within_limits.ensures (ap not c.if-not-within_limits.false) _ c.lengths_fine.ensures (ap not c.if-not-lengths_fine.false)

pub returns : goal.returns
returns c = fresh_filled _ _ _ c.within_limits.ensures (ap not c.if-not-within_limits.false) _ c.lengths_fine.ensures _ (ap not c.if-not-lengths_fine.false) c.fill.ensures
