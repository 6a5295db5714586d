use Rattle.std.proofs.Common.{ap, not}
use Rattle.model_laws.proofs.Verdict.{verdict_sized}
use Rattle.model_judge.proofs.judge_tables.Goals as goal

pub tables_fine-requires : goal.tables_fine-requires
tables_fine-requires c = verdict_sized _ _ _ c.within_limits.ensures (ap not c.if-not-within_limits.false) _ c.lengths_fine.ensures (ap not c.if-not-lengths_fine.false)
