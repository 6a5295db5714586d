use mathlib.Core.Path.{ap}
use Rattle.sheet.specs.declared.records.Record.{Record}
use Rattle.run_laws.specs.Reads.{got_end, got_next}
use Rattle.run_arms.proofs.reading.next_of.Goals as goal

pub returns-then-r-eq0 : goal.returns-then-r-eq0
returns-then-r-eq0 c = ap (λ (q : Record). q.next) (got_end _ _ _ c.if-r-eq0.true)

pub returns : goal.returns
returns c = got_next _ _ _ c.if-r-eq0.false _ _ c.record_offset-at.ensures c.next.ensures
