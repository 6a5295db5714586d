use Rattle.simulation_procedures.proofs.Arms.{vain_none, vain_marked, vain_idle, vain_busy, vain_timed, vain_beside}
use Rattle.simulation_procedures.proofs.activation.is_vain.Goals as goal
use Rattle.simulation_procedures.proofs.activation.is_vain.Goals.{then-x-eq0-via-then-x-eq0, then-x-eq0-via-else-x-eq0+then-mark_at-ne0}

pub returns-then-x-eq0 : goal.returns-then-x-eq0
returns-then-x-eq0 c =
    elim c.then-x-eq0.branch [
      | then-x-eq0-via-then-x-eq0 w ↦ vain_none _ _ _ _ _ _ w.if-x-eq0.true
      | then-x-eq0-via-else-x-eq0+then-mark_at-ne0 w ↦ vain_marked _ _ _ _ _ _ w.if-x-eq0.false _ w.mark_at.ensures w.if-mark_at-ne0.true
    ]

pub returns-then-not-again : goal.returns-then-not-again
returns-then-not-again c = vain_busy _ _ _ _ _ _ c.if-x-eq0.false _ c.mark_at.ensures c.if-mark_at-ne0.false _ c.idle.ensures c.if-not-idle.true c.if-not-again.true

pub returns-then-k-ge5 : goal.returns-then-k-ge5
returns-then-k-ge5 c = vain_beside _ _ _ _ _ _ c.if-x-eq0.false _ c.mark_at.ensures c.if-mark_at-ne0.false _ c.idle.ensures c.if-not-idle.true c.if-not-again.false c.if-k-ge5.true

pub returns-else-k-ge5 : goal.returns-else-k-ge5
returns-else-k-ge5 c = vain_timed _ _ _ _ _ _ c.if-x-eq0.false _ c.mark_at.ensures c.if-mark_at-ne0.false _ c.idle.ensures c.if-not-idle.true c.if-not-again.false c.if-k-ge5.false

pub returns-else-not-idle : goal.returns-else-not-idle
returns-else-not-idle c = vain_idle _ _ _ _ _ _ c.if-x-eq0.false _ c.mark_at.ensures c.if-mark_at-ne0.false _ c.idle.ensures c.if-not-idle.false
