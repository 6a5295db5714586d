use Rattle.simset.proofs.Moving.{follows_none, follows_off, follows_on}
use Rattle.simset.proofs.procedures.follow.Goals as goal
use Rattle.simset.proofs.procedures.follow.Goals.{else-y-ne0-via-then-y-ne0+else-links-y-ne0, else-y-ne0-via-else-y-ne0}

pub returns-then-links-y-ne0 : goal.returns-then-links-y-ne0
returns-then-links-y-ne0 c = follows_on _ _ _ _ c.unlink.ensures c.if-y-ne0.true _ c.if-links-y-ne0.true c.link_behind.ensures

pub returns-else-y-ne0 : goal.returns-else-y-ne0
returns-else-y-ne0 c =
    elim c.else-y-ne0.branch [
      | else-y-ne0-via-then-y-ne0+else-links-y-ne0 w ↦ follows_off _ _ _ _ c.unlink.ensures w.if-y-ne0.true w.if-links-y-ne0.false
      | else-y-ne0-via-else-y-ne0 w ↦ follows_none _ _ _ _ c.unlink.ensures w.if-y-ne0.false
    ]
