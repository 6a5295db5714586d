use Rattle.simset.proofs.Rooms.{own_set, link's_set}
use Rattle.simset.proofs.room.set_of.Goals as goal

pub returns-then-y-heads : goal.returns-then-y-heads
returns-then-y-heads c = own_set _ _ _ _ c.if-y-heads.true

pub returns : goal.returns
returns c = link's_set _ _ _ _ c.if-y-heads.false _ c.head_at.ensures
