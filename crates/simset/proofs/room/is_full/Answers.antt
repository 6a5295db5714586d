use Rattle.simset.proofs.Rooms.{by_bound, by_count, by_head}
use Rattle.simset.proofs.room.is_full.Goals as goal

pub returns-then-b-lt-MAX_MEMBERS : goal.returns-then-b-lt-MAX_MEMBERS
returns-then-b-lt-MAX_MEMBERS c = by_bound _ _ _ _ _ c.requires.covers c.requires.x_bound.1 c.requires.x_bound.2 c.requires.c_value c.if-b-lt-MAX_MEMBERS.true

pub returns-then-n-most : goal.returns-then-n-most
returns-then-n-most c = by_count _ _ _ _ _ c.requires.covers c.requires.x_bound.1 c.requires.x_bound.2 c.requires.c_value _ c.count-n.ensures c.if-n-most.true

pub returns : goal.returns
returns c = by_head _ _ _ _ _ c.requires.covers c.requires.x_bound.1 c.requires.x_bound.2 c.requires.c_value _ c.count-n.ensures c.if-b-lt-MAX_MEMBERS.false c.if-n-most.false _ _ c.requires.half c.head_at.ensures
