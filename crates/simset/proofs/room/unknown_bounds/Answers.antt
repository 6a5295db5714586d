use Rattle.simset.proofs.Rooms.{unknown_is}
use Rattle.simset.proofs.room.unknown_bounds.Goals as goal

pub returns : goal.returns
returns c = unknown_is c.args.c _ _ _ c.total-n.ensures c.free_to.ensures c.free_to-2.ensures
