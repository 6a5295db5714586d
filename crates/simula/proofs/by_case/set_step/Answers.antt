use Rattle.simset_laws.specs.Promise.{moved_as}
use Rattle.simset_laws.proofs.UnknownBounds.{covers_unknown}
use Rattle.simula.proofs.by_case.set_step.Goals as goal

pub unknown_bounds-bounds-requires : goal.unknown_bounds-bounds-requires
unknown_bounds-bounds-requires c = c.requires.allowed

pub follow-requires-clause-sound : goal.follow-requires-clause-sound
follow-requires-clause-sound c = c.requires.sound

pub follow-requires-clause-covers : goal.follow-requires-clause-covers
follow-requires-clause-covers c = covers_unknown c.args.c _ _ c.unknown_bounds-bounds.ensures c.requires.allowed

pub precede-requires-clause-sound : goal.precede-requires-clause-sound
precede-requires-clause-sound c = c.requires.sound

pub precede-requires-clause-covers : goal.precede-requires-clause-covers
precede-requires-clause-covers c = covers_unknown c.args.c _ _ c.unknown_bounds-bounds.ensures c.requires.allowed

pub into-requires-clause-sound : goal.into-requires-clause-sound
into-requires-clause-sound c = c.requires.sound

pub into-requires-clause-covers : goal.into-requires-clause-covers
into-requires-clause-covers c = covers_unknown c.args.c _ _ c.unknown_bounds-bounds.ensures c.requires.allowed

pub returns-in-Out : goal.returns-in-Out
returns-in-Out c = moved_as _ _ _ _ _ _ c.in-Out.is c.out.ensures

pub returns-in-Follow : goal.returns-in-Follow
returns-in-Follow c = moved_as _ _ _ _ _ _ c.in-Follow.is c.follow.ensures.moved

pub returns-in-Precede : goal.returns-in-Precede
returns-in-Precede c = moved_as _ _ _ _ _ _ c.in-Precede.is c.precede.ensures.moved

pub returns-in-Into : goal.returns-in-Into
returns-in-Into c = moved_as _ _ _ _ _ _ c.in-Into.is c.into.ensures.moved

pub returns-in-Clear : goal.returns-in-Clear
returns-in-Clear c = moved_as _ _ _ _ _ _ c.in-Clear.is c.clear.ensures
