use Rattle.simset_laws.proofs.UnknownBounds.{covers_unknown}
use Rattle.simula.proofs.by_case.wait.Goals as goal

pub unknown_bounds-bounds-requires : goal.unknown_bounds-bounds-requires
unknown_bounds-bounds-requires c = c.requires.takeable.judged.allowed

pub wait-requires-clause-takeable : goal.wait-requires-clause-takeable
wait-requires-clause-takeable c = c.requires.takeable

pub wait-requires-clause-sound : goal.wait-requires-clause-sound
wait-requires-clause-sound c = c.requires.sound

pub wait-requires-clause-covers : goal.wait-requires-clause-covers
wait-requires-clause-covers c = covers_unknown c.args.c _ _ c.unknown_bounds-bounds.ensures c.requires.takeable.judged.allowed

pub returns : goal.returns
returns c = c.wait.ensures.waited
