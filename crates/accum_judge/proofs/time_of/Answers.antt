use Rattle.std.specs.Prelude.{refl}
use Rattle.accum_laws.specs.Promise.{first_at_lem, time_is}
use Rattle.accum_judge.proofs.time_of.Goals as goal

pub time_at-requires : goal.time_at-requires
time_at-requires c = first_at_lem _ _ c.requires _ _ _ refl c.first.ensures.is refl

pub returns : goal.returns
returns c = time_is _ _ c.requires _ _ _ refl c.first.ensures.is refl _ c.time_at.ensures.is
