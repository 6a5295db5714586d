-- Clear empties the list of its head: the fuel never runs out.
use Rattle.std.specs.Prelude.{ℕ, ◌<◌, refl, List}
use Rattle.ring_laws.specs.Rings.{Head}
use Rattle.ring_laws.proofs.Spell.{spells_few}
use Rattle.model_laws.specs.Tables.{set_head, members_of, SpellsSets}
use Rattle.simset_laws.specs.Sets.{clear_sets}
use Rattle.simset_laws.specs.Procedures.{cleared}
use Rattle.simset_laws.specs.Moves.{cleared_is}
use Rattle.simset_laws.specs.ClearLaw.{clear_list}

pub sets_cleared : (m H : ℕ) (sets : List (List ℕ)) (t : List ℕ) → SpellsSets m H sets t → H < m → (h : ℕ) → Head m (set_head H) h
    → SpellsSets m H (clear_sets h sets) (cleared m h t)
sets_cleared m H sets t s b h a =
    rw (cleared_is m h t)
    (clear_list m H m sets t s b h a (members_of sets h) refl (spells_few m (set_head H) (members_of sets) t s.spelled h a))
