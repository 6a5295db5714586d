use Rattle.simset_laws.proofs.KnownRoom.{known_free, known_other, known_yes, known_no}
use mathlib.Core.Path.{refl}
use native.Mathlib.Omega.{arith}
use Rattle.simset.proofs.room.known_room.Goals as goal

pub returns-then-y-bounds : goal.returns-then-y-bounds
returns-then-y-bounds c = known_free c.args.c _ _ (omega (arith, c.if-y-bounds.true, c.requires.free_heads))

pub returns-then-c-y : goal.returns-then-c-y
returns-then-c-y c = known_other c.args.c _ _ c.if-c-y.true

pub returns-then-bound-lt-MAX_MEMBERS : goal.returns-then-bound-lt-MAX_MEMBERS
returns-then-bound-lt-MAX_MEMBERS c = known_yes c.args.c _ _ (omega (arith, c.if-y-bounds.false, c.requires.free_heads)) c.if-c-y.false _ refl c.if-bound-lt-MAX_MEMBERS.true

pub returns : goal.returns
returns c = known_no c.args.c _ _ (omega (arith, c.if-y-bounds.false, c.requires.free_heads)) c.if-c-y.false _ refl c.if-bound-lt-MAX_MEMBERS.false
