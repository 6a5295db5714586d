use Rattle.ring_judge.proofs.Judging.{next_not, next_in_table, next_one_way, next_is}
use mathlib.Core.Path.{refl}
use native.Mathlib.Omega.{arith}
use Rattle.ring_judge.proofs.next_place.Goals as goal
use Rattle.ring_judge.proofs.next_place.Goals.{else-may_stand-via-then-may_stand+else-t-m, else-may_stand-via-else-may_stand}

pub bounds-t-m : goal.bounds-t-m
bounds-t-m c = let l = next_in_table _ c.args.t.now _ _ _ c.args.a _ _ c.requires.h_lt_m.0 c.requires.space.top c.may_stand.ensures c.if-may_stand.true in omega (arith, l, c.requires.space.two)

pub returns-then-t-m : goal.returns-then-t-m
returns-then-t-m c = next_is _ _ _ _ _ _ _ _ _ c.requires.space c.requires.h_lt_m.0 c.requires.h_lt_m.1 refl c.may_stand.ensures c.if-may_stand.true refl c.if-t-m.true

pub returns-else-may_stand : goal.returns-else-may_stand
returns-else-may_stand c =
    elim c.else-may_stand.branch [
      | else-may_stand-via-then-may_stand+else-t-m w ↦ next_one_way _ _ _ _ _ _ _ _ c.requires.h_lt_m.1 refl refl w.if-t-m.false
      | else-may_stand-via-else-may_stand w ↦ next_not _ _ _ _ _ _ _ _ c.requires.h_lt_m.1 refl c.may_stand.ensures w.if-may_stand.false
    ]
