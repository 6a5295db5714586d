-- A turn comes to an end, or to a step: to show something of a turn is to show it of both.
use Rattle.ring_laws.specs.Lists.{test}
use Rattle.model_laws.specs.Result.{done, refused, Result}
use Rattle.sheet.specs.Sheet.{Sheet}
use Rattle.machine.specs.declared.End.{End}
use Rattle.machine.specs.declared.End.TheVariants.{Finished, Refused}
use Rattle.machine.specs.Machine.{Machine}
use Rattle.machine.specs.Calls.{perform}
use Rattle.machine.specs.Steps.{call_now, line_now, Turn, ended, stepped, moving, step, moved_on}
use Rattle.machine.specs.Run.{at_end, turn}

-- refused, or done with a machine of which Q holds
abbrev pub Then : (Machine → Type 0) → Result Machine → Type 0
Then Q (refused r) = Unit {0}
Then Q (done m) = Q m

-- it comes to an end, or to what its call leaves
pub turn_cases : (s : Sheet) (m : Machine) (Q : Turn → Type 0) → ((e : End) → Q (ended e))
    → Then (λ k. Q (stepped (line_now s m) (moved_on s m k)))
    (perform s.counts (call_now s m) m)
    → Q (turn s 1 m)
unfolding turn step
turn_cases s m Q f g = test (at_end s m) (λ e. rw e (f Finished)) (λ e. rw e (go (perform s.counts (call_now s m) m) g))
  where
    go : (r : Result Machine) → Then (λ k. Q (stepped (line_now s m) (moved_on s m k))) r
        → Q (moving s m r)
    go (refused r) h = f (Refused r)
    go (done k) h = h
