-- To stand before is to go first: the process of the first notice is the one that steps next, and no process steps while another's
-- notice stands before its own.
use Rattle.std.specs.Prelude.{ℕ, ◌≡◌, ◌≢◌, true, false, List, [], ◌∷◌}
use Rattle.std.proofs.Common.{sym, ap, subst, inl, inr}
use Rattle.ring_laws.specs.Lists.{In, clash}
use Rattle.ring_laws.specs.Distinct.{Dist}
use Rattle.axis_laws.specs.Notices.{Notice, whos}
use Rattle.model_laws.specs.Result.{done, refused, Result}
use Rattle.model_laws.specs.Now.{first, current}
use Rattle.axis_laws.specs.Orders.{Before}
use Rattle.sheet.specs.Sheet.{Sheet}
use Rattle.machine.specs.Machine.{Machine}
use Rattle.machine.specs.Calls.{perform}
use Rattle.machine.specs.Steps.{call_now, Line, line_now, Turn, stepped, moved_on}
use Rattle.machine.specs.Run.{turn, state}
use Rattle.machine.specs.History.{notices_at}
use Rattle.machine_laws.specs.TurnCases.{Then, turn_cases}

-- after n steps
pub record GoesFirst (s : Sheet) (n : ℕ) : Type 0 where
  pub steps : (l : Line) (m : Machine) → turn s 1 (state s n) ≡ stepped l m → l.process ≡ (first (notices_at s n)).who
  pub waits : (a b : ℕ) → Before a b (whos (notices_at s n)) → (first (notices_at s n)).who ≢ b

before_in : (a b : ℕ) (l : List ℕ) → Before a b l → In b l
before_in a b [] k = absurd k
before_in a b (z ∷ l) (inl k) = inr k.1
before_in a b (z ∷ l) (inr k) = inr (before_in a b l k)

not_first : (a b : ℕ) (ns : List Notice) → Dist (whos ns) → Before a b (whos ns) → (first ns).who ≢ b
not_first a b [] d k e = k
not_first a b (n ∷ ns) d k e = d.0 (subst (λ (x : ℕ). In x (whos ns)) (sym e) (behind k))
  where
    behind : Before a b (whos (n ∷ ns)) → In b (whos ns)
    behind (inl h) = h.1
    behind (inr h) = before_in a b (whos ns) h

-- a line is of the process that was current
line_current : (s : Sheet) (m : Machine) (l : Line) (k : Machine) → turn s 1 m ≡ stepped l k → l.process ≡ current m.lists
line_current s m l k =
    turn_cases s m (λ (t : Turn). t ≡ stepped l k → l.process ≡ current m.lists)
    (λ e q. let z : false ≡ true = cc in clash z)
    (go (perform s.counts (call_now s m) m))
  where
    go : (r : Result Machine)
        → Then (λ j. stepped (line_now s m) (moved_on s m j) ≡ stepped l k → l.process ≡ current m.lists) r
    go (refused r) = tt
    go (done j) = λ q. let e : line_now s m ≡ l = cc in ap (λ (x : Line). x.process) (sym e)

pub goes_first : (s : Sheet) (n : ℕ) → Dist (whos (notices_at s n)) → GoesFirst s n
goes_first s n d = record { steps = line_current s (state s n); waits = λ a b. not_first a b (notices_at s n) d }
