-- The first notice of tables that spell lists is the lists' first: its place is current's, and its time is time.
use Rattle.std.specs.Prelude.{ℕ, ◌+◌, ◌-◌, ◌<◌, ◌≤◌, ◌≡◌, refl, List, [], ◌∷◌, length}
use Rattle.std.proofs.Common.{inl, not-suc-le-zero, eq-eqb}
use Rattle.ring_laws.specs.Lists.{In}
use Rattle.ring_laws.specs.Chain.{Chain}
use Rattle.model.specs.declared.Counts.{Counts}
use Rattle.axis_laws.specs.Notices.{Notice, whos, due_of, places}
use Rattle.model_laws.specs.Now.{first}

-- a list with a notice is its first and the rest
pub record Split (ns : List Notice) : Type 0 where
  pub head : Notice
  pub rest : List Notice
  pub is : ns ≡ head ∷ rest

pub splits : (ns : List Notice) → 0 < length ns → Split ns
splits [] l = absurd (not-suc-le-zero l)
splits (n ∷ k) l = record { head = n; rest = k; is = refl }

pub first_next : (c : Counts) (S P : ℕ → ℕ) (h e : ℕ) (ns : List Notice) → 0 < length ns → Chain S P h (places c ns) e
    → S h ≡ (first ns).who - c.heads
first_next c S P h e [] s ch = absurd (not-suc-le-zero s)
first_next c S P h e (n ∷ ns) s ch = ch.0.next

pub first_due : (ns : List Notice) → 0 < length ns → due_of (first ns).who ns ≡ (first ns).due
first_due [] s = absurd (not-suc-le-zero s)
first_due (n ∷ ns) s = rw (eq-eqb n.who n.who refl)

pub first_process_lem : (c : Counts) (ns : List Notice) → 0 < length ns
    → ((x : ℕ) → In x (whos ns) → (c.heads < x) × (x ≤ c.heads + c.processes))
    → (c.heads < (first ns).who) × ((first ns).who ≤ c.heads + c.processes)
first_process_lem c [] s f = absurd (not-suc-le-zero s)
first_process_lem c (n ∷ ns) s f = f n.who (inl refl)
