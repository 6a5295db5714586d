-- What a turn does, whatever its call: the lists stay those of well-formed tables, the notices move as History says, time does not go
-- back, positions stay in the sheet, and accumulators as required.
use Rattle.std.specs.Prelude.{ℕ, ◌-◌, ◌≤◌, ◌≡◌, refl, Bool, true, false, ◌&&◌, List, eqb, length, get_or, set, if◌then◌else◌, Ok, Err}
use Rattle.std.proofs.Common.{subst, arith, get_or-set_same, get_or-set_other, eqb-true}
use Rattle.std.proofs.Math.ListN.{length-set}
use Rattle.std.proofs.Math.Seq.{set_out}
use Rattle.std.proofs.lemmas.Bool.{eqb-false}
use Rattle.ring_laws.specs.Lists.{decide, below, test}
use Rattle.model.specs.declared.Counts.{Counts}
use Rattle.model_laws.specs.Tables.{Tables, Lists, Spells}
use Rattle.model_laws.specs.Result.{done, refused, Result}
use Rattle.model_laws.specs.Now.{time}
use Rattle.accum_laws.specs.Update.{Updated, updated_of}
use Rattle.accum_laws.specs.Triples.{numbered}
use Rattle.accum_laws.specs.Runs.{Each}
use Rattle.sheet.specs.declared.header.Header.{Header}
use Rattle.sheet.specs.declared.records.Record.{Record}
use Rattle.sheet.specs.Sheet.{Sheet}
use Rattle.sheet.specs.Fields.{Ranged}
use Rattle.machine.specs.Machine.{Machine}
use Rattle.machine.specs.Calls.{Call, on_list, accum, lists_after, lifted, storing, perform}
use Rattle.machine.specs.Steps.{record_of, record_now, next_of, next_now}
use Rattle.machine.specs.History.{Stepwise, placing_of}
use Rattle.machine_laws.specs.Invariant.{header_is, InRange}
use Rattle.machine_laws.specs.TurnCases.{Then}

-- the lists are those of some well-formed tables
abbrev pub Spelled : Counts → Lists → Type 0
Spelled c l = (t : Tables) × Spells c l t

-- ---- a call

pub record CallMade (c : Counts) (k : Call) (m n : Machine) : Type 0 where
  pub spelled : Spelled c n.lists
  pub notices : Stepwise (placing_of k m.lists) m.lists.notices n.lists.notices
  pub forward : time m.lists ≤ time n.lists
  pub positions : n.positions ≡ m.positions
  pub triples_all : length n.triples ≡ length m.triples
  pub required : Each n.triples (time n.lists)

-- no call moves a process or adds a triple
pub perform_sizes : (c : Counts) (k : Call) (m : Machine)
    → Then (λ n. (n.positions ≡ m.positions) × (length n.triples ≡ length m.triples)) (perform c k m)
unfolding perform
perform_sizes c (on_list k) m = go (lists_after c k m.lists)
  where
    go : (r : Result Lists) → Then (λ n. (n.positions ≡ m.positions) × (length n.triples ≡ length m.triples)) (lifted m r)
    go (refused r) = tt
    go (done l) = (refl, refl)
perform_sizes c (accum k d) m = go (updated_of (numbered k m.triples) (time m.lists) d)
  where
    go : (u : Updated) → Then (λ n. (n.positions ≡ m.positions) × (length n.triples ≡ length m.triples)) (storing m k u)
    go (Ok v) = (refl, length-set m.triples (k - 1) v)
    go (Err r) = tt

-- ---- a turn

-- what a run needs to go on
pub record Going (s : Sheet) (m : Machine) : Type 0 where
  pub spelled : Spelled s.counts m.lists
  pub positions_all : length m.positions ≡ s.counts.processes
  pub positions_in : (i : ℕ) → get_or m.positions i 0 ≤ length s.records
  pub triples_all : length m.triples ≡ 64
  pub required : Each m.triples (time m.lists)

-- a process moves to a record of the sheet, or to 0
next_of_lem : (h : Header) (q : Record) (none : Bool) → Ranged h q → next_of q none ≤ h.records
unfolding next_of
next_of_lem h q none r = go (eqb q.operation 12) refl none
  where
    go : (b : Bool) → eqb q.operation 12 ≡ b → (d : Bool) → (if b && d then q.y else q.next) ≤ h.records
    go true e true = r.y_record (eqb-true q.operation 12 e)
    go true e false = r.next_in_lem
    go false e d = r.next_in_lem

pub set_in : (l : List ℕ) (j v R : ℕ) → ((i : ℕ) → get_or l i 0 ≤ R) → v ≤ R → (i : ℕ) → get_or (set l j v) i 0 ≤ R
set_in l j v R f b i =
    decide i j
    (λ e. below i (length l)
    (λ k. subst (λ (n : ℕ). get_or (set l n v) i 0 ≤ R) e (rw (get_or-set_same l i v 0 k) b))
    (λ k. subst (λ (n : ℕ). get_or (set l n v) i 0 ≤ R) e (rw (set_out l i v k) (f i))))
    (λ n. rw (get_or-set_other l j i v 0 n) (f i))

pub next_in_lem : (s : Sheet) → InRange s → (m : Machine) → record_now s m ≤ length s.records → next_now s m ≤ length s.records
unfolding next_now
next_in_lem s r m b =
    test (eqb (record_now s m) 0)
    (λ z. rw z (omega arith))
    (λ z. rw z (next_of_lem (header_is s) (record_of s (record_now s m))
    _ (r.record_in (record_now s m) (omega (arith, eqb-false (record_now s m) 0 z)) b)))

pub then_so : (P Q : Machine → Type 0) (r : Result Machine) → ((k : Machine) → P k → Q k) → Then P r → Then Q r
then_so P Q (refused r) f g = tt
then_so P Q (done k) f g = f k g
