-- What the code of a call that enters a set promises beside its answer: that the bounds of the sets' sizes hold after it. The other set
-- calls leave them as they are.
use Rattle.std.specs.Prelude.{ℕ, ◌+◌, ◌≡◌, refl, Bool, true, false, ◌&&◌, List, Ok, Err}
use Rattle.std.proofs.Common.{sym, ap, ◌∙◌}
use Rattle.ring_laws.specs.Lists.{clash}
use Rattle.ring_laws.specs.Table.{Sound, Made}
use Rattle.model.specs.declared.Counts.{Counts}
use Rattle.model.specs.declared.Refusal.{Refusal}
use Rattle.model.specs.declared.Refusal.TheVariants.{Operand, Full}
use Rattle.model.specs.Answers.{Verdict}
use Rattle.model.specs.Counts.{total}
use Rattle.model.specs.Answers.{Answered}
use Rattle.model.specs.declared.answer.Answer.TheVariants.{Done}
use Rattle.simset_laws.specs.Calls.{Linked, entered_if}
use Rattle.simset_laws.specs.Promise.{Moved, entered}
use Rattle.simset_laws.specs.BoundLaws.{Covers, Linking}

-- a test with the answer that is wanted, after which the bounds hold with a member more in the set of head k
pub record Tested (c : Counts) (k : ℕ) (links : List ℕ) (want : Bool) (bounds : List ℕ) (got : Bool) : Type 0 where
  pub is : got ≡ want
  pub covers : Covers c k links bounds

-- a call on the links as wanted, after which the bounds hold
pub record Entered (c : Counts) (links : List ℕ) (want : Linked) (bounds : List ℕ) (got : Linked) : Type 0 where
  pub moved : Moved (total c + 1) want got
  pub covers : Linking c links → Covers c 0 got.links bounds

-- ---- the tests of a call that puts a link beside y: refused by a kind, by a full set, or fine

abbrev pub entry_verdict : Bool → Bool → Verdict
entry_verdict true false = Ok tt
entry_verdict true true = Err Full
entry_verdict false f = Err Operand

abbrev pub is_fine : Verdict → Bool
is_fine (Ok tt) = true
is_fine (Err q) = false

abbrev told_by : Verdict → Answered
told_by (Ok tt) = Ok Done
told_by (Err q) = Err q

-- with the bounds after them; k is the head of the set that is entered
pub record Beside (c : Counts) (k : ℕ) (links : List ℕ) (b f : Bool) (bounds : List ℕ) (got : Verdict) : Type 0 where
  pub is : got ≡ entry_verdict b f
  pub kept : Covers c 0 links bounds
  pub covers : got ≡ (Ok tt) → Covers c k links bounds

-- the call after them; a says that x is a link
module _ (c : Counts) (links bounds u : List ℕ) (a b f : Bool) (sound : Sound (total c + 1) links) (k : ℕ) (v : Verdict)
    (t : Beside c k links b f bounds v) (link : a ≡ true) where
  pub entering_refused : (q : Refusal) → v ≡ Err q
      → Entered c links (entered_if (a && b) f links u) bounds (record { links = links; answer = Err q })
  entering_refused q e = rw link (go b f (sym e ∙ t.is))
    where
      refused : (r : Refusal) → ◌≡◌ {A = Verdict} (Err q) (Err r)
          → ◌≡◌ {A = Linked} (record { links = links; answer = Err q }) (record { links = links; answer = Err r })
      refused r z = ap (λ (o : Verdict). record { links = links; answer = told_by o }) z

      go : (b f : Bool) → Err q ≡ entry_verdict b f
          → Entered c links (entered_if b f links u) bounds (record { links = links; answer = Err q })
      go true false z = clash (ap is_fine z)
      go true true z = record { moved = record { is = refused Full z; sound = sound }; covers = λ w. t.kept }
      go false f z = record { moved = record { is = refused Operand z; sound = sound }; covers = λ w. t.kept }

  pub entering_beside : v ≡ (Ok tt) → (w : List ℕ) → Made (total c + 1) u w → (w ≡ u → Linking c links → Covers c 0 w bounds)
      → Entered c links (entered_if (a && b) f links u) bounds (record { links = w; answer = Ok Done })
  entering_beside e w made h = rw link (go b f (sym e ∙ t.is))
    where
      go : (b f : Bool) → (Ok tt) ≡ entry_verdict b f → Entered c links (entered_if b f links u) bounds (record { links = w; answer = Ok Done })
      go true false z = record { moved = entered (total c + 1) links u true false w refl refl made; covers = h made.is }
      go true true z = clash (ap is_fine (sym z))
      go false f z = clash (ap is_fine (sym z))

-- of the parties that an operand stands for
pub entered_as : (c : Counts) (s : ℕ → ℕ → List ℕ → Linked) (links bounds : List ℕ) (got : Linked) (x x' y y' : ℕ) → x ≡ x' → y ≡ y'
    → Entered c links (s x y links) bounds got → Entered c links (s x' y' links) bounds got
entered_as c s links bounds got x x' y y' e f k = rw (e, f) at k
