-- What the queries' code answers, and calls seen on the whole model.
use Rattle.std.specs.Prelude.{ℕ, ◌+◌, ◌-◌, ◌<◌, ◌≡◌, refl, ◌≢◌, Bool, true, false, ◌||◌, List, eqb, ℤ, Ok, Err}
use Rattle.std.proofs.Math.Path.{sym, ap}
use Rattle.std.proofs.Common.{ap₂, ◌∙◌, subst, arith, SFits, to_z, of_z}
use Rattle.std.proofs.Math.ListN.{get_or}
use borrow.Author.Tests.{eq-eqb, ne_eqb}
use Rattle.std.specs.Int.{w64}
use Rattle.std.proofs.lemmas.Int.{to_z-of_z}
use Rattle.model.specs.declared.Counts.{Counts}
use Rattle.model.specs.declared.Refusal.TheVariants.{Idle}
use Rattle.model.specs.Counts.{total, is_process, place_of, linkage_at}
use Rattle.model.specs.Answers.{Answered, linkage, number, truth}
use Rattle.model.specs.declared.answer.Answer.TheVariants.{Linkage, Number, Truth}
use Rattle.model_laws.specs.Now.{half, first_of, next_place, idle_on}
use Rattle.model_laws.specs.Tables.{model_of}
use Rattle.simset_laws.specs.Walk.{head_at}
use Rattle.simulation_laws.specs.Procedures.{Sqs, Outcome}
use Rattle.simulation_laws.specs.Calls.{Marked, Waited, on_sqs, on_marks, on_sets, current_told, time_told, idle_told, evtime_told}
use Rattle.simulation_laws.specs.Calls.{nextev_told, wait_told}
use Rattle.simulation_laws.specs.Promise.{sqs, Answers, Place, Read}
use Rattle.simulation_laws.specs.StepPromise.{FinishMade, WaitMade, process_in}

-- a process is a place of the axis
pub is_in : (c : Counts) (x : ℕ) → is_process c x ≡ true → place_of c x < half c
is_in c x e = process_in c x (rw e (or_true (eqb x 0)))
  where
    or_true : (b : Bool) → ◌≡◌ {A = Bool} (b || true) true
    or_true true = refl
    or_true false = refl

-- wait: f is current's place, x its number, h the head that the walk from x found
pub wait_told_lem : (c : Counts) (links axis : List ℕ) (f x n h : ℕ) → Place (half c) (first_of (half c) axis) f → x ≡ c.heads + f
    → n ≡ total c → h ≡ head_at (n + 1) c.heads x links → linkage h ≡ wait_told c links axis
unfolding wait_told
wait_told_lem c links axis f x n h p e q is =
    ap linkage (is ∙ ap₂ (λ (m y : ℕ). head_at (m + 1) c.heads y links) q (e ∙ ap (linkage_at c) p.is))

module _ (c : Counts) (axis times : List ℕ) where
  pub current_told_lem : (f x : ℕ) → Place (half c) (first_of (half c) axis) f → x ≡ c.heads + f → linkage x ≡ current_told c (sqs axis times)
  unfolding current_told
  current_told_lem f x p e = ap linkage (e ∙ ap (linkage_at c) p.is)

  pub time_told_lem : (f w v : ℕ) → Place (half c) (first_of (half c) axis) f → w ≡ f → Read w times v → number v ≡ time_told c (sqs axis times)
  unfolding time_told
  time_told_lem f w v p e r = ap number (r.is ∙ ap (λ (j : ℕ). get_or times j 0) (e ∙ p.is))

  module _ (x : ℕ) (ok : is_process c x ≡ true) (q : ℕ) (eq : q ≡ place_of c x) (b : Bool) (is : b ≡ idle_on axis q) where
    pub idle_told_lem : truth b ≡ idle_told c x (sqs axis times)
    unfolding idle_told
    idle_told_lem = rw (ok, ← eq) (ap truth is)

    pub evtime_idle : b ≡ true → Err Idle ≡ evtime_told c x (sqs axis times)
    unfolding evtime_told
    evtime_idle z = rw (ok, ← eq, sym is ∙ z)

    pub evtime_some : (w v : ℕ) → b ≡ false → w ≡ q → Read w times v → number v ≡ evtime_told c x (sqs axis times)
    unfolding evtime_told
    evtime_some w v n e r = rw (ok, ← eq, sym is ∙ n) (ap number (r.is ∙ ap (λ (j : ℕ). get_or times j 0) e))

    pub nextev_idle : b ≡ true → linkage 0 ≡ nextev_told c x (sqs axis times)
    unfolding nextev_told
    nextev_idle z = rw (ok, ← eq, sym is ∙ z)

    module _ (n : b ≡ false) (m s w : ℕ) (em : m ≡ half c) (ps : Place m (next_place axis q) s) (ew : w ≡ s) where
      pub nextev_last : w ≡ m - 1 → linkage 0 ≡ nextev_told c x (sqs axis times)
      unfolding nextev_told
      nextev_last e =
          rw (ok, ← eq, sym is ∙ n, eq-eqb (next_place axis q) (half c - 1) (omega (arith, ps.is)))

      pub nextev_next : (v : ℕ) → w ≢ m - 1 → v ≡ c.heads + s → linkage v ≡ nextev_told c x (sqs axis times)
      unfolding nextev_told
      nextev_next v d e =
          rw (ok, ← eq, sym is ∙ n, ne_eqb (next_place axis q) (half c - 1) (λ z. d (omega (arith, ps.is))))
          (ap linkage (e ∙ ap (λ (j : ℕ). c.heads + j) ps.is))

-- ---- calls seen on the whole model

module _ (m : ℕ) (links axis times marks a t : List ℕ) (r : Answered) where
  pub on_sqs_lem : (f : List ℕ → Sqs → Outcome) → Answers m (f marks (sqs axis times)) a t r
      → record { tables = model_of links a t marks; answer = r }
      ≡ on_sqs f (model_of links axis times marks)
  on_sqs_lem f k =
      ap (λ (o : Outcome). record { tables = model_of links o.left.axis o.left.times marks; answer = o.answer }) k.is

  -- the same where T is handed on
  pub on_signed : (z : ℤ) → SFits w64 z → (f : ℤ → List ℕ → Sqs → Outcome)
      → Answers m (f (to_z w64 (of_z w64 z)) marks (sqs axis times)) a t r
      → record { tables = model_of links a t marks; answer = r }
      ≡ on_sqs (f z) (model_of links axis times marks)
  on_signed z g f k = on_sqs_lem (f z) (subst (λ (w : ℤ). Answers m (f w marks (sqs axis times)) a t r) (to_z-of_z w64 z g) k)

module _ (c : Counts) (links axis times marks a t k : List ℕ) (r : Answered) where
  pub on_marks_lem : (f : List ℕ → Sqs → Marked) → FinishMade c (f marks (sqs axis times)) a t k r
      → record { tables = model_of links a t k; answer = r }
      ≡ on_marks f (model_of links axis times marks)
  on_marks_lem f w =
      ap
      (λ (o : Marked). record {
        tables = model_of links o.outcome.left.axis o.outcome.left.times o.marks;
        answer = o.outcome.answer;
      })
      w.is

  pub on_sets_lem : (f : List ℕ → Sqs → Waited) → WaitMade c (f links (sqs axis times)) k a t r
      → record { tables = model_of k a t marks; answer = r }
      ≡ on_sets f (model_of links axis times marks)
  on_sets_lem f w =
      ap
      (λ (o : Waited). record {
        tables = model_of o.links o.outcome.left.axis o.outcome.left.times marks;
        answer = o.outcome.answer;
      })
      w.is
