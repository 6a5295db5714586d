-- The calls that a stretch of turns makes itself, and those that are made apart. It is a matter of speed alone: what a call leaves is
-- `performed` for all of them.
use Rattle.std.specs.Prelude.{ℕ, ◌≡◌, ◌≢◌, Bool, ◌&&◌, ◌||◌, List, ℤ, if◌then◌else◌, Ok, Err}
use Rattle.std.proofs.Math.Path.{refl, sym, ap}
use Rattle.std.proofs.Common.{◌∙◌}
use Rattle.std.proofs.Math.Bool.{true, false, not}
use Rattle.std.proofs.Math.Dec.{eqb}
use borrow.Author.Tests.{ne_eqb, eqb-true}
use Rattle.ring_laws.specs.Lists.{test, clash}
use Rattle.model.specs.declared.Counts.{Counts}
use Rattle.model.specs.Answers.{Answered}
use Rattle.model.specs.declared.answer.Answer.TheVariants.{Done, Linkage, Number, Truth}
use Rattle.model_laws.specs.Tables.{Tables}
use Rattle.simset_laws.specs.Procedures.{empty_of}
use Rattle.sheet.specs.declared.records.Record.{Record}
use Rattle.machine.specs.Calls.{Call}
use Rattle.run_laws.specs.OnTables.{carried_out}
use Rattle.run_laws.specs.declared.Effect.TheVariants.{Jumps, Apart}
use Rattle.run_laws.specs.Run.{resolved, call_due}
use Rattle.run_laws.specs.Performed.{Meant, call_effect, stays_or_moves, effect_of, unless_refused, Performed, performed}
use Rattle.run_laws.specs.Tried.{made_here, apart, made_soon, at_hand, enters, left, tried, is_apart}

-- ---- by the operation

module _ (c : Counts) (q : Record) (f : ℕ) (links : List ℕ) (known : Bool) where
  pub here : (n : ℕ) → eqb n 10 ≡ false → enters n ≡ false → made_here n ≡ true → q.operation ≡ n → left c q f links known ≡ false
  unfolding left apart
  here n t i m e = rw (e, t, i, m)

  pub here_known : (n : ℕ) → eqb n 10 ≡ false → enters n ≡ true → q.operation ≡ n → known ≡ true → left c q f links known ≡ false
  unfolding left
  here_known n t i e k = rw (e, t, i, k)

  pub left_unknown : (n : ℕ) → eqb n 10 ≡ false → enters n ≡ true → q.operation ≡ n → known ≡ false → left c q f links known ≡ true
  unfolding left
  left_unknown n t i e k = rw (e, t, i, k)

  pub here_soon : (k : ℕ) → made_soon k ≡ true → q.operation ≡ 10 → q.clause ≡ k → at_hand c q f links ≡ true
      → left c q f links known ≡ false
  unfolding left
  here_soon k m e z h = rw (e, z, m, h)

  pub left_far : q.operation ≡ 10 → at_hand c q f links ≡ false → left c q f links known ≡ true
  unfolding left
  left_far e h = rw (e, h) (never (made_soon q.clause))
    where
      never : (b : Bool) → not (b && false) ≡ true
      never true = refl
      never false = refl

  pub left_10 : q.operation ≡ 10 → q.clause ≢ 2 → q.clause ≢ 0 → left c q f links known ≡ true
  unfolding left
  left_10 e n z = rw (e, ne_eqb q.clause 2 n, ne_eqb q.clause 0 z)

  pub left_0 : q.operation ≡ 0 → left c q f links known ≡ true
  unfolding left apart
  left_0 e = rw e

  pub left_other : (o : ℕ) → o ≡ q.operation → o ≢ 1 → o ≢ 4 → o ≢ 6 → o ≢ 8 → o ≢ 10 → o ≢ 12 → o ≢ 13 → left c q f links known ≡ true
  unfolding left apart
  left_other o e a b d k m g h =
      rw (← e, ne_eqb o 1 a, ne_eqb o 4 b, ne_eqb o 6 d, ne_eqb o 8 k, ne_eqb o 10 m, ne_eqb o 12 g, ne_eqb o 13 h)

  -- what is left may be made apart
  apart_as_left : left c q f links known ≡ true → apart q ≡ true
  unfolding left apart
  apart_as_left l =
      test (eqb q.operation 10)
      (λ e. ap (λ (o : ℕ). not (made_here o)) (eqb-true q.operation 10 e))
      (λ e. test (enters q.operation) (λ i. entering (eqb q.operation 4) refl i) (λ i. rw (e, i) at l))
    where
      entering : (b : Bool) → eqb q.operation 4 ≡ b → (b || eqb q.operation 8) ≡ true → not (made_here q.operation) ≡ true
      entering true e i = ap (λ (o : ℕ). not (made_here o)) (eqb-true q.operation 4 e)
      entering false e i = ap (λ (o : ℕ). not (made_here o)) (eqb-true q.operation 8 i)

module _ (c : Counts) (q : Record) (f : ℕ) (t : Tables) (w : List ℤ) (known : Bool) where
  pub tried_not : left c q f t.links known ≡ true → record { tables = t; words = w; effect = (Ok Apart) } ≡ tried c q f t w known
  unfolding tried
  tried_not e = rw e

  pub tried_made : left c q f t.links known ≡ false → (o : Performed) → o ≡ performed c q f t w → o ≡ tried c q f t w known
  unfolding tried
  tried_made e o eo = rw e eo

  never : (k : Call) (none : Bool) (a : Answered) → is_apart (unless_refused a (effect_of k q none)) ≡ false
  unfolding effect_of
  never k none = go
    where
      on : is_apart (if eqb q.operation 12 && none then Ok (Jumps q.y) else call_effect k) ≡ false
      on = test (eqb q.operation 12 && none) (λ e. rw e refl)
          (λ e. rw e (stays_or_moves (λ (v : Meant). is_apart v ≡ false) refl refl k))

      go : (a : Answered) → is_apart (unless_refused a (if eqb q.operation 12 && none then Ok (Jumps q.y) else call_effect k)) ≡ false
      go (Ok a) = on
      go (Err r) = refl

  made_here_lem : is_apart (performed c q f t w).effect ≡ false
  unfolding performed
  made_here_lem = never (call_due (resolved c t.links f q)) (empty_of (resolved c t.links f q).x t.links)
      (carried_out c (call_due (resolved c t.links f q)) t w).answer

  module _ (o : Performed) (is : o ≡ tried c q f t w known) where
    told : is_apart o.effect ≡ is_apart (tried c q f t w known).effect
    told = ap (λ (p : Performed). is_apart p.effect) is

    pub not_left : is_apart o.effect ≡ false → left c q f t.links known ≡ false
    unfolding tried
    not_left e = test (left c q f t.links known) (λ a. let z : true ≡ false = sym (rw a at told) ∙ e in clash (sym z)) (λ a. a)

    -- it was made here
    pub made_of : is_apart o.effect ≡ false → o ≡ performed c q f t w
    unfolding tried
    made_of e = rw (not_left e) at is

    -- or it is left, with all as it was
    pub left_of_lem : is_apart o.effect ≡ true → (apart q ≡ true) × (o.tables ≡ t) × (o.words ≡ w)
    unfolding tried
    left_of_lem e =
        test (left c q f t.links known)
        (λ a. (
          apart_as_left c q f t.links known a,
          ap (λ (p : Performed). p.tables) (rw a at is),
          ap (λ (p : Performed). p.words) (rw a at is),
        ))
        (λ a. let z : true ≡ false = sym e ∙ (rw a at told) ∙ made_here_lem in clash (sym z))
