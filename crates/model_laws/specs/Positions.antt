-- The judge of a run's positions: its clauses, and that it answers fine, 1 or 2 exactly where the papers say.
use Rattle.std.specs.Prelude.{ℕ, ◌+◌, ◌≤◌, ◌≡◌, ◌≢◌, true, false, List, length, get_or, Ok, Err}
use Rattle.std.proofs.Common.{eq-eqb, ne_eqb}
use Rattle.model.specs.declared.Counts.{Counts}
use Rattle.model.specs.declared.Refusal.TheVariants.{Size, Malformed}
use Rattle.model.specs.Answers.{Verdict}
use Rattle.model_laws.specs.Judge.{positions_fine, positions_judged}

-- ---- the theorem, in both directions

-- "place 0 zero, each at most R"
pub record Positions (c : Counts) (R : ℕ) (positions : List ℕ) : Type 0 where
  pub zero_is : get_or positions 0 0 ≡ 0
  pub in_sheet : (y : ℕ) → y ≤ c.processes → get_or positions y 0 ≤ R

module _ (c : Counts) (R : ℕ) (positions : List ℕ) where
  pub judged_length : length positions ≢ c.processes + 1 → positions_judged c R positions ≡ Err Size
  unfolding positions_judged
  judged_length n = rw (ne_eqb (length positions) (c.processes + 1) n)

  module _ (e : length positions ≡ c.processes + 1) where
    pub judged_not : positions_fine R positions c.processes ≡ false → positions_judged c R positions ≡ Err Malformed
    unfolding positions_judged
    judged_not f = rw (eq-eqb (length positions) (c.processes + 1) e, f)

    pub judged_fine : positions_fine R positions c.processes ≡ true → positions_judged c R positions ≡ (Ok tt)
    unfolding positions_judged
    judged_fine f = rw (eq-eqb (length positions) (c.processes + 1) e, f)

pub record PositionsSay (c : Counts) (R : ℕ) (positions : List ℕ) (v : Verdict) : Type 0 where
  pub fine : length positions ≡ c.processes + 1 → Positions c R positions → v ≡ (Ok tt)
  pub one : length positions ≢ c.processes + 1 → v ≡ Err Size
  pub two : length positions ≡ c.processes + 1 → (Positions c R positions → ⊥) → v ≡ Err Malformed
  pub fine_only : v ≡ (Ok tt) → (length positions ≡ c.processes + 1) × Positions c R positions
