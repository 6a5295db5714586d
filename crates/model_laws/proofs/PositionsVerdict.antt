-- The judge of a run's positions answers fine, 1 or 2 exactly where the papers say.
use Rattle.std.specs.Prelude.{ℕ, ◌+◌, ◌≡◌, true, false, List, length, Ok, Err}
use Rattle.std.proofs.Common.{sym, ◌∙◌}
use Rattle.ring_laws.specs.Lists.{decide, test, clash}
use Rattle.model.specs.declared.Counts.{Counts}
use Rattle.model.specs.declared.Refusal.TheVariants.{Size, Malformed}
use Rattle.model_laws.specs.Judge.{positions_fine, positions_judged}
use Rattle.model_laws.specs.Positions.{Positions, judged_length, judged_not, judged_fine, PositionsSay}
use Rattle.model_laws.proofs.Positions.{positions_sound, positions_complete}

pub positions_say : (c : Counts) (R : ℕ) (positions : List ℕ) → PositionsSay c R positions (positions_judged c R positions)
positions_say c R positions =
    record {
      fine = λ e w. judged_fine c R positions e (positions_complete R positions c.processes w.zero_is w.in_sheet);
      one = λ n. judged_length c R positions n;
      two = λ e n.
          test (positions_fine R positions c.processes)
          (λ f. absurd (n (stands f)))
          (λ f. judged_not c R positions e f);
      fine_only = λ e.
          decide (length positions) (c.processes + 1)
          (λ l. test (positions_fine R positions c.processes)
          (λ f. (l, stands f))
          (λ f. let q : Err Malformed ≡ (Ok tt) = sym (judged_not c R positions l f) ∙ e in let z : false ≡ true = cc in clash z))
          (λ n. let q : Err Size ≡ (Ok tt) = sym (judged_length c R positions n) ∙ e in let z : false ≡ true = cc in clash z);
    }
  where
    stands : positions_fine R positions c.processes ≡ true → Positions c R positions
    stands f = let r = positions_sound R positions c.processes f in record { zero_is = r.0; in_sheet = r.1 }
