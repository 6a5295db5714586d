-- The loop's variables: current's place, time and record beside the tables, and what a step makes of them.
use Rattle.std.specs.Prelude.{ℕ, ◌≡◌, List, get_or, set}
use Rattle.std.proofs.Common.{sym, ap, subst, ◌∙◌}
use Rattle.std.proofs.lemmas.List.{set-get_or}
use Rattle.model.specs.declared.Counts.{Counts}
use Rattle.model_laws.specs.Now.{half, time_of, first_of}
use Rattle.run_laws.specs.Run.{RunTables, run_of, record_at_now}

pub record Here (c : Counts) (u : RunTables) (f time r : ℕ) : Type 0 where
  pub place_is : f ≡ first_of (half c) u.model.axis
  pub time_is : time ≡ time_of (half c) u.model.axis u.model.times
  pub record_is : r ≡ record_at_now c u

-- read at the place that is current's
pub here_at : (c : Counts) (u : RunTables) (f time r : ℕ) → f ≡ first_of (half c) u.model.axis → time ≡ get_or u.model.times f 0
    → r ≡ get_or u.positions f 0
    → Here c u f time r
here_at c u f time r e et er =
    record {
      place_is = e;
      time_is = et ∙ ap (λ (j : ℕ). get_or u.model.times j 0) e;
      record_is = er ∙ ap (λ (j : ℕ). get_or u.positions j 0) e;
    }

-- the tables with the process at place f at record r
abbrev pub positioned : RunTables → ℕ → ℕ → RunTables
positioned u f r = run_of u.model (set u.positions f r) u.words

-- a position that the table has
pub as_positioned : (u : RunTables) (f r : ℕ) → r ≡ get_or u.positions f 0 → u ≡ positioned u f r
as_positioned u f r e =
    ap (λ (l : List ℕ). run_of u.model l u.words)
    (sym (ap (set u.positions f) e ∙ set-get_or u.positions f 0))

pub here_positioned : (c : Counts) (u : RunTables) (f time r : ℕ) → f ≡ first_of (half c) u.model.axis
    → time ≡ get_or u.model.times f 0 → r ≡ get_or u.positions f 0
    → Here c (positioned u f r) f time r
here_positioned c u f time r ef et er = subst (λ (v : RunTables). Here c v f time r) (as_positioned u f r er)
    (here_at c u f time r ef et er)
