-- The judge of positions: its loop, counting down, and its answers.
use Rattle.std.specs.Prelude.{Ok, Err}
use Prim.Native.Nat.{ℕ, suc, ◌+◌, ◌-◌, ◌<◌, ◌≤◌}
use mathlib.Core.Path.{◌≡◌, refl, sym, ap, ◌∙◌}
use mathlib.Core.Logic.{◌≢◌}
use mathlib.Core.Bool.{Bool, true, false, not}
use mathlib.Core.List.{List}
use native.Mathlib.Omega.{arith}
use lib.Dec.{eqb}
use lib.ListN.{length, get_or}
use borrow.Author.Tests.{not-true, not-false}
use Rattle.model.specs.declared.Counts.{Counts}
use Rattle.model.specs.declared.Refusal.TheVariants.{Size, Malformed}
use Rattle.model_laws.specs.Judge.{positions_fine, positions_judged}
use Rattle.model_laws.specs.Positions.{judged_length, judged_not, judged_fine}
use Rattle.model_laws.proofs.Positions.{positions_zero, positions_past, positions_on}

pub record Downto (R : ℕ) (positions : List ℕ) (p i : ℕ) : Type 0 where
  pub few : i ≤ p
  pub rest : positions_fine R positions i ≡ positions_fine R positions p

module _ (R : ℕ) (positions : List ℕ) (p : ℕ) where
  pub stands_start : Downto R positions p p
  stands_start = record { few = omega arith; rest = refl }

  module _ (i : ℕ) (s : Downto R positions p i) where
    pub stands_past : 0 < i → R < get_or positions i 0 → false ≡ positions_fine R positions p
    stands_past a l =
        let e : suc (i - 1) ≡ i = omega arith in
        sym (positions_past R positions (i - 1) (rw e l)) ∙ ap (positions_fine R positions) e ∙ s.rest

    pub stands_turn : 0 < i → get_or positions i 0 ≤ R → Downto R positions p (i - 1)
    stands_turn a l =
        let e : suc (i - 1) ≡ i = omega arith in
        record { few = omega (arith, s.few); rest = sym (positions_on R positions (i - 1) (rw e l)) ∙ ap (positions_fine R positions) e ∙ s.rest }

    pub stands_out : i ≤ 0 → eqb (get_or positions 0 0) 0 ≡ positions_fine R positions p
    stands_out l = let e : 0 ≡ i = omega arith in sym (positions_zero R positions) ∙ ap (positions_fine R positions) e ∙ s.rest

-- ---- the answers, from the tests

module _ (c : Counts) (R : ℕ) (positions : List ℕ) (p : ℕ) (e : p ≡ c.processes) where
  pub positions_length : length positions ≢ p + 1 → Err Size ≡ positions_judged c R positions
  positions_length n = sym (judged_length c R positions (rw e at n))

  module _ (l : length positions ≡ p + 1) (ok : Bool) (f : ok ≡ positions_fine R positions p) where
    pub positions_not : not ok ≡ true → Err Malformed ≡ positions_judged c R positions
    positions_not n = sym (judged_not c R positions (rw e at l) (sym (rw e at f) ∙ not-true ok n))

    pub positions_fine_lem : not ok ≡ false → (Ok tt) ≡ positions_judged c R positions
    positions_fine_lem n = sym (judged_fine c R positions (rw e at l) (sym (rw e at f) ∙ not-false ok n))
