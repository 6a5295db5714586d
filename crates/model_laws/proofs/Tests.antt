-- The tests of one place of the axis: their clauses, and what they mean.
use Rattle.std.specs.Prelude.{ℕ, zero, suc, ◌<◌, ◌≤◌, ◌≡◌, true, false, List, eqb, leb, get_or}
use Rattle.std.proofs.Math.Path.{refl}
use Rattle.std.proofs.Common.{sym, ap, ◌∙◌, arith}
use borrow.Author.Tests.{le-leb, lt-leb, leb-true, lt-ltb, le-ltb}
use Rattle.model.specs.Counts.{limit}
use Rattle.ring_laws.specs.Lists.{decide, below, test, clash}
use Rattle.ring_laws.specs.Judge.{idle}
use Rattle.model_laws.specs.Judge.{time_fine, places_fine}
use Rattle.axis_laws.specs.Marks.{mark_fine}

-- ---- the clauses

module _ (S P : ℕ → ℕ) (h : ℕ) (times : List ℕ) (y : ℕ) where
  pub time_idle : idle S P y ≡ true → time_fine S P h times y ≡ eqb (get_or times y 0) 0
  unfolding time_fine
  time_idle e = rw e

  pub time_past : idle S P y ≡ false → limit < get_or times y 0 → time_fine S P h times y ≡ false
  unfolding time_fine
  time_past e l = rw (e, lt-ltb limit (get_or times y 0) l)

  pub time_last : idle S P y ≡ false → get_or times y 0 ≤ limit → h ≤ S y → time_fine S P h times y ≡ true
  unfolding time_fine
  time_last e l b = rw (e, le-ltb limit (get_or times y 0) l, le-leb h (S y) b)

  pub time_next : idle S P y ≡ false → get_or times y 0 ≤ limit → S y < h → time_fine S P h times y ≡ leb (get_or times y 0) (get_or times (S y) 0)
  unfolding time_fine
  time_next e l b = rw (e, le-ltb limit (get_or times y 0) l, lt-leb h (S y) b)

  -- what it means of a place with a notice
  pub time_mean : idle S P y ≡ false → time_fine S P h times y ≡ true
      → (get_or times y 0 ≤ limit) × (S y < h → get_or times y 0 ≤ get_or times (S y) 0)
  time_mean e f =
      below limit (get_or times y 0)
      (λ l. clash (sym (time_past e l) ∙ f))
      (λ l. (l, λ b. leb-true (get_or times y 0) (get_or times (S y) 0) (sym (time_next e l b) ∙ f)))

  pub mean_time : idle S P y ≡ false → get_or times y 0 ≤ limit → (S y < h → get_or times y 0 ≤ get_or times (S y) 0)
      → time_fine S P h times y ≡ true
  mean_time e l f = below (S y) h (λ b. time_next e l b ∙ le-leb (get_or times y 0) (get_or times (S y) 0) (f b)) (λ b. time_last e l b)

module _ (S P : ℕ → ℕ) (h : ℕ) (times marks : List ℕ) where
  pub places_none : places_fine S P h times marks 0 ≡ true
  unfolding places_fine
  places_none = refl

  pub places_time : (i : ℕ) → time_fine S P h times (suc i) ≡ false → places_fine S P h times marks (suc i) ≡ false
  unfolding places_fine
  places_time i e = rw e

  pub places_mark : (i : ℕ) → time_fine S P h times (suc i) ≡ true → mark_fine S P marks (suc i) ≡ false
      → places_fine S P h times marks (suc i) ≡ false
  unfolding places_fine
  places_mark i e f = rw (e, f)

  pub places_on : (i : ℕ) → time_fine S P h times (suc i) ≡ true → mark_fine S P marks (suc i) ≡ true
      → places_fine S P h times marks (suc i) ≡ places_fine S P h times marks i
  unfolding places_fine
  places_on i e f = rw (e, f)

  pub places_mean : (i y : ℕ) → places_fine S P h times marks i ≡ true → 0 < y → y ≤ i
      → (time_fine S P h times y ≡ true) × (mark_fine S P marks y ≡ true)
  places_mean zero y e a b = absurd (none a b)
    where
      none : 0 < y → y ≤ 0 → ⊥
      none a b = omega arith
  places_mean (suc i) y e a b =
      test (time_fine S P h times (suc i))
      (λ t. test (mark_fine S P marks (suc i))
      (λ k. decide y (suc i)
      (λ q. (ap (time_fine S P h times) q ∙ t, ap (mark_fine S P marks) q ∙ k))
      (λ q. places_mean i y (sym (places_on i t k) ∙ e) a (omega arith)))
      (λ k. clash (sym (places_mark i t k) ∙ e)))
      (λ t. clash (sym (places_time i t) ∙ e))

  pub mean_places : (i : ℕ) → ((y : ℕ) → 0 < y → y ≤ i → (time_fine S P h times y ≡ true) × (mark_fine S P marks y ≡ true))
      → places_fine S P h times marks i ≡ true
  mean_places zero f = places_none
  mean_places (suc i) f =
      let b = f (suc i) (omega arith) (omega arith) in
      places_on i b.0 b.1 ∙ mean_places i (λ y a l. f y a (omega arith))
