-- Accumulators as structs and the same as words: a copy from the one list to the other, one accumulator after the other, and accum in both.
use Rattle.std.specs.Prelude.{ℕ, ◌≡◌, Bool, true, false, not, List, length, ℤ, Err}
use Rattle.std.proofs.Common.{sym, ap, ◌∙◌, arith}
use borrow.Author.Tests.{not-true}
use Rattle.model.specs.declared.Counts.{Counts}
use Rattle.model.specs.declared.Refusal.TheVariants.{Size}
use Rattle.model.specs.Answers.{Answered}
use Rattle.model_laws.specs.Tables.{Tables}
use Rattle.accum_laws.specs.declared.Accumulator.{Accumulator}
use Rattle.accum_laws.specs.Triples.{flat, flat_length, flattened}
use Rattle.accum_laws.specs.Calls.{list_fine, list_judged, accum_listed, accum_at}
use Rattle.accum_laws.proofs.Runs.{listed_flat}
use Rattle.accum_laws.specs.Gather.{listed_within}

module _ (c : Counts) (t : Tables) (n k : ℕ) (d : ℤ) (l : List ℤ) (ok : Bool) (o : ok ≡ list_fine n (length l)) where
  -- words that are not three for each of 1 to 64 accumulators are refused
  pub listed_size : not ok ≡ true → record { words = l; answer = Err Size } ≡ accum_listed c t n k d l
  unfolding accum_listed list_judged
  listed_size e = rw (sym o ∙ not-true ok e)

  module _ (f : not ok ≡ false) (m : ℕ) (w : m ≡ n) (xs : List Accumulator) (q : flat xs ≡ l) where
    -- as many structs as were counted
    same_count : length xs ≡ n
    same_count = omega (arith, flat_length xs, ap (λ (v : List ℤ). length v) q, (listed_within n m (length l) ok o f w).1, w)

    -- else accum on structs that are the words answers for the words
    pub listed_lent : (ys : List Accumulator) (r : Answered) (e : ℤ) → e ≡ d → record { list = ys; answer = r } ≡ accum_at c t k e xs
        → (v : List ℤ) → v ≡ flat ys → record { words = v; answer = r } ≡ accum_listed c t n k d l
    listed_lent ys r e x p v z =
        ap (λ (u : List ℤ). record { words = u; answer = r }) z ∙ ap flattened (p ∙ ap (λ (y : ℤ). accum_at c t k y xs) x)
        ∙ sym (listed_flat c t k d xs) ∙ ap (λ (u : List ℤ). accum_listed c t (length xs) k d u) q
        ∙ ap (λ (j : ℕ). accum_listed c t j k d l) same_count
