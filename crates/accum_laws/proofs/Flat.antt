-- Accumulators in a flat list of words, three for each: number k, from 1, at 3 × (k − 1).
use Rattle.std.specs.Prelude.{ℕ, ◌≡◌, ℤ, Ok, Err}
use Rattle.std.proofs.Common.{sym, ◌∙◌}
use Rattle.std.proofs.Math.Path.{ap}
use mathlib.Core.List.{List}
use Rattle.model.specs.declared.Refusal.{Refusal}
use Rattle.model.specs.declared.answer.Answer.TheVariants.{Done}
use Rattle.accum_laws.specs.declared.Accumulator.{Accumulator}
use Rattle.accum_laws.specs.Update.{Updated, updated_of}
use Rattle.accum_laws.specs.Flat.{words_at, with_words, word_place, updated_in}

-- ---- what the code does, by the answer of the update

module _ (k t : ℕ) (d : ℤ) (l : List ℤ) (i : ℕ) (at : i ≡ word_place k) (x : Accumulator) (is : x ≡ words_at i l) (u : Updated)
    (e : u ≡ updated_of x t d) where
  same : updated_of (words_at (word_place k) l) t d ≡ u
  same = sym (e ∙ ap (λ (y : Accumulator). updated_of y t d) (is ∙ ap (λ (j : ℕ). words_at j l) at))

  pub in_to : (v : Accumulator) (m : List ℤ) → u ≡ Ok v → m ≡ with_words i v l → record { words = m; answer = Ok Done } ≡ updated_in k t d l
  unfolding updated_in
  in_to v m q p = rw (same ∙ q) (ap (λ (w : List ℤ). record { words = w; answer = Ok Done }) (p ∙ ap (λ (j : ℕ). with_words j v l) at))

  pub in_not : (q : Refusal) → u ≡ Err q → record { words = l; answer = Err q } ≡ updated_in k t d l
  unfolding updated_in
  in_not q f = rw (same ∙ f)
