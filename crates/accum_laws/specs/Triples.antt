-- A list of accumulators, numbered from 1, and the same in a flat list of words.
use Rattle.std.specs.Prelude.{ℕ, zero, suc, ◌+◌, ◌-◌, ◌*◌, ◌≡◌, refl, List, [], ◌∷◌, length, get_or, set, ℤ, Ok, Err}
use Rattle.std.proofs.Common.{ap, ◌∙◌, arith}
use Rattle.model.specs.Answers.{Answered}
use Rattle.model.specs.declared.answer.Answer.TheVariants.{Done}
use Rattle.accum_laws.specs.declared.Accumulator.{Accumulator}
use Rattle.accum_laws.specs.Update.{Updated, updated_of}
use Rattle.accum_laws.specs.Keeps.{zero_accumulator}
use Rattle.accum_laws.specs.Flat.{Changed, words_at, with_words, word_place, stored, updated_in}

-- the words of a list of accumulators: a, b and c of each
abbrev pub flat : List Accumulator → List ℤ
flat [] = []
flat (x ∷ l) = x.a ∷ x.b ∷ x.c ∷ flat l

-- a list of accumulators after a call, and its answer
pub record Listed : Type 0 where
  pub list : List Accumulator
  pub answer : Answered

abbrev pub numbered : ℕ → List Accumulator → Accumulator
numbered k l = get_or l (k - 1) zero_accumulator

abbrev pub list_after : Updated → ℕ → List Accumulator → Listed
list_after (Ok v) k l = record { list = set l (k - 1) v; answer = Ok Done }
list_after (Err q) k l = record { list = l; answer = Err q }

-- "13 is accum on triple x": number k replaced by its update, or refusal 7
unfoldable pub updated_at : ℕ → ℕ → ℤ → List Accumulator → Listed
updated_at k t d l = list_after (updated_of (numbered k l) t d) k l

abbrev pub flattened : Listed → Changed
flattened s = record { words = flat s.list; answer = s.answer }

-- ---- the words of number k are at 3 × (k − 1)

pub flat_length : (l : List Accumulator) → length (flat l) ≡ 3 * length l
flat_length [] = refl
flat_length (x ∷ l) = omega (arith, flat_length l)

module _ (n : ℕ) where
  three : 3 * suc n ≡ suc (suc (suc (3 * n)))
  three = omega arith

  three_one : 3 * suc n + 1 ≡ suc (suc (suc (3 * n + 1)))
  three_one = omega arith

  three_two : 3 * suc n + 2 ≡ suc (suc (suc (3 * n + 2)))
  three_two = omega arith

pub flat_at : (l : List Accumulator) (n : ℕ) → words_at (3 * n) (flat l) ≡ get_or l n zero_accumulator
unfolding words_at
flat_at [] n = refl
flat_at (x ∷ l) zero = refl
flat_at (x ∷ l) (suc n) = rw (three_one n, three_two n, three n) (flat_at l n)

pub flat_with : (l : List Accumulator) (n : ℕ) (v : Accumulator) → with_words (3 * n) v (flat l) ≡ flat (set l n v)
unfolding with_words
flat_with [] n v = refl
flat_with (x ∷ l) zero v = refl
flat_with (x ∷ l) (suc n) v = rw (three_one n, three_two n, three n) (ap (λ (r : List ℤ). x.a ∷ x.b ∷ x.c ∷ r) (flat_with l n v))

-- accum in the flat list is accum in the list of triples
pub flat_updated : (k t : ℕ) (d : ℤ) (l : List Accumulator) → updated_in k t d (flat l) ≡ flattened (updated_at k t d l)
unfolding updated_in updated_at
flat_updated k t d l =
    ap (λ (x : Accumulator). stored (updated_of x t d) (word_place k) (flat l)) (flat_at l (k - 1)) ∙ go (updated_of (numbered k l) t d)
  where
    go : (u : Updated) → stored u (word_place k) (flat l) ≡ flattened (list_after u k l)
    go (Ok v) = ap (λ (w : List ℤ). record { words = w; answer = Ok Done }) (flat_with l (k - 1) v)
    go (Err q) = refl
