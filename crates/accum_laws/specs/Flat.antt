-- Accumulators in a flat list of words, three for each: number k, from 1, at 3 × (k − 1).
use Rattle.std.specs.Prelude.{ℕ, ◌+◌, ◌-◌, ◌*◌, ◌≤◌, ◌<◌, ◌≡◌, refl, ◌⊎◌, length, get_or, set, ℤ, pos, Ok, Err}
use Rattle.std.proofs.Common.{◌∙◌, inl, inr, arith, length-set, get_or-set_other}
use mathlib.Core.List.{List}
use Rattle.model.specs.Answers.{Answered}
use Rattle.model.specs.declared.answer.Answer.TheVariants.{Done}
use Rattle.accum_laws.specs.declared.Accumulator.{Accumulator}
use Rattle.accum_laws.specs.Update.{Updated, updated_of}

-- the words after a call, and its answer
pub record Changed : Type 0 where
  pub words : List ℤ
  pub answer : Answered

-- the accumulator whose words begin at this place, and the words with another one there
unfoldable pub words_at : ℕ → List ℤ → Accumulator
words_at i l = record { a = get_or l i (pos 0); b = get_or l (i + 1) (pos 0); c = get_or l (i + 2) (pos 0) }

unfoldable pub with_words : ℕ → Accumulator → List ℤ → List ℤ
with_words i v l = set (set (set l i v.a) (i + 1) v.b) (i + 2) v.c

-- "a .. list of .. accumulators is numbered from 1"
abbrev pub word_place : ℕ → ℕ
word_place k = 3 * (k - 1)

-- a refused update changes nothing
abbrev pub stored : Updated → ℕ → List ℤ → Changed
stored (Ok v) i l = record { words = with_words i v l; answer = Ok Done }
stored (Err q) i l = record { words = l; answer = Err q }

-- "accum on triple x", in a flat list
unfoldable pub updated_in : ℕ → ℕ → ℤ → List ℤ → Changed
updated_in k t d l = stored (updated_of (words_at (word_place k) l) t d) (word_place k) l

-- ---- no other word is touched

pub with_length : (i : ℕ) (v : Accumulator) (l : List ℤ) → length (with_words i v l) ≡ length l
unfolding with_words
with_length i v l = simp length-set

pub with_other : (i j : ℕ) (v : Accumulator) (l : List ℤ) → (j < i ⊎ i + 2 < j) → get_or (with_words i v l) j (pos 0) ≡ get_or l j (pos 0)
unfolding with_words
with_other i j v l o =
    get_or-set_other (set (set l i v.a) (i + 1) v.b) (i + 2) j v.c (pos 0) (λ e. apart (i + 2) o e (omega arith) (omega arith))
    ∙ get_or-set_other (set l i v.a) (i + 1) j v.b (pos 0) (λ e. apart (i + 1) o e (omega arith) (omega arith))
    ∙ get_or-set_other l i j v.a (pos 0) (λ e. apart i o e (omega arith) (omega arith))
  where
    apart : (n : ℕ) → (j < i ⊎ i + 2 < j) → j ≡ n → i ≤ n → n ≤ i + 2 → ⊥
    apart n (inl h) e f g = omega arith
    apart n (inr h) e f g = omega arith

-- whatever an update does, the words of other accumulators stay as they are
pub in_other : (k t : ℕ) (d : ℤ) (l : List ℤ) (j : ℕ) → (j < word_place k ⊎ word_place k + 2 < j)
    → get_or (updated_in k t d l).words j (pos 0) ≡ get_or l j (pos 0)
unfolding updated_in
in_other k t d l j o = go (updated_of (words_at (word_place k) l) t d)
  where
    go : (u : Updated) → get_or (stored u (word_place k) l).words j (pos 0) ≡ get_or l j (pos 0)
    go (Ok v) = with_other (word_place k) j v l o
    go (Err q) = refl
