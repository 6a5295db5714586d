-- What the calls of accum mean, for every well-formed model: the update at the model's time, by value, on a number of a flat list, and on
-- a number of a list of structs; 1 exactly for a list that is not as said, 3 exactly for a number that is not in it. And on any tables a
-- refused call changes no word.
use Rattle.std.specs.Prelude.{ℕ, ◌≡◌, Bool, List, ℤ, length, if◌then◌else◌, Ok, Err}
use Rattle.std.proofs.Math.Path.{refl, ap}
use Rattle.std.proofs.Common.{◌∙◌}
use Rattle.std.proofs.Math.Bool.{true, false}
use Rattle.ring_laws.specs.Lists.{clash}
use Rattle.model.specs.declared.Counts.{Counts}
use Rattle.model.specs.declared.Refusal.{Refusal}
use Rattle.model.specs.declared.Refusal.TheVariants.{Size, Operand}
use Rattle.model.specs.Answers.{Verdict}
use Rattle.model_laws.specs.Tables.{Tables, Lists, Sized, Spells}
use Rattle.model_laws.specs.Judge.{judged}
use Rattle.model_laws.proofs.Verdict.{judged_says}
use Rattle.model_laws.specs.Now.{time, half, time_of}
use Rattle.model_laws.proofs.NowLaws.{time_now}
use Rattle.accum_laws.specs.declared.Accumulator.{Accumulator}
use Rattle.accum_laws.specs.Update.{Updated, updated_of}
use Rattle.accum_laws.specs.Flat.{words_at, word_place, stored, updated_in}
use Rattle.accum_laws.specs.Triples.{numbered, list_after, updated_at}
use Rattle.accum_laws.specs.Calls.{kept_of, accum_one, keeping, accum_alone, count_fine, list_fine, number_fine, list_judged, changing}
use Rattle.accum_laws.specs.Calls.{accum_listed, listing, accum_at}

-- ---- well-formed models

-- refusal 1 of the list, refusal 3 of the number in it, or fine
abbrev pub list_verdict : Bool → Bool → Verdict
list_verdict list number = if list then (if number then (Ok tt) else Err Operand) else Err Size

module _ (c : Counts) (l : Lists) (t : Tables) (w : Sized c t) (s : Spells c l t) where
  fine : judged c t ≡ (Ok tt)
  fine = (judged_says c t).fine w (l, s)

  list_is : (list number : Bool) → list_judged list number c t ≡ list_verdict list number
  unfolding list_judged
  list_is list number = rw fine

  now_is : time_of (half c) t.axis t.times ≡ time l
  now_is = time_now c l t s

  -- by value, and so lent by `&mut`
  pub alone_means : (x : Accumulator) (d : ℤ) → accum_alone c t x d ≡ accum_one x (time l) d
  unfolding accum_alone
  alone_means x d = rw fine (ap (λ (u : ℕ). accum_one x u d) now_is)

  -- number k of n in a flat list
  pub listed_means : (n k : ℕ) (d : ℤ) (words : List ℤ)
      → accum_listed c t n k d words ≡ changing (list_verdict (list_fine n (length words)) (number_fine n k)) words
      (updated_in k (time l) d words)
  unfolding accum_listed
  listed_means n k d words =
      ap (λ (v : Verdict). changing v words (updated_in k (time_of (half c) t.axis t.times) d words)) (list_is _ _)
      ∙ ap (λ (u : ℕ). changing (list_verdict (list_fine n (length words)) (number_fine n k)) words (updated_in k u d words)) now_is

  -- number k of a list of structs, as it is lent
  pub at_means : (k : ℕ) (d : ℤ) (list : List Accumulator)
      → accum_at c t k d list ≡ listing (list_verdict (count_fine (length list)) (number_fine (length list) k)) list
      (updated_at k (time l) d list)
  unfolding accum_at
  at_means k d list =
      ap (λ (v : Verdict). listing v list (updated_at k (time_of (half c) t.axis t.times) d list)) (list_is _ _)
      ∙ ap (λ (u : ℕ). listing (list_verdict (count_fine (length list)) (number_fine (length list) k)) list (updated_at k u d list)) now_is

-- ---- any tables: "A refusal returns its number and changes no lent byte"

module _ (c : Counts) (t : Tables) (r : Refusal) where
  pub alone_kept : (x : Accumulator) (d : ℤ) → (accum_alone c t x d).answer ≡ Err r → (accum_alone c t x d).value ≡ x
  unfolding accum_alone accum_one
  alone_kept x d e = go (judged c t) (updated_of x (time_of (half c) t.axis t.times) d) e
    where
      go : (v : Verdict) (u : Updated) → (keeping v x (kept_of u x)).answer ≡ Err r → (keeping v x (kept_of u x)).value ≡ x
      go (Ok tt) (Ok y) q = let z : false ≡ true = cc in clash z
      go (Ok tt) (Err p) q = refl
      go (Err p) u q = refl

  pub listed_kept : (n k : ℕ) (d : ℤ) (l : List ℤ) → (accum_listed c t n k d l).answer ≡ Err r → (accum_listed c t n k d l).words ≡ l
  unfolding accum_listed updated_in
  listed_kept n k d l e =
      go (list_judged (list_fine n (length l)) (number_fine n k) c t)
      (updated_of (words_at (word_place k) l) (time_of (half c) t.axis t.times) d) e
    where
      go : (v : Verdict) (u : Updated) → (changing v l (stored u (word_place k) l)).answer ≡ Err r
          → (changing v l (stored u (word_place k) l)).words ≡ l
      go (Ok tt) (Ok y) q = let z : false ≡ true = cc in clash z
      go (Ok tt) (Err p) q = refl
      go (Err p) u q = refl

  pub at_kept : (k : ℕ) (d : ℤ) (l : List Accumulator) → (accum_at c t k d l).answer ≡ Err r → (accum_at c t k d l).list ≡ l
  unfolding accum_at updated_at
  at_kept k d l e =
      go (list_judged (count_fine (length l)) (number_fine (length l) k) c t)
      (updated_of (numbered k l) (time_of (half c) t.axis t.times) d) e
    where
      go : (v : Verdict) (u : Updated) → (listing v l (list_after u k l)).answer ≡ Err r → (listing v l (list_after u k l)).list ≡ l
      go (Ok tt) (Ok y) q = let z : false ≡ true = cc in clash z
      go (Ok tt) (Err p) q = refl
      go (Err p) u q = refl
