-- The public calls of accum: refusals 1, 2 and 3, or the update at the model's time.
use Rattle.std.specs.Prelude.{ℕ, ◌-◌, ◌*◌, Bool, true, false, ◌&&◌, List, eqb, leb, length, ℤ, if◌then◌else◌, Ok, Err, Result}
use Rattle.model.specs.declared.Counts.{Counts}
use Rattle.model.specs.declared.Refusal.TheVariants.{Size, Operand}
use Rattle.model.specs.declared.answer.Answer.TheVariants.{Done}
use Rattle.model.specs.Answers.{Verdict}
use Rattle.model_laws.specs.Tables.{Tables}
use Rattle.model_laws.specs.Judge.{judged}
use Rattle.model_laws.specs.Now.{time_of, half}
use Rattle.accum_laws.specs.declared.Accumulator.{Accumulator}
use Rattle.accum_laws.specs.declared.Kept.{Kept}
use Rattle.accum_laws.specs.declared.Picked.{Picked}
use Rattle.accum_laws.specs.Update.{Updated, updated_of}
use Rattle.accum_laws.specs.Flat.{Changed, updated_in}
use Rattle.accum_laws.specs.Triples.{Listed, updated_at}
use Rattle.model.specs.declared.Refusal.{Refusal}

-- ---- one accumulator

abbrev pub kept_of : Updated → Accumulator → Kept
kept_of (Ok v) x = record { value = v; answer = Ok Done }
kept_of (Err q) x = record { value = x; answer = Err q }

-- accum at a time: the new accumulator, or refusal 7 and the old one
unfoldable pub accum_one : Accumulator → ℕ → ℤ → Kept
accum_one x t d = kept_of (updated_of x t d) x

-- "A refusal returns its number and changes no lent byte"
abbrev pub keeping : Verdict → Accumulator → Kept → Kept
keeping (Ok tt) x k = k
keeping (Err r) x k = record { value = x; answer = Err r }

-- refusals 1 and 2, then accum at the model's time
unfoldable pub accum_alone : Counts → Tables → Accumulator → ℤ → Kept
accum_alone c t x d = keeping (judged c t) x (accum_one x (time_of (half c) t.axis t.times) d)

-- ---- a list

-- "A lent list of 1 to 64 accumulators": another count is 1, and so is another number of words than three for each
unfoldable pub count_fine : ℕ → Bool
count_fine n = leb 1 n && leb n 64

unfoldable pub list_fine : ℕ → ℕ → Bool
list_fine n words = count_fine n && eqb words (3 * n)

-- "is numbered from 1"
unfoldable pub number_fine : ℕ → ℕ → Bool
number_fine n k = leb 1 k && leb k n

-- a number that is not in the list is 3, after 1 and 2
abbrev pub number_judged : Verdict → Bool → Verdict
number_judged (Ok tt) b = if b then (Ok tt) else Err Operand
number_judged (Err r) b = Err r

-- "Order: 8, 1, 2, 3, then the rest": a list that is not as said is 1, also where the tables are damaged
unfoldable pub list_judged : Bool → Bool → Counts → Tables → Verdict
list_judged list number c t = if list then number_judged (judged c t) number else Err Size

abbrev pub changing : Verdict → List ℤ → Changed → Changed
changing (Ok tt) l s = s
changing (Err r) l s = record { words = l; answer = Err r }

-- accum on number k of n accumulators in a flat list of words
unfoldable pub accum_listed : Counts → Tables → ℕ → ℕ → ℤ → List ℤ → Changed
accum_listed c t n k d l =
    changing (list_judged (list_fine n (length l)) (number_fine n k) c t) l (updated_in k (time_of (half c) t.axis t.times) d l)

abbrev pub listing : Verdict → List Accumulator → Listed → Listed
listing (Ok tt) l s = s
listing (Err r) l s = record { list = l; answer = Err r }

-- accum on number k of a list of accumulators
unfoldable pub accum_at : Counts → Tables → ℕ → ℤ → List Accumulator → Listed
accum_at c t k d l =
    listing (list_judged (count_fine (length l)) (number_fine (length l) k) c t) l (updated_at k (time_of (half c) t.axis t.times) d l)

-- the element that number k picks of n, at the model's time; or why not
abbrev pub picking : Verdict → ℕ → ℕ → Result Picked Refusal
picking (Ok tt) i time = Ok (record { at = i; time = time })
picking (Err r) i time = Err r

unfoldable pub pick_of : Counts → Tables → ℕ → ℕ → Result Picked Refusal
pick_of c t n k = picking (list_judged (count_fine n) (number_fine n k) c t) (k - 1) (time_of (half c) t.axis t.times)
