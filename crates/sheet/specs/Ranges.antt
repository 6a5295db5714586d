-- What holds of an accepted sheet: its size, that its fields lie within it, and their ranges.
use Rattle.std.specs.Prelude.{ℕ, ◌+◌, ◌*◌, ◌-◌, ◌≤◌, ◌≡◌, Bool, true, false, ◌&&◌, List, leb, eqb, length, get_or, if◌then◌else◌, Ok, Err}
use Rattle.std.proofs.Common.{sym, ◌∙◌, arith, leb-true, eqb-true}
use Rattle.std.proofs.Math.Path.{ap}
use Rattle.model.specs.Counts.{Allowed, in_limits, both, limits_allowed}
use Rattle.model.specs.declared.Refusal.{Refusal}
use Rattle.model.specs.declared.Refusal.TheVariants.{Layout}
use Rattle.ring_laws.specs.Lists.{test}
use Rattle.ring_laws.specs.Tabulate.{listed_at, length_listed}
use Rattle.sheet.specs.AllTo.{all_at}
use Rattle.sheet.specs.Sheet.{counts_of, records_of, start_offset, start_at, record_offset, record_at, sheet_of, header_bytes, record_bytes}
use Rattle.sheet.specs.Accepted.{header_of, length_of, size_fine, sized, record_fine, pad_fine, starts_to, layout_fine, records_to, accepted}
use Rattle.sheet.specs.Accepted.{checked, checked_code}
use Rattle.sheet.specs.Checking.{answer_yes, answer_no}
use Rattle.sheet.specs.Fields.{Ranged, ranged}
use Rattle.sheet.specs.declared.header.Header.{Header}
use Rattle.sheet.specs.declared.records.Record.{Record}

-- ---- what the check's answer tells

module _ (s : List ℕ) where
  pub checked_yes : (h : Header) → checked s ≡ Ok h → (accepted s ≡ true) × (h ≡ header_of s)
  unfolding checked
  checked_yes h e = answer_yes (accepted s) (header_of s) h (sym e)

  pub checked_no : (q : Refusal) → checked s ≡ Err q → (accepted s ≡ false) × (q ≡ Layout)
  unfolding checked
  checked_no q e = answer_no (accepted s) (header_of s) q (sym e)

  -- the check's number is 0 exactly for an accepted sheet, else 8
  pub checked_code_lem : checked_code (checked s) ≡ (if accepted s then 0 else 8)
  unfolding checked
  checked_code_lem = test (accepted s) (λ t. rw t) (λ t. rw t)

  -- ---- the sheet as a value

  pub starts_listed : length (sheet_of s).starts ≡ (counts_of s).processes
  unfolding sheet_of
  starts_listed = length_listed (start_at s) 1 (counts_of s).processes

  pub records_listed : length (sheet_of s).records ≡ records_of s
  unfolding sheet_of
  records_listed = length_listed (record_at s) 1 (records_of s)

  pub start_listed : (d p : ℕ) → 1 ≤ p → p ≤ (counts_of s).processes → get_or (sheet_of s).starts (p - 1) d ≡ start_at s p
  unfolding sheet_of
  start_listed d p a b = listed_at (start_at s) d (counts_of s).processes 1 (p - 1) (omega arith) ∙ ap (start_at s) (omega arith)

  pub record_listed : (d : Record) (r : ℕ) → 1 ≤ r → r ≤ records_of s → get_or (sheet_of s).records (r - 1) d ≡ record_at s r
  unfolding sheet_of
  record_listed d r a b = listed_at (record_at s) d (records_of s) 1 (r - 1) (omega arith) ∙ ap (record_at s) (omega arith)

-- ---- an accepted sheet

module _ (s : List ℕ) (is : accepted s ≡ true) where
  abbrev starts_in : Bool
  starts_in = starts_to s (records_of s) (counts_of s).processes

  abbrev records_in : Bool
  records_in = records_to s (header_of s) (records_of s)

  is_sized : sized s ≡ true
  unfolding accepted
  is_sized = (both (sized s) (starts_in && records_in) is).0

  filled : (starts_in ≡ true) × (records_in ≡ true)
  unfolding accepted
  filled = both starts_in records_in (both (sized s) (starts_in && records_in) is).1

  limited : (in_limits (counts_of s) ≡ true) × (size_fine s (header_of s) ≡ true)
  unfolding sized
  limited = both (in_limits (counts_of s)) _ (both (leb header_bytes (length s)) _ is_sized).1

  pub allowed_counts : Allowed (counts_of s)
  allowed_counts = limits_allowed (counts_of s) limited.0

  size : (leb (records_of s) 2000 ≡ true) × (eqb (length s) (length_of (header_of s)) ≡ true)
  unfolding size_fine
  size = both (leb (records_of s) 2000) (eqb (length s) (length_of (header_of s))) limited.1

  pub few_records : records_of s ≤ 2000
  few_records = leb-true _ _ size.0

  pub exact_length : length s ≡ header_bytes + 4 * (counts_of s).processes + record_bytes * records_of s
  exact_length = eqb-true _ _ size.1

  module _ (p : ℕ) (some : 1 ≤ p) (most : p ≤ (counts_of s).processes) where
    pub start_inside : start_offset p + 4 ≤ length s
    start_inside = omega (arith, exact_length)

    pub start_in : start_at s p ≤ records_of s
    start_in = leb-true _ _ (all_at (λ k. leb (start_at s k) (records_of s)) (counts_of s).processes filled.0 p some most)

  module _ (r : ℕ) (some : 1 ≤ r) (most : r ≤ records_of s) where
    pub record_inside : record_offset (counts_of s).processes r + record_bytes ≤ length s
    record_inside = omega (arith, exact_length)

    pub record_in : Ranged (header_of s) (record_at s r)
    unfolding layout_fine
    record_in =
        ranged (header_of s) (record_at s r)
        (both (pad_fine s (record_offset (counts_of s).processes r)) (record_fine (header_of s) (record_at s r))
        (all_at (layout_fine s (header_of s)) (records_of s) filled.1 r some most)).1
