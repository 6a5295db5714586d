-- The definitions of Accepted, one test at a time, as the code makes the tests.
use Rattle.std.specs.Prelude.{ℕ, suc, ◌+◌, ◌-◌, ◌^◌, ◌≤◌, ◌<◌, ◌≡◌, refl, ◌≢◌, Bool, true, false, not, ◌||◌, List, eqb, ℤ, pos, negsuc, nat_abs, length, Ok, Err}
use Rattle.std.proofs.Common.{sym, ◌∙◌, arith, SFits, of_z, to_z, le-leb, eq-eqb, ne_eqb}
use Rattle.std.proofs.Math.Path.{ap}
use Rattle.std.specs.Int.{w64}
use Rattle.std.proofs.lemmas.Int.{to_z-of_z}
use Rattle.std.proofs.lemmas.Bool.{lt-leb, not-true, not-false}
use Rattle.model.specs.Counts.{total, is_head, and_off, and_on}
use Rattle.model.specs.declared.Counts.{Counts}
use Rattle.model.specs.declared.Refusal.TheVariants.{Layout}
use Rattle.words.specs.Words.{u8_at, u32_at, i64_at}
use Rattle.sheet.specs.Sheet.{record_offset, record_from}
use Rattle.sheet.specs.Operations.{uses_of, last_operation}
use Rattle.sheet.specs.Accepted.{length_of, size_fine, is_operand, may_hold, fields_fine, record_fine, pad_fine, layout_fine, answer}
use Rattle.sheet.specs.Accepted.{operand_base}
use Rattle.sheet.specs.declared.header.Header.{Header}
use Rattle.sheet.specs.declared.operations.Holds.{Holds}
use Rattle.sheet.specs.declared.records.Record.{Record}

-- a test that is false turns the sheet down, one that is true answers the header
pub turned_down_lem : (b : Bool) (h : Header) → false ≡ b → Err Layout ≡ answer b h
turned_down_lem b h e = rw (sym e)

pub taken : (b : Bool) (h : Header) → true ≡ b → Ok h ≡ answer b h
taken b h e = rw (sym e)

-- one alternative after another
pub or_on : (a b : Bool) → a ≡ true → true ≡ (a || b)
or_on a b e = rw e

pub or_off : (a b r : Bool) → a ≡ false → r ≡ b → r ≡ (a || b)
or_off a b r e f = rw e f

-- ---- the size

module _ (s : List ℕ) (h : Header) where
  pub too_many : 2000 < h.records → false ≡ size_fine s h
  unfolding size_fine
  too_many l = and_off _ _ (lt-leb _ _ l)

  pub wrong_length : h.records ≤ 2000 → length s ≢ length_of h → false ≡ size_fine s h
  unfolding size_fine
  wrong_length l n = and_on _ _ _ (le-leb _ _ l) (sym (ne_eqb _ _ n))

  pub right_length : h.records ≤ 2000 → length s ≡ length_of h → true ≡ size_fine s h
  unfolding size_fine
  right_length l e = and_on _ _ _ (le-leb _ _ l) (sym (eq-eqb _ _ e))

-- ---- operands

module _ (c : Counts) (v : ℕ) where
  pub operand_linkage : v ≤ total c → true ≡ is_operand c v
  unfolding is_operand
  operand_linkage l = or_on _ _ (le-leb v (total c) l)

  module _ (above : total c < v) where
    pub operand_between : v < operand_base → false ≡ is_operand c v
    unfolding is_operand
    operand_between l =
        or_off _ _ _ (lt-leb v (total c) above)
        (or_off _ _ _ (ne_eqb v operand_base (λ e. omega arith)) (and_off _ _ (lt-leb 1 (v - operand_base) (omega arith))))

    pub operand_current : v ≡ operand_base → true ≡ is_operand c v
    unfolding is_operand
    operand_current e = or_off _ _ _ (lt-leb v (total c) above) (or_on _ _ (eq-eqb v operand_base e))

    pub operand_first : v ≢ operand_base → is_head c (v - operand_base) ≡ is_operand c v
    unfolding is_operand
    operand_first n = or_off _ _ _ (lt-leb v (total c) above) (or_off _ _ _ (ne_eqb v operand_base n) refl)

-- ---- a record

-- what a field may hold, by what it is known to hold
pub holds_as : (h : Header) (u w : Holds) (v : ℕ) → u ≡ w → may_hold h w v ≡ may_hold h u v
holds_as h u w v e = ap (λ (k : Holds). may_hold h k v) (sym e)

-- an answer that stands for a test, and its negation's
pub shown : (r b : Bool) → r ≡ b → not r ≡ false → b ≡ true
shown r b e f = sym e ∙ not-false r f

pub refuted : (r b : Bool) → r ≡ b → not r ≡ true → b ≡ false
refuted r b e f = sym e ∙ not-true r f

-- a signed word is 0 where its bits are
pub word_zero : (t : ℤ) → SFits w64 t → eqb (of_z w64 t) 0 ≡ eqb (nat_abs t) 0
word_zero (pos n) f = refl
word_zero (negsuc n) f = ne_eqb (2 ^ 64 - suc n) 0 (λ e. high n f.sfits e) ∙ sym (ne_eqb (suc n) 0 (λ e. omega arith))
  where
    high : (n : ℕ) → n < 2 ^ 63 → 2 ^ 64 - suc n ≡ 0 → ⊥
    high n l e = omega arith

pub t_kept : (u : Bool) (t : ℤ) → SFits w64 t → (u || eqb (nat_abs (to_z w64 (of_z w64 t))) 0) ≡ (u || eqb (nat_abs t) 0)
t_kept u t f = ap (λ (z : ℤ). u || eqb (nat_abs z) 0) (to_z-of_z w64 t f)

-- a record by its fields
pub record_is : (s : List ℕ) (i n o k x y : ℕ) (t : ℤ)
    → n ≡ u32_at s i → o ≡ u8_at s (i + 4) → k ≡ u8_at s (i + 5) → x ≡ u32_at s (i + 8) → y ≡ u32_at s (i + 12) → t ≡ i64_at s (i + 16)
    → record { next = n; operation = o; clause = k; x = x; y = y; t = t } ≡ record_from s i
unfolding record_from
record_is s i n o k x y t a b d e f g = rw (a, b, d, e, f, g)

module _ (h : Header) (q : Record) where
  pub next_above : h.records < q.next → false ≡ record_fine h q
  unfolding record_fine
  next_above l = and_off _ _ (lt-leb _ _ l)

  module _ (n : q.next ≤ h.records) where
    pub operation_none : q.operation < 1 → false ≡ record_fine h q
    unfolding record_fine
    operation_none l = and_on _ _ _ (le-leb _ _ n) (and_off _ _ (lt-leb _ _ l))

    module _ (o : 1 ≤ q.operation) where
      pub operation_above : last_operation < q.operation → false ≡ record_fine h q
      unfolding record_fine
      operation_above l = and_on _ _ _ (le-leb _ _ n) (and_on _ _ _ (le-leb _ _ o) (and_off _ _ (lt-leb _ _ l)))

      module _ (p : q.operation ≤ last_operation) where
        pub clause_above : 6 < q.clause → false ≡ record_fine h q
        unfolding record_fine
        clause_above l =
            and_on _ _ _ (le-leb _ _ n) (and_on _ _ _ (le-leb _ _ o) (and_on _ _ _ (le-leb _ _ p) (and_off _ _ (lt-leb _ _ l))))

        pub fields_left : (v : Bool) → q.clause ≤ 6 → v ≡ fields_fine h (uses_of q.operation q.clause) q → v ≡ record_fine h q
        unfolding record_fine
        fields_left v l e =
            and_on _ _ _ (le-leb _ _ n) (and_on _ _ _ (le-leb _ _ o) (and_on _ _ _ (le-leb _ _ p) (and_on _ _ _ (le-leb _ _ l) e)))

-- the record whose bytes begin at i
module _ (s : List ℕ) (h : Header) (r i : ℕ) (at : i ≡ record_offset h.counts.processes r) where
  pub pad_used : pad_fine s i ≡ false → false ≡ layout_fine s h r
  unfolding layout_fine
  pad_used e = and_off _ _ (ap (pad_fine s) (sym at) ∙ e)

  pub record_left : (v : Bool) (q : Record) → pad_fine s i ≡ true → q ≡ record_from s i → v ≡ record_fine h q → v ≡ layout_fine s h r
  unfolding layout_fine
  record_left v q e f g = and_on _ _ _ (ap (pad_fine s) (sym at) ∙ e) (g ∙ ap (record_fine h) (f ∙ ap (record_from s) at))
