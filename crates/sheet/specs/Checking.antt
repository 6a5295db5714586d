-- What the parts of the check tell: from the counts to the header, from the header to the sheet.
use Rattle.std.specs.Prelude.{ℕ, ◌≤◌, ◌<◌, ◌≡◌, refl, Bool, ◌&&◌, List, leb, eqb, length, Ok, Err, Result}
use Rattle.std.proofs.Math.Path.{sym, ap}
use Rattle.std.proofs.Common.{◌∙◌}
use Rattle.std.proofs.Math.Bool.{true, false}
use borrow.Author.Tests.{le-leb, lt-leb, eqb-true}
use Rattle.ring_laws.specs.Lists.{test, clash}
use Rattle.model.specs.Counts.{in_limits, made_of, both, made_allowed, allowed_limits}
use Rattle.model.specs.declared.Counts.{Counts}
use Rattle.model.specs.declared.Refusal.{Refusal}
use Rattle.model.specs.declared.Refusal.TheVariants.{Layout}
use Rattle.sheet.specs.Sheet.{counts_of, records_of, header_bytes}
use Rattle.sheet.specs.Accepted.{Checked, header_of, length_of, size_fine, sized, starts_to, records_to, accepted, answer, checked}
use Rattle.sheet.specs.declared.header.Header.{Header}

-- which test an answer shows
pub answer_yes : (b : Bool) (h k : Header) → Ok k ≡ answer b h → (b ≡ true) × (k ≡ h)
answer_yes true h k e = (refl, cc)
answer_yes false h k e = let z : false ≡ true = cc in clash z

pub answer_no : (b : Bool) (h : Header) (q : Refusal) → Err q ≡ answer b h → (b ≡ false) × (q ≡ Layout)
answer_no true h q e = let z : false ≡ true = cc in clash z
answer_no false h q e = (refl, cc)

-- ---- the header

module _ (s : List ℕ) where
  pub too_short : length s < header_bytes → Err Layout ≡ answer (sized s) (header_of s)
  unfolding sized
  too_short l = rw (lt-leb header_bytes (length s) l)

  module _ (long : header_bytes ≤ length s) (m : (Result Counts Refusal)) (is : m ≡ made_of (counts_of s)) where
    pub counts_refused : (q : Refusal) → m ≡ Err q → Err Layout ≡ answer (sized s) (header_of s)
    unfolding sized made_of
    counts_refused q e =
        test (in_limits (counts_of s))
        (λ t. let y : Ok (counts_of s) ≡ Err q = sym (rw t) ∙ (sym is ∙ e) in let z : false ≡ true = cc in clash z)
        (λ t. rw (le-leb header_bytes (length s) long, t))

    pub counts_made : (c : Counts) (R : ℕ) → m ≡ Ok c → R ≡ records_of s
        → answer (size_fine s (record { counts = c; records = R })) (record { counts = c; records = R }) ≡ answer (sized s) (header_of s)
    unfolding sized
    counts_made c R e f =
        let a = made_allowed (counts_of s) c (sym is ∙ e) in
        let k : record { counts = c; records = R } ≡ header_of s = cc in
        ap (λ (h : Header). answer (size_fine s h) h) k
        ∙ rw (le-leb header_bytes (length s) long, allowed_limits (counts_of s) a.1)

-- ---- the sheet

module _ (s : List ℕ) (r : Checked) (from : r ≡ answer (sized s) (header_of s)) where
  pub header_refused : (q : Refusal) → r ≡ Err q → Err q ≡ checked s
  unfolding checked accepted
  header_refused q e = let n = answer_no (sized s) (header_of s) q (sym e ∙ from) in rw (n.0, n.1)

  module _ (h : Header) (is : r ≡ Ok h) where
    yes_sized : (sized s ≡ true) × (h ≡ header_of s)
    yes_sized = answer_yes (sized s) (header_of s) h (sym is ∙ from)

    pub header_length : length s ≡ length_of h
    unfolding sized size_fine
    header_length =
        let b = both (leb header_bytes (length s)) (in_limits (counts_of s) && size_fine s (header_of s)) yes_sized.0 in
        let d = both (in_limits (counts_of s)) (size_fine s (header_of s)) b.1 in
        let f = both (leb (records_of s) 2000) (eqb (length s) (length_of (header_of s))) d.1 in
        eqb-true (length s) (length_of (header_of s)) f.1 ∙ ap length_of (sym yes_sized.1)

    abbrev starts : Header → Bool
    starts k = starts_to s k.records k.counts.processes

    abbrev records : Header → Bool
    records k = records_to s k k.records

    pub starts_break : starts h ≡ false → Err Layout ≡ checked s
    unfolding checked accepted
    starts_break e = rw (yes_sized.0, sym (ap starts yes_sized.1) ∙ e)

    pub records_break : starts h ≡ true → records h ≡ false → Err Layout ≡ checked s
    unfolding checked accepted
    records_break e f = rw (yes_sized.0, sym (ap starts yes_sized.1) ∙ e, sym (ap records yes_sized.1) ∙ f)

    pub all_fine : starts h ≡ true → records h ≡ true → Ok h ≡ checked s
    unfolding checked accepted
    all_fine e f =
        rw (yes_sized.0, sym (ap starts yes_sized.1) ∙ e, sym (ap records yes_sized.1) ∙ f) (ap Ok yes_sized.1)
