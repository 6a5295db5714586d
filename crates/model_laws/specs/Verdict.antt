-- The verdict on counts and tables: fine, 1 or 2, each exactly where the papers say.
use Rattle.std.specs.Prelude.{ℕ, ◌+◌, ◌*◌, ◌≡◌, ◌⊎◌, true, false, ◌&&◌, eqb, length, Ok, Err}
use Rattle.std.proofs.Common.{inl, inr, eq-eqb, eqb-true}
use Rattle.ring_laws.specs.Lists.{clash}
use Rattle.model.specs.declared.Counts.{Counts}
use Rattle.model.specs.declared.Refusal.TheVariants.{Size, Malformed}
use Rattle.model.specs.Refusals.{refusal_number}
use Rattle.model.specs.Answers.{Verdict}
use Rattle.model.specs.Counts.{in_limits, total, both}
use Rattle.model_laws.specs.Tables.{Tables, Lengths, Sized, WellFormed}
use Rattle.model_laws.specs.Judge.{lengths_fine, tables_fine, judged}

-- the papers' number of a verdict; 0 is accepted
abbrev pub verdict_code : Verdict → ℕ
verdict_code (Ok tt) = 0
verdict_code (Err r) = refusal_number r

-- ---- lengths

pub lengths_mean : (c : Counts) (t : Tables) → lengths_fine c t ≡ true → Lengths c t
unfolding lengths_fine
lengths_mean c t e =
    let p = both (eqb (length t.links) (2 * (total c + 1))) _ e in
    let q = both (eqb (length t.axis) (2 * (c.processes + 2))) _ p.1 in
    let r = both (eqb (length t.times) (c.processes + 1)) _ q.1 in
    record {
      links_is = eqb-true _ _ p.0;
      axis_is = eqb-true _ _ q.0;
      times_is = eqb-true _ _ r.0;
      marks_is = eqb-true _ _ r.1;
    }

pub mean_lengths : (c : Counts) (t : Tables) → Lengths c t → lengths_fine c t ≡ true
unfolding lengths_fine
mean_lengths c t s =
    rw (
      eq-eqb (length t.links) (2 * (total c + 1)) s.links_is,
      eq-eqb (length t.axis) (2 * (c.processes + 2)) s.axis_is,
      eq-eqb (length t.times) (c.processes + 1) s.times_is,
    ) (eq-eqb (length t.marks) (c.processes + 1) s.marks_is)

-- ---- the clauses

module _ (c : Counts) (t : Tables) where
  pub judged_size : (in_limits c && lengths_fine c t) ≡ false → judged c t ≡ Err Size
  unfolding judged
  judged_size e = rw e

  module _ (e : (in_limits c && lengths_fine c t) ≡ true) where
    pub judged_formed : tables_fine c t ≡ false → judged c t ≡ Err Malformed
    unfolding judged
    judged_formed f = rw (e, f)

    pub judged_good : tables_fine c t ≡ true → judged c t ≡ (Ok tt)
    unfolding judged
    judged_good f = rw (e, f)

-- ---- the theorem, in both directions

pub record Says (c : Counts) (t : Tables) (v : Verdict) : Type 0 where
  pub fine : Sized c t → WellFormed c t → v ≡ (Ok tt)
  pub one : (Sized c t → ⊥) → v ≡ Err Size
  pub two : Sized c t → (WellFormed c t → ⊥) → v ≡ Err Malformed
  pub fine_only : v ≡ (Ok tt) → Sized c t × WellFormed c t
  pub one_only : v ≡ Err Size → Sized c t → ⊥
  pub two_only : v ≡ Err Malformed → Sized c t × (WellFormed c t → ⊥)
  -- and there is no other verdict
  pub each : (v ≡ (Ok tt)) ⊎ ((v ≡ Err Size) ⊎ (v ≡ Err Malformed))

module _ (c : Counts) (t : Tables) (v : Verdict) where
  pub says_fine : Sized c t → WellFormed c t → v ≡ (Ok tt) → Says c t v
  says_fine s w e =
      record {
        fine = λ s w. e;
        one = λ n. absurd (n s);
        two = λ s n. absurd (n w);
        fine_only = λ f. (s, w);
        one_only = λ f. let z : false ≡ true = cc in clash z;
        two_only = λ f. let z : false ≡ true = cc in clash z;
        each = inl e;
      }

  pub says_one : (Sized c t → ⊥) → v ≡ Err Size → Says c t v
  says_one n e =
      record {
        fine = λ s w. absurd (n s);
        one = λ n. e;
        two = λ s w. absurd (n s);
        fine_only = λ f. let z : false ≡ true = cc in clash z;
        one_only = λ f. n;
        two_only = λ f. let z : false ≡ true = cc in clash z;
        each = inr (inl e);
      }

  pub says_two : Sized c t → (WellFormed c t → ⊥) → v ≡ Err Malformed → Says c t v
  says_two s n e =
      record {
        fine = λ s w. absurd (n w);
        one = λ n. absurd (n s);
        two = λ s w. e;
        fine_only = λ f. let z : false ≡ true = cc in clash z;
        one_only = λ f. let z : false ≡ true = cc in clash z;
        two_only = λ f. (s, n);
        each = inr (inr e);
      }

-- the judge's number: 0 for well-formed tables, 1 for a count or a length, 2 for other tables
pub record Numbers (c : Counts) (t : Tables) (n : ℕ) : Type 0 where
  pub zero : Sized c t → WellFormed c t → n ≡ 0
  pub one : (Sized c t → ⊥) → n ≡ 1
  pub two : Sized c t → (WellFormed c t → ⊥) → n ≡ 2
