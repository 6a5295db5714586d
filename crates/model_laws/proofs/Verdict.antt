-- The verdict on counts and tables: fine, 1 or 2, each exactly where the papers say.
use Rattle.std.specs.Prelude.{◌≡◌, Bool, true, false, not, ◌&&◌, Ok, Err}
use Rattle.std.proofs.Common.{sym, ap, ◌∙◌}
use Rattle.std.proofs.lemmas.Bool.{not-true, not-false}
use Rattle.ring_laws.specs.Lists.{test, clash}
use Rattle.model.specs.declared.Counts.{Counts}
use Rattle.model.specs.declared.Refusal.TheVariants.{Size, Malformed}
use Rattle.model.specs.Counts.{in_limits, both, and_on, limits_allowed, allowed_limits}
use Rattle.model_laws.specs.Tables.{Tables, Sized}
use Rattle.model_laws.specs.Judge.{lengths_fine, tables_fine, judged}
use Rattle.model_laws.proofs.Formed.{tables_sound, tables_complete}
use Rattle.model_laws.specs.Verdict.{verdict_code, lengths_mean, mean_lengths, judged_size, judged_formed, judged_good, Says, says_fine, says_one, says_two, Numbers}

pub sized_mean : (c : Counts) (t : Tables) → in_limits c ≡ true → lengths_fine c t ≡ true → Sized c t
sized_mean c t a b = record { allowed = limits_allowed c a; lengths = lengths_mean c t b }

pub mean_sized : (c : Counts) (t : Tables) → Sized c t → (in_limits c && lengths_fine c t) ≡ true
mean_sized c t s = sym (and_on _ _ _ (allowed_limits c s.allowed) (sym (mean_lengths c t s.lengths)))

pub judged_says : (c : Counts) (t : Tables) → Says c t (judged c t)
judged_says c t =
    test (in_limits c && lengths_fine c t)
    (λ e.
    let b = both (in_limits c) (lengths_fine c t) e in
    let s : Sized c t = sized_mean c t b.0 b.1 in
    test (tables_fine c t)
    (λ f. says_fine c t (judged c t) s (tables_sound c t s.lengths f) (judged_good c t e f))
    (λ f. says_two c t (judged c t) s (λ w. clash (sym f ∙ tables_complete c t w)) (judged_formed c t e f)))
    (λ e. says_one c t (judged c t) (λ s. clash (sym e ∙ mean_sized c t s)) (judged_size c t e))

pub judged_code : (c : Counts) (t : Tables) → Numbers c t (verdict_code (judged c t))
judged_code c t =
    let s = judged_says c t in
    record {
      zero = λ a w. ap verdict_code (s.fine a w);
      one = λ n. ap verdict_code (s.one n);
      two = λ a n. ap verdict_code (s.two a n);
    }

-- ---- the code's answers, from its tests

module _ (c : Counts) (t : Tables) (a : Bool) (ea : a ≡ in_limits c) where
  pub verdict_limits : not a ≡ true → Err Size ≡ judged c t
  verdict_limits n = sym (judged_size c t (rw (sym ea ∙ not-true a n)))

  module _ (na : not a ≡ false) (b : Bool) (eb : b ≡ lengths_fine c t) where
    pub verdict_lengths : not b ≡ true → Err Size ≡ judged c t
    verdict_lengths n = sym (judged_size c t (rw (sym ea ∙ not-false a na, sym eb ∙ not-true b n)))

    pub verdict_sized : not b ≡ false → Sized c t
    verdict_sized n = sized_mean c t (sym ea ∙ not-false a na) (sym eb ∙ not-false b n)

    module _ (nb : not b ≡ false) (g : Bool) (eg : g ≡ tables_fine c t) where
      sized : (in_limits c && lengths_fine c t) ≡ true
      sized = sym (and_on _ _ _ (sym ea ∙ not-false a na) (sym (sym eb ∙ not-false b nb)))

      pub verdict_formed : not g ≡ true → Err Malformed ≡ judged c t
      verdict_formed n = sym (judged_formed c t sized (sym eg ∙ not-true g n))

      pub verdict_fine : not g ≡ false → (Ok tt) ≡ judged c t
      verdict_fine n = sym (judged_good c t sized (sym eg ∙ not-false g n))
