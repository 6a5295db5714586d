-- What the calls' code promises, by the way it took: each answer from the tests that led to it.
use Rattle.std.specs.Prelude.{ℕ, ◌+◌, ◌*◌, ◌≤◌, ◌<◌, ◌≡◌, refl, Bool, true, false, not, List, eqb, leb, length, get_or, ℤ, Ok, Err}
use Rattle.std.proofs.Math.Path.{sym, ap}
use Rattle.std.proofs.Common.{◌∙◌, arith}
use borrow.Author.Tests.{leb-true, eqb-true, not-true, not-false}
use Rattle.ring_laws.specs.Lists.{test, clash}
use Rattle.model.specs.declared.Counts.{Counts}
use Rattle.model.specs.declared.Refusal.{Refusal}
use Rattle.model.specs.declared.Refusal.TheVariants.{Size, Operand}
use Rattle.model.specs.Counts.{limit, both}
use Rattle.model.specs.declared.answer.Answer.TheVariants.{Done}
use Rattle.model.specs.Answers.{Verdict}
use Rattle.model_laws.specs.Tables.{Tables}
use Rattle.model_laws.specs.Judge.{judged}
use Rattle.model_laws.specs.Ready.{Ready}
use Rattle.model_laws.proofs.Ready.{judged_ready}
use Rattle.model_laws.specs.Now.{first_of, half, time_of}
use Rattle.accum_laws.specs.declared.Accumulator.{Accumulator}
use Rattle.accum_laws.specs.declared.Kept.{Kept}
use Rattle.accum_laws.specs.Update.{Updated, updated_of}
use Rattle.accum_laws.specs.Flat.{Changed, updated_in}
use Rattle.accum_laws.specs.Calls.{kept_of, accum_one, keeping, accum_alone, count_fine, list_fine, number_fine, number_judged, list_judged}
use Rattle.accum_laws.specs.Calls.{changing, accum_listed}

-- ---- one accumulator

module _ (x : Accumulator) (t : ℕ) (d : ℤ) (u : Updated) (e : u ≡ updated_of x t d) where
  pub one_to : (v : Accumulator) → u ≡ Ok v → record { value = v; answer = Ok Done } ≡ accum_one x t d
  unfolding accum_one
  one_to v q = sym (ap (λ (w : Updated). kept_of w x) (sym e ∙ q))

  pub one_not : (q : Refusal) → u ≡ Err q → record { value = x; answer = Err q } ≡ accum_one x t d
  unfolding accum_one
  one_not r q = sym (ap (λ (w : Updated). kept_of w x) (sym e ∙ q))

-- the place of the first notice, and the time there
module _ (c : Counts) (t : Tables) (r : Ready c t) (p f i : ℕ) (e : p ≡ c.processes) (g : f ≡ first_of (p + 2) t.axis) (w : i ≡ f) where
  first : i ≡ first_of (half c) t.axis
  first = w ∙ g ∙ ap (λ (n : ℕ). first_of (n + 2) t.axis) e

  pub first_at_lem : i < length t.times
  first_at_lem = omega (arith, first, r.first_in_lem, r.lengths.times_is)

  pub time_is : (v : ℕ) → v ≡ get_or t.times i 0 → v ≡ time_of (half c) t.axis t.times
  time_is v q = q ∙ ap (λ (n : ℕ). get_or t.times n 0) first

-- the time of a judged model is within the limit
pub time_in : (c : Counts) (t : Tables) (n : ℕ) → judged c t ≡ (Ok tt) → n ≡ time_of (half c) t.axis t.times → n ≤ limit
time_in c t n f e = omega (arith, (judged_ready c t f).times_in (first_of (half c) t.axis))

module _ (c : Counts) (t : Tables) (x : Accumulator) (d : ℤ) (v : Verdict) (e : v ≡ judged c t) where
  pub alone_turned : (r : Refusal) → v ≡ Err r → record { value = x; answer = Err r } ≡ accum_alone c t x d
  unfolding accum_alone
  alone_turned r q = sym (ap (λ (w : Verdict). keeping w x (accum_one x (time_of (half c) t.axis t.times) d)) (sym e ∙ q))

  pub alone_fine : (n : ℕ) (k : Kept) → v ≡ (Ok tt) → n ≡ time_of (half c) t.axis t.times → k ≡ accum_one x n d → k ≡ accum_alone c t x d
  unfolding accum_alone
  alone_fine n k q m p =
      p ∙ ap (λ (j : ℕ). accum_one x j d) m ∙ sym (ap (λ (w : Verdict). keeping w x (accum_one x (time_of (half c) t.axis t.times) d))
      (sym e ∙ q))

-- ---- the list, the tables, the number

module _ (list number : Bool) (c : Counts) (t : Tables) where
  pub list_size : not list ≡ true → Err Size ≡ list_judged list number c t
  unfolding list_judged
  list_size n = rw (not-true list n)

  module _ (n : not list ≡ false) (v : Verdict) (e : v ≡ judged c t) where
    pub list_turned : (r : Refusal) → v ≡ Err r → Err r ≡ list_judged list number c t
    unfolding list_judged
    list_turned r q = rw (not-false list n) (sym (ap (λ (w : Verdict). number_judged w number) (sym e ∙ q)))

    module _ (q : v ≡ (Ok tt)) where
      pub list_number : not number ≡ true → Err Operand ≡ list_judged list number c t
      unfolding list_judged
      list_number m = rw (not-false list n, sym e ∙ q, not-true number m)

      pub list_fine_lem : not number ≡ false → (Ok tt) ≡ list_judged list number c t
      unfolding list_judged
      list_fine_lem m = rw (not-false list n, sym e ∙ q, not-false number m)

pub record ListPassed (list number : Bool) (c : Counts) (t : Tables) : Type 0 where
  pub list_is : list ≡ true
  pub tables_are : judged c t ≡ (Ok tt)
  pub number_is : number ≡ true

number_passed : (v : Verdict) (b : Bool) → number_judged v b ≡ (Ok tt) → (v ≡ (Ok tt)) × (b ≡ true)
number_passed (Ok tt) true e = (refl, refl)
number_passed (Ok tt) false e = let z : false ≡ true = cc in clash z
number_passed (Err r) b e = let z : false ≡ true = cc in clash z

-- fine only where all three are
pub list_passed : (list number : Bool) (c : Counts) (t : Tables) → list_judged list number c t ≡ (Ok tt) → ListPassed list number c t
unfolding list_judged
list_passed list number c t e =
    test list
    (λ l. let p = number_passed (judged c t) number (rw l at e) in record { list_is = l; tables_are = p.0; number_is = p.1 })
    (λ l. let q : Err Size ≡ (Ok tt) = rw l at e in let z : false ≡ true = cc in clash z)

-- ---- a flat list

pub number_in : (n k : ℕ) → number_fine n k ≡ true → (1 ≤ k) × (k ≤ n)
unfolding number_fine
number_in n k e = let p = both (leb 1 k) (leb k n) e in (leb-true 1 k p.0, leb-true k n p.1)

pub words_are : (n words : ℕ) → list_fine n words ≡ true → words ≡ 3 * n
unfolding list_fine
words_are n words e = eqb-true words (3 * n) (both (count_fine n) (eqb words (3 * n)) e).1

module _ (c : Counts) (t : Tables) (n k : ℕ) (l : List ℤ) (list number : Bool) (v : Verdict)
    (a : list ≡ list_fine n (length l)) (b : number ≡ number_fine n k) (e : v ≡ list_judged list number c t) where
  verdict : v ≡ list_judged (list_fine n (length l)) (number_fine n k) c t
  verdict = rw (sym a, sym b) e

  -- what the update asks for
  pub listed_passed : v ≡ (Ok tt) → ListPassed (list_fine n (length l)) (number_fine n k) c t
  listed_passed q = list_passed _ _ c t (sym verdict ∙ q)

  pub listed_in : (m : ℕ) → v ≡ (Ok tt) → m ≡ time_of (half c) t.axis t.times → (1 ≤ k) × (3 * k ≤ length l) × (m ≤ limit)
  listed_in m q h =
      let p = listed_passed q in
      let j = number_in n k p.number_is in
      (j.0, omega (arith, j, words_are n (length l) p.list_is), time_in c t m p.tables_are h)

  pub listed_turned : (d : ℤ) (r : Refusal) → v ≡ Err r → record { words = l; answer = Err r } ≡ accum_listed c t n k d l
  unfolding accum_listed
  listed_turned d r q = sym (ap (λ (w : Verdict). changing w l (updated_in k (time_of (half c) t.axis t.times) d l)) (sym verdict ∙ q))

  pub listed_fine : (d : ℤ) (m : ℕ) (s : Changed) → v ≡ (Ok tt) → m ≡ time_of (half c) t.axis t.times → s ≡ updated_in k m d l
      → s ≡ accum_listed c t n k d l
  unfolding accum_listed
  listed_fine d m s q h p =
      p ∙ ap (λ (j : ℕ). updated_in k j d l) h ∙ sym (ap (λ (w : Verdict). changing w l
      (updated_in k (time_of (half c) t.axis t.times) d l)) (sym verdict ∙ q))
