-- What a pick of an element promises, and what is then done to the list of structs.
use Rattle.std.specs.Prelude.{ℕ, ◌-◌, ◌≤◌, ◌<◌, ◌≡◌, Bool, true, false, List, length, get_or, set, ℤ, Ok, Err}
use Rattle.std.proofs.Math.Path.{refl, sym, ap}
use Rattle.std.proofs.Common.{◌∙◌}
use Rattle.std.proofs.lemmas.List.{set-get_or}
use Rattle.model.specs.declared.Counts.{Counts}
use Rattle.model.specs.declared.Refusal.{Refusal}
use Rattle.model.specs.Counts.{limit}
use Rattle.model.specs.Answers.{Verdict}
use Rattle.model_laws.specs.Tables.{Tables}
use Rattle.model_laws.specs.Now.{half, time_of}
use Rattle.accum_laws.specs.declared.Accumulator.{Accumulator}
use Rattle.accum_laws.specs.declared.Kept.{Kept}
use Rattle.accum_laws.specs.declared.Picked.{Picked}
use Rattle.accum_laws.specs.Keeps.{zero_accumulator}
use Rattle.accum_laws.specs.Triples.{numbered, list_after}
use Rattle.accum_laws.specs.Calls.{kept_of, accum_one, count_fine, number_fine, list_judged, accum_at, picking, pick_of}
use Rattle.accum_laws.specs.Promise.{ListPassed, list_passed}
use Rattle.accum_laws.specs.Update.{Updated}

module _ (c : Counts) (t : Tables) (n k : ℕ) (list number : Bool) (v : Verdict)
    (a : list ≡ count_fine n) (b : number ≡ number_fine n k) (e : v ≡ list_judged list number c t) where
  verdict : v ≡ list_judged (count_fine n) (number_fine n k) c t
  verdict = rw (sym a, sym b) e

  pub picked_passed : v ≡ (Ok tt) → ListPassed (count_fine n) (number_fine n k) c t
  picked_passed q = list_passed _ _ c t (sym verdict ∙ q)

  pub pick_turned : (r : Refusal) → v ≡ Err r → Err r ≡ pick_of c t n k
  unfolding pick_of
  pick_turned r q = sym (ap (λ (w : Verdict). picking w (k - 1) (time_of (half c) t.axis t.times)) (sym verdict ∙ q))

  pub pick_fine : (w m : ℕ) → v ≡ (Ok tt) → w ≡ k → m ≡ time_of (half c) t.axis t.times
      → Ok (record { at = w - 1; time = m }) ≡ pick_of c t n k
  unfolding pick_of
  pick_fine w m q f h = rw (sym verdict ∙ q, f, h)

-- what a pick tells that is not refused, and what is then done to the list
pub record PickFound (c : Counts) (t : Tables) (l : List Accumulator) (k : ℕ) (p : Picked) : Type 0 where
  pub inside : p.at < length l
  pub time_within : p.time ≤ limit
  pub after : (d : ℤ) (r : Kept) → r ≡ accum_one (get_or l p.at zero_accumulator) p.time d
      → record { list = set l p.at r.value; answer = r.answer } ≡ accum_at c t k d l

pub kept_listed : (u : Updated) (k : ℕ) (l : List Accumulator)
    → record { list = set l (k - 1) (kept_of u (numbered k l)).value; answer = (kept_of u (numbered k l)).answer } ≡ list_after u k l
kept_listed (Ok v) k l = refl
kept_listed (Err q) k l = ap (λ (m : List Accumulator). record { list = m; answer = Err q }) (set-get_or l (k - 1) zero_accumulator)
