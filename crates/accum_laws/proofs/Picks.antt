-- What a pick of an element promises, and what is then done to the list of structs.
use Rattle.std.specs.Prelude.{ℕ, ◌-◌, ◌≡◌, true, false, List, length, set, ℤ, Result, Ok, Err}
use Rattle.std.proofs.Math.Path.{refl, sym, ap}
use Rattle.std.proofs.Common.{◌∙◌, subst, arith}
use Rattle.ring_laws.specs.Lists.{clash}
use Rattle.model.specs.declared.Counts.{Counts}
use Rattle.model.specs.declared.Refusal.{Refusal}
use Rattle.model.specs.Answers.{Verdict}
use Rattle.model_laws.specs.Tables.{Tables}
use Rattle.model_laws.specs.Now.{half, time_of}
use Rattle.accum_laws.specs.declared.Accumulator.{Accumulator}
use Rattle.accum_laws.specs.declared.Kept.{Kept}
use Rattle.accum_laws.specs.declared.Picked.{Picked}
use Rattle.accum_laws.specs.Update.{updated_of}
use Rattle.accum_laws.specs.Triples.{numbered, list_after, updated_at}
use Rattle.accum_laws.specs.Calls.{accum_one, count_fine, number_fine, list_judged, listing, accum_at, picking, pick_of}
use Rattle.accum_laws.specs.Promise.{list_passed, number_in, time_in}
use Rattle.accum_laws.specs.Picks.{PickFound, kept_listed}

found_by : (c : Counts) (t : Tables) (l : List Accumulator) (k : ℕ) → list_judged (count_fine (length l)) (number_fine (length l) k) c t ≡ (Ok tt)
    → PickFound c t l k (record { at = k - 1; time = time_of (half c) t.axis t.times })
unfolding accum_at updated_at accum_one
found_by c t l k e =
    let p = list_passed _ _ c t e in
    let m = number_in (length l) k p.number_is in
    record {
      inside = omega (arith, m);
      time_within = time_in c t (time_of (half c) t.axis t.times) p.tables_are refl;
      after = λ d r q.
          ap (λ (s : Kept). record { list = set l (k - 1) s.value; answer = s.answer }) q
          ∙ kept_listed (updated_of (numbered k l) (time_of (half c) t.axis t.times) d) k l
          ∙ sym (ap (λ (w : Verdict). listing w l (list_after (updated_of (numbered k l) (time_of (half c) t.axis t.times) d) k l)) e);
    }

module _ (c : Counts) (t : Tables) (l : List Accumulator) (k : ℕ) (p : Result Picked Refusal) (e : p ≡ pick_of c t (length l) k) where
  picked_as : (v : Verdict) → list_judged (count_fine (length l)) (number_fine (length l) k) c t ≡ v
      → p ≡ picking v (k - 1) (time_of (half c) t.axis t.times)
  unfolding pick_of
  picked_as v q = e ∙ ap (λ (w : Verdict). picking w (k - 1) (time_of (half c) t.axis t.times)) q

  pub pick_found : (f : Picked) → p ≡ Ok f → PickFound c t l k f
  pick_found f is = go (list_judged (count_fine (length l)) (number_fine (length l) k) c t) refl
    where
      go : (v : Verdict) → list_judged (count_fine (length l)) (number_fine (length l) k) c t ≡ v → PickFound c t l k f
      go (Ok tt) q =
          let s = picked_as (Ok tt) q in
          let w : f ≡ record { at = k - 1; time = time_of (half c) t.axis t.times } = cc in subst (PickFound c t l k) (sym w) (found_by c t l k q)
      go (Err r) q = let s = picked_as (Err r) q in let z : false ≡ true = cc in clash z

  pub pick_not : (d : ℤ) (r : Refusal) → p ≡ Err r → record { list = l; answer = Err r } ≡ accum_at c t k d l
  unfolding accum_at
  pick_not d r is = go (list_judged (count_fine (length l)) (number_fine (length l) k) c t) refl
    where
      go : (v : Verdict) → list_judged (count_fine (length l)) (number_fine (length l) k) c t ≡ v
          → record { list = l; answer = Err r } ≡ listing (list_judged (count_fine (length l)) (number_fine (length l) k) c t) l
          (updated_at k (time_of (half c) t.axis t.times) d l)
      go (Ok tt) q = let s = picked_as (Ok tt) q in let z : false ≡ true = cc in clash z
      go (Err u) q =
          let s = picked_as (Err u) q in
          let w : r ≡ u = cc in
          ap (λ (x : Refusal). record { list = l; answer = Err x }) w
          ∙ sym (ap (λ (v : Verdict). listing v l (updated_at k (time_of (half c) t.axis t.times) d l)) q)
