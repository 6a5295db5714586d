-- What holds of lists of accumulators: the two forms of a list agree, and in a run that starts with zeros refusal 7 can only come
-- from c + d.
use Rattle.std.specs.Prelude.{ℕ, ◌-◌, ◌≤◌, ◌<◌, ◌≡◌, refl, Bool, true, false, List, length, get_or, ℤ, nat_abs, ◌+ℤ◌, Ok, Err}
use Rattle.std.proofs.Common.{ap, ◌∙◌}
use Rattle.ring_laws.specs.Lists.{clash}
use Rattle.model.specs.declared.Counts.{Counts}
use Rattle.model.specs.declared.Refusal.{Refusal}
use Rattle.model.specs.declared.Refusal.TheVariants.{Accumulator as NotAsRequired}
use Rattle.model.specs.Answers.{Verdict}
use Rattle.model_laws.specs.Tables.{Tables}
use Rattle.model_laws.specs.Now.{half, time_of}
use Rattle.accum_laws.specs.declared.Accumulator.{Accumulator}
use Rattle.accum_laws.specs.Update.{Updated, updated_of}
use Rattle.accum_laws.specs.Keeps.{zero_accumulator, required_later}
use Rattle.accum_laws.proofs.Keeps.{accepted_required, refused_rate}
use Rattle.accum_laws.specs.Flat.{updated_in}
use Rattle.accum_laws.specs.Triples.{flat, flattened, flat_updated, numbered, list_after, updated_at}
use Rattle.accum_laws.specs.Calls.{count_fine, number_fine, list_judged, changing, listing, accum_listed, accum_at}
-- ---- the flat list and the list of structs
use Rattle.accum_laws.specs.Runs.{flat_fine, Each, set_each}

-- the call on the words of a list is the call on the list
pub listed_flat : (c : Counts) (t : Tables) (k : ℕ) (d : ℤ) (l : List Accumulator)
    → accum_listed c t (length l) k d (flat l) ≡ flattened (accum_at c t k d l)
unfolding accum_listed accum_at
listed_flat c t k d l =
    ap (λ (b : Bool). changing (list_judged b (number_fine (length l) k) c t) (flat l)
    (updated_in k (time_of (half c) t.axis t.times) d (flat l))) (flat_fine l)
    ∙ go (list_judged (count_fine (length l)) (number_fine (length l) k) c t)
  where
    go : (v : Verdict) → changing v (flat l) (updated_in k (time_of (half c) t.axis t.times) d (flat l))
        ≡ flattened (listing v l (updated_at k (time_of (half c) t.axis t.times) d l))
    go (Ok tt) = flat_updated k (time_of (half c) t.axis t.times) d l
    go (Err r) = refl

-- accum at a time that is no earlier keeps all as required
pub each_kept : (k t u : ℕ) (d : ℤ) (l : List Accumulator) → t ≤ u → Each l t → Each (updated_at k u d l).list u
unfolding updated_at
each_kept k t u d l b a = go (updated_of (numbered k l) u d) refl
  where
    later : Each l u
    later i = required_later (get_or l i zero_accumulator) t u b (a i)

    go : (w : Updated) → updated_of (numbered k l) u d ≡ w → Each (list_after w k l).list u
    go (Ok v) e = set_each l (k - 1) v u later (accepted_required (numbered k l) u d v e)
    go (Err q) e = later

-- and refusal 7 then says that c + d would pass
pub each_refused : (k t : ℕ) (d : ℤ) (l : List Accumulator) → Each l t → (updated_at k t d l).answer ≡ Err NotAsRequired
    → 1000000 < nat_abs ((numbered k l).c +ℤ d)
unfolding updated_at
each_refused k t d l a = go (updated_of (numbered k l) t d) refl
  where
    go : (w : Updated) → updated_of (numbered k l) t d ≡ w → (list_after w k l).answer ≡ Err NotAsRequired
        → 1000000 < nat_abs ((numbered k l).c +ℤ d)
    go (Ok v) e q = let z : false ≡ true = cc in clash z
    go (Err r) e q =
        let z : r ≡ NotAsRequired = cc in
        refused_rate (numbered k l) t d (a (k - 1)) (e ∙ ap (λ (w : Refusal). Err w) z)
