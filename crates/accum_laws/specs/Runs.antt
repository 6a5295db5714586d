-- What holds of lists of accumulators: the two forms of a list agree, and in a run that starts with zeros refusal 7 can only come
-- from c + d.
use Rattle.std.specs.Prelude.{ℕ, zero, suc, ◌*◌, ◌≡◌, refl, Bool, true, false, ◌&&◌, List, length, get_or, set, replicate}
use Rattle.std.proofs.Common.{subst, get_or-set_same, get_or-set_other, eq-eqb}
use Rattle.std.proofs.Math.Seq.{set_out}
use Rattle.ring_laws.specs.Lists.{below, decide}
use Rattle.accum_laws.specs.declared.Accumulator.{Accumulator}
use Rattle.accum_laws.specs.Update.{Required}
use Rattle.accum_laws.specs.Keeps.{zero_accumulator, zeros_required}
use Rattle.accum_laws.specs.Triples.{flat, flat_length}
use Rattle.accum_laws.specs.Calls.{count_fine, list_fine}

-- ---- the flat list and the list of structs

and_true : (a : Bool) → (a && true) ≡ a
and_true true = refl
and_true false = refl

pub flat_fine : (l : List Accumulator) → list_fine (length l) (length (flat l)) ≡ count_fine (length l)
unfolding list_fine
flat_fine l = rw (eq-eqb (length (flat l)) (3 * length l) (flat_length l)) (and_true (count_fine (length l)))

-- ---- a run's accumulators

-- each is as required at a time; past the list there are zeros
abbrev pub Each : List Accumulator → ℕ → Type 0
Each l t = (i : ℕ) → Required (get_or l i zero_accumulator) t

zeros_at : (n i : ℕ) → get_or (replicate n zero_accumulator) i zero_accumulator ≡ zero_accumulator
zeros_at zero i = refl
zeros_at (suc n) zero = refl
zeros_at (suc n) (suc i) = zeros_at n i

-- "a fresh run starts with .. zeros"
pub fresh_each : (n t : ℕ) → Each (replicate n zero_accumulator) t
fresh_each n t i = rw (zeros_at n i) (zeros_required t)

pub set_each : (l : List Accumulator) (j : ℕ) (v : Accumulator) (t : ℕ) → Each l t → Required v t → Each (set l j v) t
set_each l j v t a r i =
    decide i j
    (λ e. below i (length l)
    (λ b. subst (λ (n : ℕ). Required (get_or (set l n v) i zero_accumulator) t) e (rw (get_or-set_same l i v zero_accumulator b) r))
    (λ b. subst (λ (n : ℕ). Required (get_or (set l n v) i zero_accumulator) t) e (rw (set_out l i v b) (a i))))
    (λ n. rw (get_or-set_other l j i v zero_accumulator n) (a i))
