-- Members and distinct lists in the library's words. `In` and `Dist` compute to sums and pairs, which laws take apart; the library's
-- membership is a proposition, which gives no place. They say the same.
use Rattle.std.specs.Prelude.{ℕ}
use Rattle.std.proofs.Math.Logic.Or
use Rattle.std.proofs.Common.{inl, inr}
use mathlib.Core.List.{List, [], ◌∷◌, Mem, Nodup, not-mem-nil, mem-cons_self, mem-cons_of_mem, mem-cast, eq-or-mem_of_mem-cons}
use mathlib.Core.List.{Nodup-nil, Nodup-cons}
use Rattle.ring_laws.specs.Lists.{In, inside}
use Rattle.ring_laws.specs.Distinct.{Dist}

pub in_mem : (x : ℕ) (l : List ℕ) → In x l → Mem x l
in_mem x [] k = absurd k
in_mem x (y ∷ l) (inl e) = mem-cast e mem-cons_self
in_mem x (y ∷ l) (inr k) = mem-cons_of_mem y (in_mem x l k)

not_mem : (x : ℕ) (l : List ℕ) → (In x l → ⊥) → Mem x l → ⊥
not_mem x [] f m = not-mem-nil m
not_mem x (y ∷ l) f m = Or.elim (λ a b. absurd a) (eq-or-mem_of_mem-cons m) (λ e. f (inl e)) (not_mem x l (λ i. f (inr i)))

pub mem_in : (x : ℕ) (l : List ℕ) → Mem x l → In x l
mem_in x l m = inside x l (λ i. i) (λ o. absurd (not_mem x l o m))

pub dist_nodup : (l : List ℕ) → Dist l → Nodup l
dist_nodup [] d = Nodup-nil
dist_nodup (x ∷ l) d = Nodup-cons.1 (λ m. d.0 (mem_in x l m), dist_nodup l d.1)

pub nodup_dist : (l : List ℕ) → Nodup l → Dist l
nodup_dist [] d = tt
nodup_dist (x ∷ l) d = let k = Nodup-cons.0 d in (λ i. k.0 (in_mem x l i), nodup_dist l k.1)
