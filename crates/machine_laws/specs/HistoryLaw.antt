-- The order of ties in a whole run follows from the law of each step.
use Prim.Native.Nat.{ℕ, zero, suc, ◌-◌, ◌≤◌, ◌<◌}
use Rattle.std.specs.Prelude.{◌≡◌, ◌≢◌, true, List}
use Rattle.std.proofs.Math.Path.{refl, ap}
use Rattle.std.proofs.Common.{sym, ◌∙◌, subst, inl, inr}
use Rattle.std.proofs.Math.Bool.{false}
use native.Mathlib.Omega.{arith}
use borrow.Author.Tests.{eq-eqb, ne_eqb, eqb-true}
use Rattle.ring_laws.specs.Lists.{In, test, clash}
use Rattle.model.specs.Counts.{main}
use Rattle.axis_laws.specs.Notices.{whos, due_of}
use Rattle.axis_laws.specs.Orders.{Before}
use Rattle.sheet.specs.Sheet.{Sheet}
use Rattle.machine.specs.Machine.{fresh}
use Rattle.machine.specs.Run.{uncut, state}
use Rattle.machine.specs.History.{How, at_first, behind, in_front, right_before, right_after, Placing, nothing, places, placing, Scheduled}
use Rattle.machine.specs.History.{now_or, scheduled, notices_at, StandsTo, Placed, PlacedBy, is_placed, Stepwise, Tie, Ties}

which_of : (x : ℕ) (p : Placing) → is_placed x p ≡ true → (h : How) × (p ≡ places x h)
which_of x nothing e = clash e
which_of x (places q h) e = (h, ap (λ (z : ℕ). places z h) (eqb-true q x e))

-- how two notices stand outlives a step that keeps their order
stands_on : (h : How) (E E' : Type 0) (a b : ℕ) (old now new : List ℕ) → (E' → E) → (Before a b now → Before a b new)
    → (Before b a now → Before b a new)
    → StandsTo h E a b old now → StandsTo h E' a b old new
stands_on at_first E E' a b old now new e f g s = s
stands_on behind E E' a b old now new e f g s = λ q. f (s (e q))
stands_on in_front E E' a b old now new e f g s = λ q. g (s (e q))
stands_on (right_before y) E E' a b old now new e f g s = (λ q. g (s.0 q), λ q. f (s.1 q), λ q. g (s.2 q))
stands_on (right_after y) E E' a b old now new e f g s = (λ q. f (s.0 q), λ q. f (s.1 q), λ q. g (s.2 q))

module _ (s : Sheet) where
  abbrev next : ℕ → Placing
  next n = placing s (state s n)

  -- ---- the history, step by step

  by_now : (n x : ℕ) (h : How) → next n ≡ places x h → scheduled s (suc n) x ≡ record { by = suc n; how = h }
  unfolding scheduled
  by_now n x h e = rw (e, eq-eqb x x refl)

  as_before : (n x : ℕ) → is_placed x (next n) ≡ false → scheduled s (suc n) x ≡ scheduled s n x
  unfolding scheduled
  as_before n x e = go (next n) e
    where
      go : (p : Placing) → is_placed x p ≡ false → now_or x p (suc n) (scheduled s n x) ≡ scheduled s n x
      go nothing e = refl
      go (places q h) e = rw e

  -- a notice placed now was placed by the last step; every other by an earlier one
  is_now : (n x : ℕ) → is_placed x (next n) ≡ true → (scheduled s (suc n) x).by ≡ suc n
  is_now n x e = let w = which_of x (next n) e in ap (λ (r : Scheduled). r.by) (by_now n x w.0 w.1)

  at_most : (n x : ℕ) → (scheduled s n x).by ≤ n
  unfolding scheduled
  at_most zero x = omega arith
  at_most (suc n) x =
      test (is_placed x (next n))
      (λ e. omega (arith, is_now n x e))
      (λ e. omega (arith, ap (λ (r : Scheduled). r.by) (as_before n x e), at_most n x))

  only_main : (a : ℕ) → In a (whos (notices_at s 0)) → a ≡ main s.counts
  unfolding uncut fresh
  only_main a (inl e) = e
  only_main a (inr k) = absurd k

  module _ (steps : (n : ℕ) → Stepwise (next n) (notices_at s n) (notices_at s (suc n))) where
    apart : (n a b : ℕ) → In a (whos (notices_at s n)) → In b (whos (notices_at s n)) → (scheduled s n a).by ≡ (scheduled s n b).by → a ≡ b
    apart zero a b i j e = only_main a i ∙ sym (only_main b j)
    apart (suc n) a b i j e =
        test (is_placed a (next n))
        (λ pa. test (is_placed b (next n))
        (λ pb. one (next n) pa pb)
        (λ qb. absurd (late n (scheduled s n b).by (at_most n b)
        (sym (is_now n a pa) ∙ e ∙ ap (λ (r : Scheduled). r.by) (as_before n b qb)))))
        (λ qa. test (is_placed b (next n))
        (λ pb. absurd (late n (scheduled s n a).by (at_most n a)
        (sym (is_now n b pb) ∙ sym e ∙ ap (λ (r : Scheduled). r.by) (as_before n a qa))))
        (λ qb. apart n a b ((steps n).others.there a qa i) ((steps n).others.there b qb j)
        (sym (ap (λ (r : Scheduled). r.by) (as_before n a qa)) ∙ e ∙ ap (λ (r : Scheduled). r.by) (as_before n b qb))))
      where
        one : (p : Placing) → is_placed a p ≡ true → is_placed b p ≡ true → a ≡ b
        one nothing u v = clash u
        one (places q h) u v = sym (eqb-true q a u) ∙ eqb-true q b v

        late : (n k : ℕ) → k ≤ n → suc n ≡ k → ⊥
        late n k l q = omega arith

    tie : (n a b : ℕ) → In a (whos (notices_at s n)) → In b (whos (notices_at s n)) → (scheduled s n a).by < (scheduled s n b).by
        → Tie s n a b (scheduled s n b)
    tie zero a b i j l = absurd (none (scheduled s 0 a).by (scheduled s 0 b).by (at_most 0 b) l)
      where
        none : (k r : ℕ) → r ≤ 0 → k < r → ⊥
        none k r u v = omega arith
    tie (suc n) a b i j l =
        test (is_placed b (next n))
        (λ pb. let w = which_of b (next n) pb in subst (Tie s (suc n) a b) (sym (by_now n b w.0 w.1)) (newest w.0 w.1))
        (λ qb. let eb = as_before n b qb in
        test (is_placed a (next n))
        (λ pa. absurd (no (is_now n a pa) (ap (λ (r : Scheduled). r.by) eb) (at_most n b)))
        (λ qa. let ea = as_before n a qa in
        subst (Tie s (suc n) a b) (sym eb)
        (older qa qb (tie n a b ((steps n).others.there a qa i) ((steps n).others.there b qb j)
        (omega (arith, ap (λ (r : Scheduled). r.by) ea, ap (λ (r : Scheduled). r.by) eb))))))
      where
        no : (scheduled s (suc n) a).by ≡ suc n → (scheduled s (suc n) b).by ≡ (scheduled s n b).by → (scheduled s n b).by ≤ n → ⊥
        no u v w = omega arith

        newest : (h : How) → next n ≡ places b h → Tie s (suc n) a b (record { by = suc n; how = h })
        newest h e =
            let other : a ≢ b = λ q. omega (arith, ap (λ (x : ℕ). (scheduled s (suc n) x).by) q) in
            let p : Placed h b (notices_at s n) (notices_at s (suc n)) =
            subst (λ (p : Placing). PlacedBy p (notices_at s n) (notices_at s (suc n))) e (steps n).placed in
            let off : is_placed a (next n) ≡ false = ap (is_placed a) e ∙ ne_eqb b a (λ q. other (sym q)) in
            let q : suc n - 1 ≡ n = omega arith in
            record {
              placed_so = rw q e;
              there = rw q ((steps n).others.there a off i);
              y_there = rw q p.y_there;
              stands = rw q (p.stands a other i);
            }

        older : is_placed a (next n) ≡ false → is_placed b (next n) ≡ false → Tie s n a b (scheduled s n b)
            → Tie s (suc n) a b (scheduled s n b)
        older qa qb t =
            let o = (steps n).others in
            record {
              placed_so = t.placed_so;
              there = t.there;
              y_there = t.y_there;
              stands =
                  stands_on (scheduled s n b).how
                  (due_of a (notices_at s n) ≡ due_of b (notices_at s n))
                  (due_of a (notices_at s (suc n)) ≡ due_of b (notices_at s (suc n)))
                  a b (whos (notices_at s ((scheduled s n b).by - 1))) (whos (notices_at s n)) (whos (notices_at s (suc n)))
                  (λ e. sym (o.due a qa i) ∙ e ∙ o.due b qb j)
                  (o.order a b qa qb i j)
                  (o.order b a qb qa j i)
                  t.stands;
            }

    -- the later scheduled of two notices stands as it was placed
    pub ties_of : (n : ℕ) → Ties s n
    ties_of n = record { apart = apart n; tie = tie n; next = steps n }
