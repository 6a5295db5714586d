-- An effective activate or reactivate keeps the notices in order, and what its X is not: none, terminated, a Y that has a notice.
use Rattle.std.specs.Prelude.{ℕ, ◌≤◌, ◌≡◌, refl, ◌≢◌, Bool, true, false, not, ◌&&◌, ◌||◌, List, eqb, leb, ℤ}
use Rattle.std.proofs.Common.{sym, ◌∙◌, subst, arith, eq-eqb, ne_eqb, eqb-true, le-leb}
use Rattle.ring_laws.specs.Lists.{clash, In, test}
use Rattle.ring_laws.specs.Tabulate.{has, in_has}
use Rattle.axis_laws.specs.Notices.{Notice, whos, due_of, InOrder}
use Rattle.model_laws.specs.Tables.{Lists}
use Rattle.axis_laws.specs.NoticeOps.{has_notice}
use Rattle.simulation_laws.specs.Plain.{due_for, placed, no_effect}
use Rattle.axis_laws.specs.PutLaws.{last_sorted, front_sorted}
use Rattle.axis_laws.specs.BesideLaws.{before_sorted, after_sorted}

pub placed_sorted : (k y : ℕ) (n : Notice) (ns : List Notice) → (5 ≤ k → In y (whos ns) × (n.due ≡ due_of y ns)) → InOrder ns
    → InOrder (placed k y n ns)
unfolding placed
placed_sorted k y n ns f o =
    test (eqb k 5)
    (λ e. rw e (let b = f (omega (arith, eqb-true k 5 e)) in before_sorted y n ns b.0 b.1 o))
    (λ e5. test (eqb k 6)
    (λ e. rw (e5, e) (let b = f (omega (arith, eqb-true k 6 e)) in after_sorted y n ns b.0 b.1 o))
    (λ e6. test (eqb k 1 || eqb k 2)
    (λ e. rw (e5, e6, e) (last_sorted n ns o))
    (λ e. rw (e5, e6, e) (front_sorted n ns o))))

-- clauses 5 and 6 take Y's time
pub due_beside : (k y : ℕ) (z : ℤ) (l : Lists) → 5 ≤ k → due_for k y z l ≡ due_of y l.notices
unfolding due_for
due_beside k y z l h = rw (ne_eqb k 0 (λ e. omega arith), le-leb 5 k h)

or_first : (a b : Bool) → (a || b) ≡ false → a ≡ false
or_first true b e = e
or_first false b e = refl

or_second : (a b : Bool) → (a || b) ≡ false → b ≡ false
or_second true b e = clash (sym e)
or_second false b e = e

-- an effective call is not of a terminated process
pub not_ended : (again : Bool) (k x y : ℕ) (l : Lists) → no_effect again k x y l ≡ false → In x l.terminated → ⊥
unfolding no_effect
not_ended again k x y l e i =
    clash (sym (or_second (eqb x 0) _ (or_first (eqb x 0 || has x l.terminated) _ e)) ∙ in_has x l.terminated i)

-- nor of none
pub not_none : (again : Bool) (k x y : ℕ) (l : Lists) → no_effect again k x y l ≡ false → x ≢ 0
unfolding no_effect
not_none again k x y l e q =
    clash (sym (or_first (eqb x 0) _ (or_first (eqb x 0 || has x l.terminated) _ e)) ∙ eq-eqb x 0 q)

-- its X is not its Y, where that has a notice
pub others_y : (again : Bool) (k x y : ℕ) (l : Lists) → 5 ≤ k → no_effect again k x y l ≡ false → has_notice y l.notices ≡ true → y ≢ x
unfolding no_effect
others_y again k x y l k5 f h q =
    let r : has_notice x l.notices && (not again || (leb 5 k && eqb x y)) ≡ false = or_second (eqb x 0 || has x l.terminated) _ f in
    let hx : has_notice x l.notices ≡ true = subst (λ (z : ℕ). has_notice z l.notices ≡ true) q h in
    clash (sym (rw (hx, le-leb 5 k k5, eq-eqb x y (sym q)) at r) ∙ or_true again)
  where
    or_true : (b : Bool) → (not b || true) ≡ true
    or_true true = refl
    or_true false = refl
