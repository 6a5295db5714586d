-- Activate and reactivate in the tables' order: X's earlier notice is dropped, then the new one is placed. `timed` has the papers' order,
-- in which the new notice is placed while the earlier one still stands. Both leave the same lists.
use Rattle.std.specs.Prelude.{ℕ, ◌≤◌, ◌≡◌, refl, ◌≢◌, Bool, true, false, ◌||◌, List, ℤ}
use Rattle.std.proofs.Common.{sym, ap, arith}
use Rattle.std.proofs.Math.Dec.{eqb}
use borrow.Author.Tests.{eq-eqb, ne_eqb, eqb-false}
use Rattle.ring_laws.specs.Lists.{In, below, test}
use Rattle.model.specs.declared.Counts.{Counts}
use Rattle.axis_laws.specs.Notices.{Notice, whos, InOrder}
use Rattle.model_laws.specs.Tables.{Lists}
use Rattle.axis_laws.specs.NoticeOps.{dropped, has_notice}
use Rattle.axis_laws.specs.NoticeLaws.{drop_in}
use Rattle.axis_laws.specs.BesideLaws.{before_none, after_none}
use Rattle.simulation_laws.specs.PlacedLaws.{not_none, others_y}
use Rattle.simulation_laws.specs.AgreeEnds.{has_none}
use Rattle.simulation_laws.specs.StepPromise.{clause_in}
use Rattle.simulation_laws.specs.Plain.{up_to, leaving, due_for, placed, no_effect, timed_need, replaced, timed}
use Rattle.simulation_laws.specs.Replace.{timed_drop_first, named_dropped, replaced_behind, replaced_front, replaced_before, replaced_after}

-- ---- the law

module _ (k x y u : ℕ) (some : x ≢ 0) (ns : List Notice) (o : InOrder ns) (f : In 0 (whos ns) → ⊥) where
  -- beside a Y without a notice nothing is put in
  left_out : (5 ≤ k) → k ≤ 6 → has_notice y ns ≡ false → replaced k x y u ns ≡ placed k y (record { who = x; due = u }) (dropped x ns)
  unfolding placed
  left_out l m h =
      let none : In y (whos ns) → ⊥ = has_none y ns h in
      let gone : In y (whos (dropped x ns)) → ⊥ = λ i. none (drop_in x ns y i) in
      test (eqb k 5)
      (λ e. rw (e, before_none y (record { who = 0; due = u }) ns none, before_none y (record { who = x; due = u }) (dropped x ns) gone)
      (named_dropped x u some ns f))
      (λ e. rw (
        e,
        eq-eqb k 6 (omega (arith, eqb-false k 5 e)),
        after_none y (record { who = 0; due = u }) ns none,
        after_none y
            (record { who = x; due = u }) (dropped x ns) gone,
      )
      (named_dropped x u some ns f))

  pub replaced_is : k ≤ 6 → (5 ≤ k → has_notice y ns ≡ true → y ≢ x)
      → replaced k x y u ns ≡ placed k y (record { who = x; due = u }) (dropped x ns)
  unfolding placed
  replaced_is m g =
      below 4 k
      (λ l. test (has_notice y ns)
      (λ h. test (eqb k 5)
      (λ e. rw e (replaced_before x u some y (g l h) ns f))
      (λ e. rw (e, eq-eqb k 6 (omega (arith, eqb-false k 5 e))) (replaced_after x u some y (g l h) ns f)))
      (λ h. left_out l m h))
      (λ l. test (eqb k 1 || eqb k 2)
      (λ e. rw (ne_eqb k 5 (λ q. omega arith), ne_eqb k 6 (λ q. omega arith), e) (replaced_behind x u some ns o f))
      (λ e. rw (ne_eqb k 5 (λ q. omega arith), ne_eqb k 6 (λ q. omega arith), e) (replaced_front x u some ns o f)))

-- so both orders leave the same lists, with the same refusals
pub drop_first : (c : Counts) (again : Bool) (k x y : ℕ) (z : ℤ) (l : Lists) → InOrder l.notices → (In 0 (whos l.notices) → ⊥)
    → timed_drop_first c again k x y z l ≡ timed c again k x y z l
unfolding timed timed_drop_first
drop_first c again k x y z l o f =
    test (timed_need c k x y)
    (λ g. rw g (test (no_effect again k x y l)
    (λ q. rw q refl)
    (λ q. rw q (ap (λ (ns : List Notice). up_to (due_for k y z l) (leaving l ns))
    (sym (replaced_is k x y (due_for k y z l) (not_none again k x y l q) l.notices o f (clause_in c k x y g)
    (λ m h. others_y again k x y l m q h)))))))
    (λ g. rw g refl)
