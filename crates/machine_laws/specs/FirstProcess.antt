-- Request 2.4 on the machine's lists: what 65,536 + h comes to in cancel, activate and reactivate, and what none means there.
use Rattle.std.specs.Prelude.{ℕ, ◌<◌, ◌≤◌, ◌≡◌, ◌⊎◌, Bool, true, false, ◌||◌, List, [], ◌∷◌, ◌++◌, eqb, ℤ, length}
use Rattle.std.proofs.Math.Path.{refl, sym}
use Rattle.std.proofs.Common.{ap, ◌∙◌, inl, inr, ⊎_elim, ne_eqb}
use native.Mathlib.Omega.{arith}
use Rattle.ring_laws.specs.Lists.{In, test, decide}
use Rattle.model.specs.declared.Counts.{Counts}
use Rattle.model.specs.Counts.{is_process}
use Rattle.axis_laws.specs.Notices.{Notice, whos, due_of, InOrder}
use Rattle.model_laws.specs.Tables.{Lists}
use Rattle.model_laws.specs.Result.{done}
use Rattle.simset_laws.specs.Calls.{or_none}
use Rattle.axis_laws.specs.NoticeOps.{dropped}
use Rattle.axis_laws.specs.NoticeLaws.{drop_none, drop_in}
use Rattle.axis_laws.specs.BesideLaws.{before_none, after_none}
use Rattle.simulation_laws.specs.PlacedLaws.{due_beside}
use Rattle.simulation_laws.specs.Plain.{leaving, timed_need, no_effect, placed, timed, cancel}
use Rattle.simulation_laws.specs.Replace.{timed_drop_first}
use Rattle.simulation_laws.proofs.Replace.{drop_first}
use Rattle.machine.specs.Operands.{first_process}

-- ---- "the first member of head h that is a process, or none"

-- x stands in l and is a process, and no member in front of it is one
pub record Foremost (c : Counts) (l : List ℕ) (x : ℕ) : Type 0 where
  pub front : List ℕ
  pub back : List ℕ
  pub list_is : l ≡ front ++ (x ∷ back)
  pub passed : (y : ℕ) → In y front → is_process c y ≡ false
  pub process : is_process c x ≡ true

module _ (c : Counts) where
  pub first_or_none : (l : List ℕ)
      → Foremost c l (first_process c l) ⊎ ((first_process c l ≡ 0) × ((y : ℕ) → In y l → is_process c y ≡ false))
  first_or_none [] = inr (refl, λ y i. absurd i)
  first_or_none (x ∷ l) =
      test (is_process c x)
      (λ e. rw e (inl (record { front = []; back = l; list_is = refl; passed = λ y i. absurd i; process = e })))
      (λ e. rw e (⊎_elim
      (λ f. inl (record {
        front = x ∷ f.front;
        back = f.back;
        list_is = ap (λ (m : List ℕ). x ∷ m) f.list_is;
        passed = λ y. ⊎_elim (λ q. ap (is_process c) q ∙ e) (f.passed y);
        process = f.process;
      }))
      (λ n. inr (n.0, λ y. ⊎_elim (λ q. ap (is_process c) q ∙ e) (n.1 y)))
      (first_or_none l)))

  -- so it is never of a wrong kind: no run stops with refusal 3 because a link is in front
  pub never_wrong : (l : List ℕ) → or_none (is_process c (first_process c l)) (first_process c l) ≡ true
  never_wrong l =
      ⊎_elim
      (λ f. rw f.process (or_true (eqb (first_process c l) 0)))
      (λ n. rw n.0)
      (first_or_none l)
    where
      or_true : (b : Bool) → (b || true) ≡ true
      or_true true = refl
      or_true false = refl

  -- ---- of none: "for an idle X or none it does nothing"; "No effect if X is none"; "with Y idle or none nothing is scheduled"

  module _ (l : Lists) (named : In 0 (whos l.notices) → ⊥) where
    stays : (ns : List Notice) → l.notices ≡ ns → 0 < length ns → leaving l ns ≡ done l
    stays [] e s = absurd (nothing s)
      where
        nothing : 0 < 0 → ⊥
        nothing s = omega arith
    stays (n ∷ ns) e s = rw (← e)

    pub cancel_none : 0 < length l.notices → cancel c 0 l ≡ done l
    unfolding cancel
    cancel_none s = rw (drop_none 0 l.notices named) (stays l.notices refl s)

    pub activate_none : (again : Bool) (k y : ℕ) (t : ℤ) → timed_need c k 0 y ≡ true → timed c again k 0 y t l ≡ done l
    unfolding timed no_effect
    activate_none again k y t e = rw e

    -- beside none X has no notice then: reactivate drops an earlier one
    pub beside_none : (again : Bool) (k x : ℕ) (t : ℤ) → 5 ≤ k → k ≤ 6 → timed_need c k x 0 ≡ true → no_effect again k x 0 l ≡ false
        → InOrder l.notices → timed c again k x 0 t l ≡ leaving l (dropped x l.notices)
    unfolding timed_drop_first placed
    beside_none again k x t lo hi e f o =
        sym (drop_first c again k x 0 t l o named)
        ∙ rw (e, f, due_beside k 0 t l lo ∙ due_none l.notices named)
        (decide k 5
        (λ q. rw (q, before_none 0 new (dropped x l.notices) gone) refl)
        (λ n. let q : k ≡ 6 = omega arith in rw (q, after_none 0 new (dropped x l.notices) gone) refl))
      where
        new : Notice
        new = record { who = x; due = 0 }

        gone : In 0 (whos (dropped x l.notices)) → ⊥
        gone i = named (drop_in x l.notices 0 i)

        due_none : (ns : List Notice) → (In 0 (whos ns) → ⊥) → due_of 0 ns ≡ 0
        due_none [] g = refl
        due_none (m ∷ ns) g = rw (ne_eqb m.who 0 (λ q. g (inl (sym q)))) (due_none ns (λ i. g (inr i)))
