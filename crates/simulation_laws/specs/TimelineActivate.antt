-- ACTIVATE on tables that spell a list of notices does what activate and reactivate do to it, with the same refusals.
use Rattle.std.specs.Prelude.{ℕ, ◌-◌, ◌≤◌, ◌≡◌, Bool, ◌&&◌, ◌||◌}
use Rattle.std.proofs.Math.Path.{refl}
use Rattle.std.proofs.Common.{arith}
use Rattle.std.proofs.Math.Bool.{true, false, not}
use mathlib.Core.List.{List}
use Rattle.std.proofs.Math.Dec.{eqb}
use borrow.Author.Tests.{eqb-true}
use Rattle.ring_laws.specs.Lists.{In, test}
use Rattle.ring_laws.specs.Tabulate.{bit}
use Rattle.model.specs.declared.Counts.{Counts}
use Rattle.axis_laws.specs.Notices.{Notice, whos, due_of}
use Rattle.axis_laws.specs.NoticeLaws.{Ins}
use Rattle.axis_laws.specs.PutLaws.{last_ins, front_ins}
use Rattle.axis_laws.specs.BesideLaws.{before_ins, after_ins}
use Rattle.axis_laws.specs.Notices.{Process}
use Rattle.simulation_laws.specs.Plain.{placed}
use Rattle.axis_laws.specs.Timeline.{Timeline}
use Rattle.axis_laws.specs.NoticesSpelled.{half, SpellsNotices, notices_behind, notices_front, notices_before, notices_after}
use Rattle.simulation_laws.specs.TimelineSteps.{placed_on}

pub bit_not : (b : Bool) → not (eqb (bit b) 0) ≡ b
bit_not true = refl
bit_not false = refl

pub not_not : (b : Bool) → not (not b) ≡ b
not_not true = refl
not_not false = refl

pub and_tail : (a b d : Bool) → (a ≡ true → b ≡ d) → (a && b) ≡ (a && d)
and_tail true b d f = f refl
and_tail false b d f = refl

-- ---- where the new notice stands, x's old one being gone

pub placed_ins : (k y : ℕ) (n : Notice) (l : List Notice) → (5 ≤ k → In y (whos l)) → Ins n l (placed k y n l)
unfolding placed
placed_ins k y n l on =
    test (eqb k 5) (λ e. rw e (before_ins y n l (on (omega (arith, eqb-true k 5 e))))) (λ e5.
    test (eqb k 6) (λ e. rw (e5, e) (after_ins y n l (on (omega (arith, eqb-true k 6 e))))) (λ e6.
    test (eqb k 1 || eqb k 2) (λ e. rw (e5, e6, e) (last_ins n l)) (λ e. rw (e5, e6, e) (front_ins n l))))

pub placed_notices : (c : Counts) (l : List Notice) (b : Timeline) → SpellsNotices c l b → (k y : ℕ) (n : Notice) → Process c n.who → (In n.who (whos l) → ⊥)
    → (5 ≤ k → In y (whos l)) → (5 ≤ k → n.due ≡ due_of y l) → SpellsNotices c (placed k y n l) (placed_on (half c) k (n.who - c.heads) (y - c.heads) n.due b)
unfolding placed placed_on
placed_notices c l b sp k y n p fresh on due =
    test (eqb k 5)
    (λ e. let h : 5 ≤ k = omega (arith, eqb-true k 5 e) in rw e (notices_before c l b sp n p fresh y (on h) (due h)))
    (λ e5. test (eqb k 6)
    (λ e. let h : 5 ≤ k = omega (arith, eqb-true k 6 e) in rw (e5, e) (notices_after c l b sp n p fresh y (on h) (due h)))
    (λ e6. test (eqb k 1 || eqb k 2)
    (λ e. rw (e5, e6, e) (notices_behind c l b sp n p fresh))
    (λ e. rw (e5, e6, e) (notices_front c l b sp n p fresh))))
