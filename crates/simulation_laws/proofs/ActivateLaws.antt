-- ACTIVATE, as published, leaves what the plain machine's activate and reactivate leave, with the same refusals.
use Prim.Native.Nat.{ℕ, max, ◌≤◌, ◌<◌}
use Rattle.std.specs.Prelude.{◌≡◌, refl, ◌≢◌, ◌⊎◌, Bool, not, ◌&&◌, ◌||◌, List, [], ◌∷◌, ℤ, ◌+ℤ◌, length, if◌then◌else◌}
use Rattle.std.proofs.Math.Path.{sym, subst}
use Rattle.std.proofs.Common.{ap, ◌∙◌, ⊎_elim, not-suc-le-zero}
use Rattle.std.proofs.Math.Logic.{inr}
use Rattle.std.proofs.Math.Bool.{true, false, and-false, or-true}
use native.Mathlib.Omega.{arith}
use Rattle.std.proofs.Math.Dec.{eqb, leb}
use Rattle.std.proofs.Math.IntN.{pos, +ℤ_comm}
use borrow.Author.Tests.{eq-eqb, ne_eqb, eqb-true, le-leb, lt-leb}
use Rattle.ring_laws.specs.Lists.{clash, In, decide, below, test}
use Rattle.ring_laws.specs.Tabulate.{has}
use Rattle.model.specs.declared.Counts.{Counts}
use Rattle.model.specs.Counts.{limit}
use Rattle.axis_laws.specs.Notices.{Notice, whos, due_of, From, InOrder, Within}
use Rattle.model_laws.specs.Tables.{Lists}
use Rattle.model_laws.specs.Result.{need, done, Result}
use Rattle.model_laws.specs.Now.{first, time}
use Rattle.axis_laws.specs.NoticeOps.{behind_all, front_all, dropped, has_notice}
use Rattle.axis_laws.specs.NoticeLaws.{Ins, ins_in, ins_new, drop_none}
use Rattle.axis_laws.specs.PutLaws.{last_ins, front_ins, front_first}
use Rattle.axis_laws.specs.BesideLaws.{before_ins, after_ins, before_none, after_none}
use Rattle.simulation_laws.specs.NoticesKept.{some_in}
use Rattle.simulation_laws.specs.PlacedLaws.{due_beside}
use Rattle.simulation_laws.specs.StepPromise.{clause_in}
use Rattle.simulation_laws.specs.AgreeEnds.{has_in, has_none}
use Rattle.simulation_laws.specs.Plain.{with_notices, up_to, leaving, above, is_delay, due_for, placed, no_effect, timed_need, named}
use Rattle.simulation_laws.specs.Plain.{replaced, timed}
use Rattle.simulation_laws.specs.Published.{clause_code, clause_prior, ev_out, new_notice, direct, at_least, at_time}
use Rattle.simulation_laws.specs.Published.{before_or_after, by_code, ACTIVATE}
use Rattle.simulation_laws.proofs.RankLaws.{rank_behind, rank_front}
use Rattle.simulation_laws.specs.ActivateLaws.{error_is, at_least_max, within_due, within_limit}

-- ---- X is a process that is not terminated, and ev says whether it has a notice

module _ (x : ℕ) (l : Lists) (n : Notice) (ns : List Notice) (e : l.notices ≡ n ∷ ns) (o : InOrder l.notices) (w : Within l.notices)
    (z : In 0 (whos l.notices) → ⊥) (some : x ≢ 0) (ev : Bool) (held : ev ≡ has_notice x l.notices) where
  now_is : time l ≡ n.due
  now_is = ap (λ (k : List Notice). (first k).due) e

  all_from : From (time l) l.notices
  all_from = rw (now_is, e) (omega arith, (rw e at o).0)

  now_in : time l ≤ limit
  now_in = rw now_is (rw e at w).0

  -- ---- EV is out, and the new notice has X's name

  stay : (ms : List Notice) → 0 < length ms → done (with_notices l (named x ms)) ≡ leaving l (named x ms)
  stay [] s = absurd (not-suc-le-zero s)
  stay (k ∷ ks) s = refl

  ev_out_lem : (ms : List Notice) → 0 < length ms → (In x (whos ms) → (x ≡ 0) ⊎ In x (whos l.notices))
      → ev_out ev x l ms ≡ leaving l (named x (dropped x ms))
  ev_out_lem ms s f = go ev refl
    where
      go : (b : Bool) → ev ≡ b → ev_out b x l ms ≡ leaving l (named x (dropped x ms))
      go true q = error_is l (named x (dropped x ms))
      go false q =
          stay ms s
          ∙ ap (λ (k : List Notice). leaving l (named x k))
          (sym (drop_none x ms (λ i. ⊎_elim some (has_none x l.notices (sym held ∙ q)) (f i))))

  put : (u : ℕ) (ms : List Notice) → Ins (new_notice u) l.notices ms → ev_out ev x l ms ≡ leaving l (named x (dropped x ms))
  put u ms i = ev_out_lem ms (some_in 0 ms (ins_new (new_notice u) i)) (ins_in (new_notice u) x i)

  -- ---- direct, at

  direct_is : direct ev x l ≡ leaving l (named x (dropped x (front_all (new_notice (time l)) l.notices)))
  direct_is =
      ap (ev_out ev x l) (sym (front_first (new_notice (time l)) (time l) l.notices (omega arith) all_from))
      ∙ put (time l) (front_all (new_notice (time l)) l.notices) (front_ins (new_notice (time l)) l.notices)

  at_behind : (u : ℕ) → at_time ev x u false l ≡ up_to u (leaving l (named x (dropped x (behind_all (new_notice u) l.notices))))
  at_behind u =
      rw (and-false (eqb u (time l)))
      (ap (λ (k : List Notice). up_to u (ev_out ev x l k)) (rank_behind (new_notice u) l.notices o)
      ∙ ap (up_to u) (put u (behind_all (new_notice u) l.notices) (last_ins (new_notice u) l.notices)))

  at_front : (u : ℕ) → at_time ev x u true l ≡ up_to u (leaving l (named x (dropped x (front_all (new_notice u) l.notices))))
  at_front u =
      test (eqb u (time l))
      (λ c.
      rw c
      (direct_is ∙ sym (within_limit (time l) _ now_in)
      ∙ ap (λ (v : ℕ). up_to v (leaving l (named x (dropped x (front_all (new_notice v) l.notices))))) (sym (eqb-true u (time l) c))))
      (λ c.
      rw c
      (ap (λ (k : List Notice). up_to u (ev_out ev x l k)) (rank_front (new_notice u) l.notices o)
      ∙ ap (up_to u) (put u (front_all (new_notice u) l.notices) (front_ins (new_notice u) l.notices))))

  -- ---- each clause

  -- document 01's, without its test of the operands
  abbrev Plainly : ℕ → ℕ → ℤ → Result Lists
  Plainly k y t =
      if has_notice x l.notices && (leb 5 k && eqb x y) then done l
      else up_to (due_for k y t l) (leaving l (replaced k x y (due_for k y t l) l.notices))

  moves : (k y : ℕ) → (leb 5 k && eqb x y) ≡ false → has_notice x l.notices && (leb 5 k && eqb x y) ≡ false
  moves k y q = rw q (and-false (has_notice x l.notices))

  due_is : (k y : ℕ) (t : ℤ) → k ≢ 0 → k < 5 → at_least (time l) (if is_delay k then t +ℤ pos (time l) else t) ≡ due_for k y t l
  unfolding due_for
  due_is k y t a b =
      let s : (if is_delay k then t +ℤ pos (time l) else t) ≡ (if is_delay k then pos (time l) +ℤ t else t) =
      test (is_delay k) (λ q. rw q (+ℤ_comm t (pos (time l)))) (λ q. rw q refl) in
      at_least_max (if is_delay k then t +ℤ pos (time l) else t) (time l)
      ∙ (rw (ne_eqb k 0 a, lt-leb 5 k b) (ap (λ (v : ℤ). max (time l) (above v)) s))

  -- at and delay are one label with another T
  timed_code : (k y : ℕ) (t : ℤ) → k ≢ 0 → k < 5
      → by_code ev x (clause_code k) t y (clause_prior k) l ≡ at_time ev x (at_least (time l) (if is_delay k then t +ℤ pos (time l) else t))
      (clause_prior k) l
  unfolding clause_code
  timed_code k y t a b =
      test (is_delay k)
      (λ q. rw (ne_eqb k 0 a, q))
      (λ q. rw (ne_eqb k 0 a, q, ne_eqb k 5 (λ c. omega arith), ne_eqb k 6 (λ c. omega arith)))

  early : (k y : ℕ) (t : ℤ) → k ≢ 0 → k < 5 → by_code ev x (clause_code k) t y (clause_prior k) l ≡ Plainly k y t
  unfolding placed
  early k y t a b =
      let m : has_notice x l.notices && (leb 5 k && eqb x y) ≡ false = moves k y (rw (lt-leb 5 k b)) in
      timed_code k y t a b
      ∙ (rw (m, ne_eqb k 5 (λ q. omega arith), ne_eqb k 6 (λ q. omega arith), due_is k y t a b)
      (decide k 1 (λ q. rw q (at_behind _))
      (λ n1. decide k 2 (λ q. rw q (at_behind _))
      (λ n2. decide k 3 (λ q. rw q (at_front _))
      (λ n3. let q : k ≡ 4 = omega arith in rw q (at_front _))))))

  zeroth : (k y : ℕ) (t : ℤ) → k ≡ 0 → by_code ev x (clause_code k) t y (clause_prior k) l ≡ Plainly k y t
  unfolding clause_code placed due_for
  zeroth k y t q = rw (q, moves 0 y refl) (direct_is ∙ sym (within_limit (time l) _ now_in))

  beside_code : (k y : ℕ) (t : ℤ) → 5 ≤ k → k ≤ 6 → by_code ev x (clause_code k) t y (clause_prior k) l ≡ before_or_after ev x (eqb k 5) y l
  unfolding clause_code
  beside_code k y t h h6 =
      decide k 5 (λ q. rw q refl) (λ n5. let q : k ≡ 6 = omega arith in rw q refl)

  late : (k y : ℕ) (t : ℤ) → 5 ≤ k → k ≤ 6 → by_code ev x (clause_code k) t y (clause_prior k) l ≡ Plainly k y t
  unfolding placed
  late k y t h h6 =
      let k5 : leb 5 k ≡ true = le-leb 5 k h in
      let fits = within_limit (due_of y l.notices) (leaving l (replaced k x y (due_of y l.notices) l.notices))
      (within_due y l.notices w) in
      beside_code k y t h h6
      ∙ test (has_notice y l.notices)
      (λ hy.
      let y0 : eqb y 0 ≡ false = ne_eqb y 0 (λ q. z (subst (λ (v : ℕ). In v (whos l.notices)) q (has_in y l.notices hy))) in
      decide x y
      (λ q.
      let hx : has_notice x l.notices ≡ true = subst (λ (v : ℕ). has_notice v l.notices ≡ true) (sym q) hy in
      rw (y0, hy, hx, k5, eq-eqb x y q))
      (λ d.
      rw (moves k y (rw (k5, ne_eqb x y d)), y0, hy, ne_eqb x y d, due_beside k y t l h, fits)
      (decide k 5
      (λ q. rw q (put _ _ (before_ins y (new_notice (due_of y l.notices)) l.notices (has_in y l.notices hy))))
      (λ n5. let q : k ≡ 6 = omega arith in
      rw q (put _ _ (after_ins y (new_notice (due_of y l.notices)) l.notices (has_in y l.notices hy)))))))
      (λ hy.
      let none : In y (whos l.notices) → ⊥ = has_none y l.notices hy in
      let m : has_notice x l.notices && (leb 5 k && eqb x y) ≡ false =
      decide x y
      (λ q. let hx : has_notice x l.notices ≡ false = subst (λ (v : ℕ). has_notice v l.notices ≡ false) (sym q) hy in rw hx)
      (λ d. moves k y (rw (k5, ne_eqb x y d))) in
      rw (m, hy, or-true (eqb y 0), due_beside k y t l h, fits)
      (ev_out_lem l.notices (rw e (omega arith)) (λ i. inr i)
      ∙ decide k 5
      (λ q. rw (q, before_none y (new_notice (due_of y l.notices)) l.notices none))
      (λ n5. let q : k ≡ 6 = omega arith in rw (q, after_none y (new_notice (due_of y l.notices)) l.notices none))))

  pub by_code_lem : (k y : ℕ) (t : ℤ) → k ≤ 6 → by_code ev x (clause_code k) t y (clause_prior k) l ≡ Plainly k y t
  by_code_lem k y t h = decide k 0 (zeroth k y t) (λ n0. below k 5 (λ b. early k y t n0 b) (λ b. late k y t b h))

-- ---- ACTIVATE

pub activate_is : (c : Counts) (again : Bool) (k x y : ℕ) (t : ℤ) (l : Lists) (n : Notice) (ns : List Notice) → l.notices ≡ n ∷ ns
    → InOrder l.notices
    → Within l.notices → (In 0 (whos l.notices) → ⊥)
    → need (timed_need c k x y) (ACTIVATE again x (clause_code k) t y (clause_prior k) l) ≡ timed c again k x y t l
unfolding ACTIVATE timed no_effect
activate_is c again k x y t l n ns e o w z =
    test (timed_need c k x y)
    (λ g. rw g (test (eqb x 0 || has x l.terminated)
    (λ v. rw v refl)
    (λ v. rw v (go again (some v) (clause_in c k x y g)))))
    (λ g. rw g refl)
  where
    some : (eqb x 0 || has x l.terminated) ≡ false → x ≢ 0
    some v q = clash (sym (rw (eq-eqb x 0 q) at v))

    go : (b : Bool) → x ≢ 0 → k ≤ 6
        → (if b then by_code (has_notice x l.notices) x (clause_code k) t y (clause_prior k) l
        else if has_notice x l.notices then done l
        else by_code false x (clause_code k) t y (clause_prior k) l)
        ≡ (if has_notice x l.notices && (not b || (leb 5 k && eqb x y)) then done l
        else up_to (due_for k y t l) (leaving l (replaced k x y (due_for k y t l) l.notices)))
    go true s h = by_code_lem x l n ns e o w z s (has_notice x l.notices) refl k y t h
    go false s h =
        test (has_notice x l.notices)
        (λ v. rw v refl)
        (λ v. rw v (by_code_lem x l n ns e o w z s false (sym v) k y t h ∙ (rw v refl)))
