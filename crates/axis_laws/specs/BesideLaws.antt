-- Where a notice stands that is put right before or right after another.
use Rattle.std.specs.Prelude.{ℕ, ◌≡◌, refl, ◌≢◌, List, [], ◌∷◌}
use Rattle.std.proofs.Common.{sym, ap, inl, inr, ⊎_elim, arith, eq-eqb, ne_eqb}
use Rattle.ring_laws.specs.Lists.{In, decide}
use Rattle.ring_laws.specs.Distinct.{Dist}
use Rattle.axis_laws.specs.Notices.{Notice, whos, due_of, InOrder}
use Rattle.axis_laws.specs.NoticeOps.{before, after}
use Rattle.axis_laws.specs.Orders.{Before, Next}
use Rattle.axis_laws.specs.NoticeLaws.{Ins, ins_new, ins_from, from_less, from_due}

-- ---- next to y

before_in : (a b : ℕ) (l : List ℕ) → Before a b l → In b l
before_in a b [] k = k
before_in a b (z ∷ l) (inl e) = inr e.1
before_in a b (z ∷ l) (inr k) = inr (before_in a b l k)

next_cons : (a b z : ℕ) (l : List ℕ) → Next a b l → Next a b (z ∷ l)
next_cons a b z [] k = absurd k
next_cons a b z (w ∷ []) k = absurd k
next_cons a b z (w ∷ v ∷ l) k = inr k

tail_in : (y : ℕ) (k : Notice) (ks : List Notice) → k.who ≢ y → In y (whos (k ∷ ks)) → In y (whos ks)
tail_in y k ks d (inl e) = absurd (d (sym e))
tail_in y k ks d (inr i) = i

module _ (y : ℕ) (n : Notice) where
  pub before_ins : (ns : List Notice) → In y (whos ns) → Ins n ns (before y n ns)
  before_ins [] i = absurd i
  before_ins (k ∷ ks) i =
      decide k.who y
      (λ e. rw (eq-eqb k.who y e) Ins.here)
      (λ d. rw (ne_eqb k.who y d) (Ins.there (before_ins ks (tail_in y k ks d i))))

  pub after_ins : (ns : List Notice) → In y (whos ns) → Ins n ns (after y n ns)
  after_ins [] i = absurd i
  after_ins (k ∷ ks) i =
      decide k.who y
      (λ e. rw (eq-eqb k.who y e) (Ins.there Ins.here))
      (λ d. rw (ne_eqb k.who y d) (Ins.there (after_ins ks (tail_in y k ks d i))))

  pub before_next : (ns : List Notice) → In y (whos ns) → Next n.who y (whos (before y n ns))
  before_next [] i = absurd i
  before_next (k ∷ ks) i =
      decide k.who y
      (λ e. rw (eq-eqb k.who y e) (inl (refl, e)))
      (λ d. rw (ne_eqb k.who y d) (next_cons n.who y k.who (whos (before y n ks)) (before_next ks (tail_in y k ks d i))))

  pub after_next : (ns : List Notice) → In y (whos ns) → Next y n.who (whos (after y n ns))
  after_next [] i = absurd i
  after_next (k ∷ ks) i =
      decide k.who y
      (λ e. rw (eq-eqb k.who y e) (inl (e, refl)))
      (λ d. rw (ne_eqb k.who y d) (next_cons y n.who k.who (whos (after y n ks)) (after_next ks (tail_in y k ks d i))))

  pub before_own : (ns : List Notice) → In y (whos ns) → Before n.who y (whos (before y n ns))
  before_own [] i = absurd i
  before_own (k ∷ ks) i =
      decide k.who y
      (λ e. rw (eq-eqb k.who y e) (inl (refl, inl (sym e))))
      (λ d. rw (ne_eqb k.who y d) (inr (before_own ks (tail_in y k ks d i))))

  pub after_own : (ns : List Notice) → In y (whos ns) → Before y n.who (whos (after y n ns))
  after_own [] i = absurd i
  after_own (k ∷ ks) i =
      decide k.who y
      (λ e. rw (eq-eqb k.who y e) (inl (e, inl refl)))
      (λ d. rw (ne_eqb k.who y d) (inr (after_own ks (tail_in y k ks d i))))

  -- a third that stood before y
  pub before_pre : (ns : List Notice) (a : ℕ) → Dist (whos ns) → Before a y (whos ns) → Before a n.who (whos (before y n ns))
  before_pre [] a d b = absurd b
  before_pre (k ∷ ks) a d b =
      decide k.who y
      (λ e. absurd (d.0 (rw (← e) at (⊎_elim (λ q. q.1) (λ j. before_in a y (whos ks) j) b))))
      (λ f. rw (ne_eqb k.who y f) (⊎_elim
      (λ q. inl (q.0, ins_new n (before_ins ks q.1)))
      (λ j. inr (before_pre ks a d.1 j)) b))

  pub after_pre : (ns : List Notice) (a : ℕ) → Dist (whos ns) → Before a y (whos ns) → Before a n.who (whos (after y n ns))
  after_pre [] a d b = absurd b
  after_pre (k ∷ ks) a d b =
      decide k.who y
      (λ e. absurd (d.0 (rw (← e) at (⊎_elim (λ q. q.1) (λ j. before_in a y (whos ks) j) b))))
      (λ f. rw (ne_eqb k.who y f) (⊎_elim
      (λ q. inl (q.0, ins_new n (after_ins ks q.1)))
      (λ j. inr (after_pre ks a d.1 j)) b))

  -- a third that stood behind y
  pub before_post : (ns : List Notice) (a : ℕ) → Before y a (whos ns) → Before n.who a (whos (before y n ns))
  before_post [] a b = absurd b
  before_post (k ∷ ks) a b =
      decide k.who y
      (λ e. rw (eq-eqb k.who y e) (inl (refl, before_in y a (whos (k ∷ ks)) b)))
      (λ f. rw (ne_eqb k.who y f) (⊎_elim (λ q. absurd (f q.0)) (λ j. inr (before_post ks a j)) b))

  pub after_post : (ns : List Notice) (a : ℕ) → Before y a (whos ns) → Before n.who a (whos (after y n ns))
  after_post [] a b = absurd b
  after_post (k ∷ ks) a b =
      decide k.who y
      (λ e. rw (eq-eqb k.who y e) (inr (inl (refl, ⊎_elim (λ q. q.1) (λ j. before_in y a (whos ks) j) b))))
      (λ f. rw (ne_eqb k.who y f) (⊎_elim (λ q. absurd (f q.0)) (λ j. inr (after_post ks a j)) b))

  pub before_sorted : (ns : List Notice) → In y (whos ns) → n.due ≡ due_of y ns → InOrder ns → InOrder (before y n ns)
  before_sorted [] i u o = o
  before_sorted (k ∷ ks) i u o =
      decide k.who y
      (λ e.
      let v : n.due ≡ k.due = rw (eq-eqb k.who y e) at u in
      rw (eq-eqb k.who y e) ((omega arith, from_less n.due k.due ks (omega arith) o.0), o))
      (λ d.
      let v : n.due ≡ due_of y ks = rw (ne_eqb k.who y d) at u in
      rw (ne_eqb k.who y d) (
        ins_from n k.due (before_ins ks (tail_in y k ks d i)) (omega (arith, from_due k.due y ks o.0 (tail_in y k ks d i))) o.0,
        before_sorted ks (tail_in y k ks d i) v o.1,
      ))

  pub after_sorted : (ns : List Notice) → In y (whos ns) → n.due ≡ due_of y ns → InOrder ns → InOrder (after y n ns)
  after_sorted [] i u o = o
  after_sorted (k ∷ ks) i u o =
      decide k.who y
      (λ e.
      let v : n.due ≡ k.due = rw (eq-eqb k.who y e) at u in
      rw (eq-eqb k.who y e) ((omega arith, o.0), (from_less n.due k.due ks (omega arith) o.0, o.1)))
      (λ d.
      let v : n.due ≡ due_of y ks = rw (ne_eqb k.who y d) at u in
      rw (ne_eqb k.who y d) (
        ins_from n k.due (after_ins ks (tail_in y k ks d i)) (omega (arith, from_due k.due y ks o.0 (tail_in y k ks d i))) o.0,
        after_sorted ks (tail_in y k ks d i) v o.1,
      ))

  -- y has no notice: the new one is left out
  pub before_none : (ns : List Notice) → (In y (whos ns) → ⊥) → before y n ns ≡ ns
  before_none [] f = refl
  before_none (k ∷ ks) f = rw (ne_eqb k.who y (λ e. f (inl (sym e)))) (ap (λ (l : List Notice). k ∷ l) (before_none ks (λ j. f (inr j))))

  pub after_none : (ns : List Notice) → (In y (whos ns) → ⊥) → after y n ns ≡ ns
  after_none [] f = refl
  after_none (k ∷ ks) f = rw (ne_eqb k.who y (λ e. f (inl (sym e)))) (ap (λ (l : List Notice). k ∷ l) (after_none ks (λ j. f (inr j))))
