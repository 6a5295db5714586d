-- Where an inserted notice stands: behind all of its time, in front of all from its time on.
use Rattle.std.specs.Prelude.{ℕ, suc, ◌≤◌, ◌≡◌, refl, List, [], ◌∷◌}
use Rattle.std.proofs.Common.{sym, inl, inr, ⊎_elim, arith, eq-eqb, ne_eqb, le-leb, lt-ltb, le-ltb}
use Rattle.std.proofs.lemmas.Bool.{lt-leb}
use Rattle.ring_laws.specs.Lists.{In, decide, below}
use Rattle.axis_laws.specs.Notices.{Notice, whos, due_of, From, InOrder}
use Rattle.axis_laws.specs.NoticeOps.{behind_all, front_all}
use Rattle.axis_laws.specs.Orders.{Before}
use Rattle.axis_laws.specs.NoticeLaws.{Ins, ins_new, ins_from, from_less, from_due}

-- ---- putting in

module _ (n : Notice) where
  pub last_ins : (ns : List Notice) → Ins n ns (behind_all n ns)
  last_ins [] = Ins.here
  last_ins (k ∷ ks) =
      below n.due k.due
      (λ l. rw (lt-leb k.due n.due l) Ins.here)
      (λ l. rw (le-leb k.due n.due l) (Ins.there (last_ins ks)))

  pub front_ins : (ns : List Notice) → Ins n ns (front_all n ns)
  front_ins [] = Ins.here
  front_ins (k ∷ ks) =
      below k.due n.due
      (λ l. rw (lt-ltb k.due n.due l) (Ins.there (front_ins ks)))
      (λ l. rw (le-ltb k.due n.due l) Ins.here)

  pub last_sorted : (ns : List Notice) → InOrder ns → InOrder (behind_all n ns)
  last_sorted [] o = (tt, tt)
  last_sorted (k ∷ ks) o =
      below n.due k.due
      (λ l. rw (lt-leb k.due n.due l) ((omega arith, from_less n.due k.due ks (omega arith) o.0), o))
      (λ l. rw (le-leb k.due n.due l) (ins_from n k.due (last_ins ks) l o.0, last_sorted ks o.1))

  pub front_sorted : (ns : List Notice) → InOrder ns → InOrder (front_all n ns)
  front_sorted [] o = (tt, tt)
  front_sorted (k ∷ ks) o =
      below k.due n.due
      (λ l. rw (lt-ltb k.due n.due l) (ins_from n k.due (front_ins ks) (omega arith) o.0, front_sorted ks o.1))
      (λ l. rw (le-ltb k.due n.due l) ((l, from_less n.due k.due ks l o.0), o))

  -- behind all of equal or smaller time
  pub last_stands : (ns : List Notice) (a : ℕ) → InOrder ns → In a (whos ns) → due_of a ns ≤ n.due
      → Before a n.who (whos (behind_all n ns))
  last_stands [] a o i l = absurd i
  last_stands (k ∷ ks) a o i l =
      below n.due k.due
      (λ late. absurd (decide k.who a
      (λ e. omega (arith, rw (eq-eqb k.who a e) at l))
      (λ d. omega (arith, rw (ne_eqb k.who a d) at l, from_due k.due a ks o.0 (⊎_elim (λ e. absurd (d (sym e))) (λ j. j) i)))))
      (λ soon. rw (le-leb k.due n.due soon) (decide k.who a
      (λ e. inl (e, ins_new n (last_ins ks)))
      (λ d. inr (last_stands ks a o.1 (⊎_elim (λ e. absurd (d (sym e))) (λ j. j) i) (rw (ne_eqb k.who a d) at l)))))

  -- in front of all from its time on
  pub front_stands : (ns : List Notice) (a : ℕ) → In a (whos ns) → n.due ≤ due_of a ns → Before n.who a (whos (front_all n ns))
  front_stands [] a i l = absurd i
  front_stands (k ∷ ks) a i l =
      below k.due n.due
      (λ soon. rw (lt-ltb k.due n.due soon) (decide k.who a
      (λ e. absurd (omega (arith, rw (eq-eqb k.who a e) at l)))
      (λ d. inr (front_stands ks a (⊎_elim (λ e. absurd (d (sym e))) (λ j. j) i) (rw (ne_eqb k.who a d) at l)))))
      (λ late. rw (le-ltb k.due n.due late) (inl (refl, i)))

-- ---- at the front already

pub behind_first : (n : Notice) (l : List Notice) → From (suc n.due) l → behind_all n l ≡ n ∷ l
behind_first n [] f = refl
behind_first n (k ∷ ks) f = rw (lt-leb k.due n.due f.0)

pub front_first : (n : Notice) (t : ℕ) (l : List Notice) → n.due ≤ t → From t l → front_all n l ≡ n ∷ l
front_first n t [] b f = refl
front_first n t (k ∷ ks) b f = rw (le-ltb k.due n.due (omega (arith, f.0)))
