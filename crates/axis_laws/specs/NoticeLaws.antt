-- What taking out does to a list of notices, and what any insertion keeps.
use Rattle.std.specs.Prelude.{ℕ, ◌≤◌, ◌≡◌, refl, ◌≢◌, ◌⊎◌, List, [], ◌∷◌}
use Rattle.std.proofs.Common.{sym, ap, ◌∙◌, inl, inr, ⊎_elim, arith, eq-eqb, ne_eqb}
use Rattle.ring_laws.specs.Lists.{In, decide}
use Rattle.ring_laws.specs.Distinct.{Dist}
use Rattle.axis_laws.specs.Notices.{Notice, whos, due_of, From, InOrder}
use Rattle.axis_laws.specs.NoticeOps.{dropped}
use Rattle.axis_laws.specs.Orders.{Before}

-- ns' is ns with n put in somewhere
pub data Ins (n : Notice) : List Notice → List Notice → Type 0 where
  here : {ns : List Notice} → Ins n ns (n ∷ ns)
  there : {k : Notice} {ns ns' : List Notice} → Ins n ns ns' → Ins n (k ∷ ns) (k ∷ ns')

module _ (n : Notice) where
  pub ins_new : {ns ns' : List Notice} → Ins n ns ns' → In n.who (whos ns')
  ins_new here = inl refl
  ins_new (there i) = inr (ins_new i)

  pub ins_old : {ns ns' : List Notice} (a : ℕ) → Ins n ns ns' → In a (whos ns) → In a (whos ns')
  ins_old a here k = inr k
  ins_old a (there i) (inl e) = inl e
  ins_old a (there i) (inr k) = inr (ins_old a i k)

  pub ins_in : {ns ns' : List Notice} (a : ℕ) → Ins n ns ns' → In a (whos ns') → (a ≡ n.who) ⊎ In a (whos ns)
  ins_in a here (inl e) = inl e
  ins_in a here (inr k) = inr k
  ins_in a (there i) (inl e) = inr (inl e)
  ins_in a (there i) (inr k) = ⊎_elim (λ e. inl e) (λ j. inr (inr j)) (ins_in a i k)

  pub ins_dist : {ns ns' : List Notice} → Ins n ns ns' → (In n.who (whos ns) → ⊥) → Dist (whos ns) → Dist (whos ns')
  ins_dist here f d = (f, d)
  ins_dist (there {k = k} i) f d =
      (λ j. ⊎_elim (λ e. f (inl (sym e))) (λ g. d.0 g) (ins_in k.who i j), ins_dist i (λ j. f (inr j)) d.1)

  pub ins_back : {ns ns' : List Notice} (a b : ℕ) → Ins n ns ns' → Before a b (whos ns) → Before a b (whos ns')
  ins_back a b here k = inr k
  ins_back a b (there i) (inl e) = inl (e.0, ins_old b i e.1)
  ins_back a b (there i) (inr k) = inr (ins_back a b i k)

  pub ins_due : {ns ns' : List Notice} (a : ℕ) → a ≢ n.who → Ins n ns ns' → due_of a ns' ≡ due_of a ns
  ins_due a na here = rw (ne_eqb n.who a (λ e. na (sym e)))
  ins_due a na (there {k = k} i) =
      decide k.who a
      (λ e. rw (eq-eqb k.who a e))
      (λ d. rw (ne_eqb k.who a d) (ins_due a na i))

  pub ins_own : {ns ns' : List Notice} → Ins n ns ns' → (In n.who (whos ns) → ⊥) → due_of n.who ns' ≡ n.due
  ins_own here f = rw (eq-eqb n.who n.who refl)
  ins_own (there {k = k} i) f = rw (ne_eqb k.who n.who (λ e. f (inl (sym e)))) (ins_own i (λ j. f (inr j)))

-- ---- times

pub from_less : (t u : ℕ) (ns : List Notice) → t ≤ u → From u ns → From t ns
from_less t u [] l f = tt
from_less t u (k ∷ ks) l f = (omega (arith, f.0), from_less t u ks l f.1)

pub from_due : (t a : ℕ) (ns : List Notice) → From t ns → In a (whos ns) → t ≤ due_of a ns
from_due t a [] f i = absurd i
from_due t a (k ∷ ks) f i =
    decide k.who a
    (λ e. rw (eq-eqb k.who a e) f.0)
    (λ d. rw (ne_eqb k.who a d) (from_due t a ks f.1 (⊎_elim (λ e. absurd (d (sym e))) (λ j. j) i)))

pub ins_from : (n : Notice) (t : ℕ) {ns ns' : List Notice} → Ins n ns ns' → t ≤ n.due → From t ns → From t ns'
ins_from n t here l f = (l, f)
ins_from n t (there i) l f = (f.0, ins_from n t i l f.1)

-- ---- taking out

module _ (x : ℕ) where
  pub drop_in : (ns : List Notice) (a : ℕ) → In a (whos (dropped x ns)) → In a (whos ns)
  drop_in [] a k = k
  drop_in (n ∷ ns) a k =
      decide n.who x
      (λ e. inr (drop_in ns a (rw (eq-eqb n.who x e) at k)))
      (λ d. ⊎_elim (λ e. inl e) (λ j. inr (drop_in ns a j)) (rw (ne_eqb n.who x d) at k))

  pub drop_gone : (ns : List Notice) (a : ℕ) → In a (whos (dropped x ns)) → a ≢ x
  drop_gone [] a k = absurd k
  drop_gone (n ∷ ns) a k =
      decide n.who x
      (λ e. drop_gone ns a (rw (eq-eqb n.who x e) at k))
      (λ d. ⊎_elim (λ e f. d (sym e ∙ f)) (λ j. drop_gone ns a j) (rw (ne_eqb n.who x d) at k))

  pub drop_old : (ns : List Notice) (a : ℕ) → a ≢ x → In a (whos ns) → In a (whos (dropped x ns))
  drop_old [] a f k = k
  drop_old (n ∷ ns) a f k =
      decide n.who x
      (λ e. rw (eq-eqb n.who x e) (⊎_elim (λ g. absurd (f (g ∙ e))) (λ j. drop_old ns a f j) k))
      (λ d. rw (ne_eqb n.who x d) (⊎_elim (λ g. inl g) (λ j. inr (drop_old ns a f j)) k))

  pub drop_dist : (ns : List Notice) → Dist (whos ns) → Dist (whos (dropped x ns))
  drop_dist [] d = d
  drop_dist (n ∷ ns) d =
      decide n.who x
      (λ e. rw (eq-eqb n.who x e) (drop_dist ns d.1))
      (λ f. rw (ne_eqb n.who x f) (λ j. d.0 (drop_in ns n.who j), drop_dist ns d.1))

  pub drop_from : (t : ℕ) (ns : List Notice) → From t ns → From t (dropped x ns)
  drop_from t [] f = f
  drop_from t (n ∷ ns) f =
      decide n.who x
      (λ e. rw (eq-eqb n.who x e) (drop_from t ns f.1))
      (λ d. rw (ne_eqb n.who x d) (f.0, drop_from t ns f.1))

  pub drop_sorted : (ns : List Notice) → InOrder ns → InOrder (dropped x ns)
  drop_sorted [] o = o
  drop_sorted (n ∷ ns) o =
      decide n.who x
      (λ e. rw (eq-eqb n.who x e) (drop_sorted ns o.1))
      (λ d. rw (ne_eqb n.who x d) (drop_from n.due ns o.0, drop_sorted ns o.1))

  pub drop_order : (ns : List Notice) (a b : ℕ) → Before a b (whos (dropped x ns)) → Before a b (whos ns)
  drop_order [] a b k = k
  drop_order (n ∷ ns) a b k =
      decide n.who x
      (λ e. inr (drop_order ns a b (rw (eq-eqb n.who x e) at k)))
      (λ d. ⊎_elim (λ e. inl (e.0, drop_in ns b e.1)) (λ j. inr (drop_order ns a b j)) (rw (ne_eqb n.who x d) at k))

  pub drop_back : (ns : List Notice) (a b : ℕ) → a ≢ x → b ≢ x → Before a b (whos ns) → Before a b (whos (dropped x ns))
  drop_back [] a b na nb k = k
  drop_back (n ∷ ns) a b na nb k =
      decide n.who x
      (λ e. rw (eq-eqb n.who x e) (⊎_elim (λ g. absurd (na (sym g.0 ∙ e))) (λ j. drop_back ns a b na nb j) k))
      (λ d. rw (ne_eqb n.who x d) (⊎_elim (λ g. inl (g.0, drop_old ns b nb g.1)) (λ j. inr (drop_back ns a b na nb j)) k))

  pub drop_due : (ns : List Notice) (a : ℕ) → a ≢ x → due_of a (dropped x ns) ≡ due_of a ns
  drop_due [] a f = refl
  drop_due (n ∷ ns) a f =
      decide n.who x
      (λ e. rw (eq-eqb n.who x e, ne_eqb n.who a (λ g. f (sym g ∙ e))) (drop_due ns a f))
      (λ d. rw (ne_eqb n.who x d) (decide n.who a
      (λ e. rw (eq-eqb n.who a e))
      (λ g. rw (ne_eqb n.who a g) (drop_due ns a f))))

  pub drop_none : (ns : List Notice) → (In x (whos ns) → ⊥) → dropped x ns ≡ ns
  drop_none [] f = refl
  drop_none (n ∷ ns) f = rw (ne_eqb n.who x (λ e. f (inl (sym e)))) (ap (λ (l : List Notice). n ∷ l) (drop_none ns (λ j. f (inr j))))

-- the first notice taken out
pub rest_drop : (n : Notice) (ns : List Notice) → Dist (whos (n ∷ ns)) → ns ≡ dropped n.who (n ∷ ns)
rest_drop n ns d = rw (eq-eqb n.who n.who refl) (sym (drop_none n.who ns d.0))
