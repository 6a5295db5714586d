-- Notices of processes by their numbers, and by their places: a process's place is its number less the heads.
use Rattle.std.specs.Prelude.{ℕ, ◌-◌, ◌<◌, ◌≡◌, refl, List, [], ◌∷◌}
use Rattle.std.proofs.Common.{ap, inl, inr, ⊎_elim, arith, eq-eqb, ne_eqb, le-leb, lt-ltb, le-ltb}
use Rattle.std.proofs.lemmas.Bool.{lt-leb}
use Rattle.ring_laws.specs.Lists.{In, decide, below}
use Rattle.axis_laws.specs.Notices.{Notice, whos, due_of, From, InOrder}
use Rattle.axis_laws.specs.NoticeOps.{behind_all, front_all, before, after, dropped}
use Rattle.axis_laws.specs.Groups.{notice}

abbrev pub lowered : ℕ → List Notice → List Notice
lowered H [] = []
lowered H (n ∷ ns) = notice (n.who - H) n.due ∷ lowered H ns

-- all are processes' or plain links' numbers, not heads'
abbrev pub Over : ℕ → List Notice → Type 0
Over H ns = (x : ℕ) → In x (whos ns) → H < x

-- two numbers over H have one place only where they are one
same_place : (H x y : ℕ) → H < x → H < y → x - H ≡ y - H → x ≡ y
same_place H x y a b e = omega arith

module _ (H : ℕ) where
  pub low_in : (x : ℕ) (ns : List Notice) → In x (whos ns) → In (x - H) (whos (lowered H ns))
  low_in x [] i = i
  low_in x (n ∷ ns) i = ⊎_elim (λ e. inl (ap (λ (j : ℕ). j - H) e)) (λ j. inr (low_in x ns j)) i

  pub in_low : (x : ℕ) (ns : List Notice) → Over H ns → H < x → In (x - H) (whos (lowered H ns)) → In x (whos ns)
  in_low x [] f h i = i
  in_low x (n ∷ ns) f h i =
      ⊎_elim (λ e. inl (same_place H x n.who h (f n.who (inl refl)) e)) (λ j. inr (in_low x ns (λ y k. f y (inr k)) h j)) i

  pub low_due : (x : ℕ) (ns : List Notice) → Over H ns → H < x → due_of (x - H) (lowered H ns) ≡ due_of x ns
  low_due x [] f h = refl
  low_due x (n ∷ ns) f h =
      decide n.who x
      (λ e. rw (eq-eqb n.who x e, eq-eqb (n.who - H) (x - H) (ap (λ (j : ℕ). j - H) e)))
      (λ d. rw (ne_eqb n.who x d, ne_eqb (n.who - H) (x - H) (λ e. d (same_place H n.who x (f n.who (inl refl)) h e)))
      (low_due x ns (λ y k. f y (inr k)) h))

  pub low_dropped : (x : ℕ) (ns : List Notice) → Over H ns → H < x → lowered H (dropped x ns) ≡ dropped (x - H) (lowered H ns)
  low_dropped x [] f h = refl
  low_dropped x (n ∷ ns) f h =
      decide n.who x
      (λ e. rw (eq-eqb n.who x e, eq-eqb (n.who - H) (x - H) (ap (λ (j : ℕ). j - H) e)) (low_dropped x ns (λ y k. f y (inr k)) h))
      (λ d. rw (ne_eqb n.who x d, ne_eqb (n.who - H) (x - H) (λ e. d (same_place H n.who x (f n.who (inl refl)) h e)))
      (ap (λ (l : List Notice). notice (n.who - H) n.due ∷ l) (low_dropped x ns (λ y k. f y (inr k)) h)))

  pub low_behind : (n : Notice) (ns : List Notice) → lowered H (behind_all n ns) ≡ behind_all (notice (n.who - H) n.due) (lowered H ns)
  low_behind n [] = refl
  low_behind n (k ∷ ks) =
      below n.due k.due
      (λ l. rw (lt-leb k.due n.due l))
      (λ l. rw (le-leb k.due n.due l) (ap (λ (r : List Notice). notice (k.who - H) k.due ∷ r) (low_behind n ks)))

  pub low_front : (n : Notice) (ns : List Notice) → lowered H (front_all n ns) ≡ front_all (notice (n.who - H) n.due) (lowered H ns)
  low_front n [] = refl
  low_front n (k ∷ ks) =
      below k.due n.due
      (λ l. rw (lt-ltb k.due n.due l) (ap (λ (r : List Notice). notice (k.who - H) k.due ∷ r) (low_front n ks)))
      (λ l. rw (le-ltb k.due n.due l))

  pub low_before : (y : ℕ) (n : Notice) (ns : List Notice) → Over H ns → H < y
      → lowered H (before y n ns) ≡ before (y - H) (notice (n.who - H) n.due) (lowered H ns)
  low_before y n [] f h = refl
  low_before y n (k ∷ ks) f h =
      decide k.who y
      (λ e. rw (eq-eqb k.who y e, eq-eqb (k.who - H) (y - H) (ap (λ (j : ℕ). j - H) e)))
      (λ d. rw (ne_eqb k.who y d, ne_eqb (k.who - H) (y - H) (λ e. d (same_place H k.who y (f k.who (inl refl)) h e)))
      (ap (λ (r : List Notice). notice (k.who - H) k.due ∷ r) (low_before y n ks (λ z i. f z (inr i)) h)))

  pub low_after : (y : ℕ) (n : Notice) (ns : List Notice) → Over H ns → H < y
      → lowered H (after y n ns) ≡ after (y - H) (notice (n.who - H) n.due) (lowered H ns)
  low_after y n [] f h = refl
  low_after y n (k ∷ ks) f h =
      decide k.who y
      (λ e. rw (eq-eqb k.who y e, eq-eqb (k.who - H) (y - H) (ap (λ (j : ℕ). j - H) e)))
      (λ d. rw (ne_eqb k.who y d, ne_eqb (k.who - H) (y - H) (λ e. d (same_place H k.who y (f k.who (inl refl)) h e)))
      (ap (λ (r : List Notice). notice (k.who - H) k.due ∷ r) (low_after y n ks (λ z i. f z (inr i)) h)))

  -- order is of times alone
  from_low : (t : ℕ) (ns : List Notice) → From t (lowered H ns) → From t ns
  from_low t [] f = tt
  from_low t (n ∷ ns) f = (f.0, from_low t ns f.1)

  pub order_low : (ns : List Notice) → InOrder (lowered H ns) → InOrder ns
  order_low [] o = tt
  order_low (n ∷ ns) o = (from_low n.due ns o.0, order_low ns o.1)

  low_from : (t : ℕ) (ns : List Notice) → From t ns → From t (lowered H ns)
  low_from t [] f = tt
  low_from t (n ∷ ns) f = (f.0, low_from t ns f.1)

  pub low_order : (ns : List Notice) → InOrder ns → InOrder (lowered H ns)
  low_order [] o = tt
  low_order (n ∷ ns) o = (low_from n.due ns o.0, low_order ns o.1)

  -- over H, a list is known by its places
  pub low_one : (ns ks : List Notice) → Over H ns → Over H ks → lowered H ns ≡ lowered H ks → ns ≡ ks
  low_one [] [] f g e = refl
  low_one [] (k ∷ ks) f g e = let z : ◌≡◌ {A = List Notice} [] (notice (k.who - H) k.due ∷ lowered H ks) = e in absurd (differ z)
    where
      differ : ◌≡◌ {A = List Notice} [] (notice (k.who - H) k.due ∷ lowered H ks) → ⊥
      differ z = let w : ◌≡◌ {A = ℕ} 0 1 = cc in omega arith
  low_one (n ∷ ns) [] f g e = absurd (differ e)
    where
      differ : ◌≡◌ {A = List Notice} (notice (n.who - H) n.due ∷ lowered H ns) [] → ⊥
      differ z = let w : ◌≡◌ {A = ℕ} 0 1 = cc in omega arith
  low_one (n ∷ ns) (k ∷ ks) f g e =
      let p : n.who - H ≡ k.who - H = ap (λ (l : List Notice). who l) e in
      let d : n.due ≡ k.due = ap (λ (l : List Notice). due l) e in
      let t : lowered H ns ≡ lowered H ks = ap (λ (l : List Notice). tail l) e in
      let w : n.who ≡ k.who = same_place H n.who k.who (f n.who (inl refl)) (g k.who (inl refl)) p in
      let r = low_one ns ks (λ x i. f x (inr i)) (λ x i. g x (inr i)) t in
      λ i. record { who = w i; due = d i } ∷ r i
    where
      who : List Notice → ℕ
      who [] = 0
      who (n ∷ l) = n.who

      due : List Notice → ℕ
      due [] = 0
      due (n ∷ l) = n.due

      tail : List Notice → List Notice
      tail [] = []
      tail (n ∷ l) = l
