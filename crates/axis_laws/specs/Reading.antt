-- Events of the axis with their times, read as notices, and marks read as terminated processes; and back.
use Rattle.std.specs.Prelude.{ℕ, zero, suc, ◌+◌, ◌-◌, ◌<◌, ◌≤◌, ◌≡◌, refl, ◌⊎◌, List, [], ◌∷◌, eqb, length, get_or, if◌then◌else◌}
use Rattle.std.proofs.Common.{sym, ap, ap₂, ◌∙◌, inl, inr, ⊎_elim, arith, eq-eqb, ne_eqb}
use Rattle.ring_laws.specs.Lists.{In, decide, test}
use Rattle.ring_laws.specs.Distinct.{Dist}
use Rattle.model.specs.declared.Counts.{Counts}
use Rattle.model.specs.Counts.{limit}
use Rattle.axis_laws.specs.Notices.{Notice, whos, places, due_of, From, InOrder, Within}
use Rattle.ring_laws.specs.Tabulate.{has, bit, has_in, in_has}

-- the times of these places never fall
abbrev pub NeverFall : List ℕ → List ℕ → Type 0
NeverFall times [] = Unit {0}
NeverFall times (z ∷ l) = ((y : ℕ) → In y l → get_or times z 0 ≤ get_or times y 0) × NeverFall times l

-- ---- from events to notices

abbrev pub notices_of : ℕ → List ℕ → List ℕ → List Notice
notices_of H times [] = []
notices_of H times (y ∷ l) = record { who = H + y; due = get_or times y 0 } ∷ notices_of H times l

module _ (c : Counts) (times : List ℕ) where
  pub places_of : (l : List ℕ) → places c (notices_of c.heads times l) ≡ l
  places_of [] = refl
  places_of (y ∷ l) = ap₂ (λ (x : ℕ) (r : List ℕ). x ∷ r) (omega arith) (places_of l)

  pub length_of_lem : (l : List ℕ) → length (notices_of c.heads times l) ≡ length l
  length_of_lem [] = refl
  length_of_lem (y ∷ l) = ap suc (length_of_lem l)

  pub due_in_lem : (l : List ℕ) (y : ℕ) → In y l → due_of (c.heads + y) (notices_of c.heads times l) ≡ get_or times y 0
  due_in_lem [] y k = absurd k
  due_in_lem (z ∷ l) y k =
      decide z y
      (λ e. rw (eq-eqb (c.heads + z) (c.heads + y) (ap (λ (j : ℕ). c.heads + j) e)) (ap (λ (j : ℕ). get_or times j 0) e))
      (λ n. rw (ne_eqb (c.heads + z) (c.heads + y) (λ e. n (omega arith))) (⊎_elim (λ e. absurd (n (sym e))) (λ i. due_in_lem l y i) k))

  pub due_out : (l : List ℕ) (y : ℕ) → (In y l → ⊥) → due_of (c.heads + y) (notices_of c.heads times l) ≡ 0
  due_out [] y out = refl
  due_out (z ∷ l) y out =
      rw (ne_eqb (c.heads + z) (c.heads + y) (λ e. out (inl (omega arith)))) (due_out l y (λ i. out (inr i)))

  from_of : (u : ℕ) (l : List ℕ) → ((y : ℕ) → In y l → u ≤ get_or times y 0) → From u (notices_of c.heads times l)
  from_of u [] f = tt
  from_of u (y ∷ l) f = (f y (inl refl), from_of u l (λ z i. f z (inr i)))

  pub order_of : (l : List ℕ) → NeverFall times l → InOrder (notices_of c.heads times l)
  order_of [] o = tt
  order_of (y ∷ l) o = (from_of (get_or times y 0) l o.0, order_of l o.1)

  pub within_of : (l : List ℕ) → ((y : ℕ) → In y l → get_or times y 0 ≤ limit) → Within (notices_of c.heads times l)
  within_of [] f = tt
  within_of (y ∷ l) f = (f y (inl refl), within_of l (λ z i. f z (inr i)))

  pub whos_of : (l : List ℕ) (y : ℕ) → In (c.heads + y) (whos (notices_of c.heads times l)) → In y l
  whos_of [] y k = k
  whos_of (z ∷ l) y k = ⊎_elim (λ e. inl (omega arith)) (λ i. inr (whos_of l y i)) k

-- ---- from marks to terminated processes

abbrev pub ended_of : ℕ → List ℕ → ℕ → List ℕ
ended_of H marks zero = []
ended_of H marks (suc n) = if eqb (get_or marks (suc n) 0) 1 then (H + suc n) ∷ ended_of H marks n else ended_of H marks n

module _ (H : ℕ) (marks : List ℕ) where
  pub ended_mark : (n x : ℕ) → In x (ended_of H marks n) → (y : ℕ) × (x ≡ H + y) × (0 < y) × (y ≤ n) × (get_or marks y 0 ≡ 1)
  ended_mark zero x k = absurd k
  ended_mark (suc n) x k =
      decide (get_or marks (suc n) 0) 1
      (λ e. ⊎_elim
      (λ f. (suc n, f, omega arith, omega arith, e))
      (λ i. let r = ended_mark n x i in (r.0, r.1, r.2, omega (arith, r.3), r.4))
      (rw (eq-eqb (get_or marks (suc n) 0) 1 e) at k))
      (λ o. let r = ended_mark n x (rw (ne_eqb (get_or marks (suc n) 0) 1 o) at k) in (r.0, r.1, r.2, omega (arith, r.3), r.4))

  pub mark_ended : (n y : ℕ) → 0 < y → y ≤ n → get_or marks y 0 ≡ 1 → In (H + y) (ended_of H marks n)
  mark_ended zero y a b e = absurd (none a b)
    where
      none : 0 < y → y ≤ 0 → ⊥
      none a b = omega arith
  mark_ended (suc n) y a b e =
      decide y (suc n)
      (λ f. rw (eq-eqb (get_or marks (suc n) 0) 1 (ap (λ (j : ℕ). get_or marks j 0) (sym f) ∙ e)) (inl (ap (λ (j : ℕ). H + j) f)))
      (λ o.
      let i : In (H + y) (ended_of H marks n) = mark_ended n y a (omega arith) e in
      decide (get_or marks (suc n) 0) 1
      (λ q. rw (eq-eqb (get_or marks (suc n) 0) 1 q) (inr i))
      (λ q. rw (ne_eqb (get_or marks (suc n) 0) 1 q) i))

  pub mark_is : (p y : ℕ) → 0 < y → y ≤ p → (get_or marks y 0 ≡ 0) ⊎ (get_or marks y 0 ≡ 1)
      → get_or marks y 0 ≡ bit (has (H + y) (ended_of H marks p))
  mark_is p y a b (inr e) = e ∙ ap bit (sym (in_has (H + y) (ended_of H marks p) (mark_ended p y a b e)))
  mark_is p y a b (inl z) =
      test (has (H + y) (ended_of H marks p))
      (λ h.
      let r = ended_mark p (H + y) (has_in (H + y) (ended_of H marks p) h) in
      let q : r.0 ≡ y = omega (arith, r.1) in
      let f : get_or marks y 0 ≡ 1 = ap (λ (j : ℕ). get_or marks j 0) (sym q) ∙ r.4 in
      absurd (no f))
      (λ h. z ∙ ap bit (sym h))
    where
      no : get_or marks y 0 ≡ 1 → ⊥
      no f = omega arith

-- ---- from notices to events

-- no notice, no time
pub due_none : (ns : List Notice) (x : ℕ) → (In x (whos ns) → ⊥) → due_of x ns ≡ 0
due_none [] x out = refl
due_none (n ∷ ns) x out = rw (ne_eqb n.who x (λ e. out (inl (sym e)))) (due_none ns x (λ i. out (inr i)))

-- each notice's time stands in the table, at its place
abbrev pub Timed : Counts → List ℕ → List Notice → Type 0
Timed c times [] = Unit {0}
Timed c times (k ∷ ks) = (get_or times (k.who - c.heads) 0 ≡ k.due) × Timed c times ks

module _ (c : Counts) where
  pub who_place : (ns : List Notice) (x : ℕ) → In x (whos ns) → In (x - c.heads) (places c ns)
  who_place [] x k = k
  who_place (n ∷ ns) x k = ⊎_elim (λ e. inl (ap (λ (j : ℕ). j - c.heads) e)) (λ i. inr (who_place ns x i)) k

  pub place_who : (ns : List Notice) (y : ℕ) → 0 < y → In y (places c ns) → In (c.heads + y) (whos ns)
  place_who [] y a k = k
  place_who (n ∷ ns) y a k = ⊎_elim (λ e. inl (omega arith)) (λ i. inr (place_who ns y a i)) k

  pub dist_whos : (ns : List Notice) → Dist (places c ns) → Dist (whos ns)
  dist_whos [] d = tt
  dist_whos (n ∷ ns) d = (λ k. d.0 (who_place ns n.who k), dist_whos ns d.1)

  pub length_places : (ns : List Notice) → length (places c ns) ≡ length ns
  length_places [] = refl
  length_places (n ∷ ns) = ap suc (length_places ns)

  pub timed : (times : List ℕ) (ns : List Notice) → Dist (whos ns) → ((x : ℕ) → In x (whos ns) → get_or times (x - c.heads) 0 ≡ due_of x ns)
      → Timed c times ns
  timed times [] d f = tt
  timed times (n ∷ ns) d f = (
    f n.who (inl refl) ∙ own,
    timed times ns d.1 (λ x i. f x (inr i) ∙ later x i),
  )
    where
      own : due_of n.who (n ∷ ns) ≡ n.due
      own = rw (eq-eqb n.who n.who refl)

      later : (x : ℕ) → In x (whos ns) → due_of x (n ∷ ns) ≡ due_of x ns
      later x i = rw (ne_eqb n.who x (λ e. d.0 (rw (← e) at i)))

  pub within_timed : (times : List ℕ) (ns : List Notice) → Timed c times ns → Within ns → (y : ℕ) → In y (places c ns)
      → get_or times y 0 ≤ limit
  within_timed times [] t w y k = absurd k
  within_timed times (n ∷ ns) t w y k =
      ⊎_elim
      (λ e. omega (arith, ap (λ (j : ℕ). get_or times j 0) e, t.0, w.0))
      (λ i. within_timed times ns t.1 w.1 y i)
      k

  from_timed : (times : List ℕ) (u : ℕ) (ns : List Notice) → Timed c times ns → From u ns → (y : ℕ) → In y (places c ns)
      → u ≤ get_or times y 0
  from_timed times u [] t f y i = absurd i
  from_timed times u (k ∷ ks) t f y (inl e) = omega (arith, ap (λ (j : ℕ). get_or times j 0) e, t.0, f.0)
  from_timed times u (k ∷ ks) t f y (inr i) = from_timed times u ks t.1 f.1 y i

  pub order_timed : (times : List ℕ) (ns : List Notice) → Timed c times ns → InOrder ns → NeverFall times (places c ns)
  order_timed times [] t o = tt
  order_timed times (k ∷ ks) t o =
      (λ y i. omega (arith, from_timed times k.due ks t.1 o.0 y i, t.0), order_timed times ks t.1 o.1)

  -- notices are known by their places and the table of times
  pub notices_are : (times : List ℕ) (ns : List Notice) → ((x : ℕ) → In x (whos ns) → c.heads ≤ x) → Timed c times ns
      → ns ≡ notices_of c.heads times (places c ns)
  notices_are times [] f t = refl
  notices_are times (n ∷ ns) f t =
      ap₂ (λ (k : Notice) (ks : List Notice). k ∷ ks)
      (ap₂ (λ (a b : ℕ). record { who = a; due = b }) who (sym t.0))
      (notices_are times ns (λ x i. f x (inr i)) t.1)
    where
      who : n.who ≡ c.heads + (n.who - c.heads)
      who = omega (arith, f n.who (inl refl))
