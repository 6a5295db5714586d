-- Notices and tables: insertion before the first notice due from w on, the listed times, and what Spells says of notices.
use Rattle.std.specs.Prelude.{ℕ, zero, suc, ◌+◌, ◌-◌, ◌<◌, ◌≤◌, ◌≡◌, refl, ◌≢◌, List, [], ◌∷◌, ltb, set, if◌then◌else◌}
use Rattle.std.proofs.Common.{sym, ap, ◌∙◌, inl, inr, arith, not-suc-le-zero, eq-eqb, ne_eqb, le-leb, lt-ltb, le-ltb, subst}
use Rattle.std.proofs.lemmas.Bool.{lt-leb}
use Rattle.ring_laws.specs.Lists.{In, below, behind, behind_head}
use Rattle.ring_laws.specs.Distinct.{Dist}
use Rattle.ring_laws.specs.Tabulate.{listed}
use Rattle.model.specs.declared.Counts.{Counts}
use Rattle.axis_laws.specs.Notices.{Notice, due_of, whos, places}
use Rattle.axis_laws.specs.NoticeOps.{behind_all, front_all, dropped}
use Rattle.axis_laws.specs.NoticeLaws.{Ins, drop_gone}
use Rattle.axis_laws.specs.Reading.{due_none}

-- ---- n before the first notice that is due from w on

abbrev pub by_due : ℕ → Notice → List Notice → List Notice
by_due w n [] = n ∷ []
by_due w n (k ∷ ks) = if ltb k.due w then k ∷ by_due w n ks else n ∷ k ∷ ks

pub by_behind : (n : Notice) (ns : List Notice) → by_due (suc n.due) n ns ≡ behind_all n ns
by_behind n [] = refl
by_behind n (k ∷ ks) =
    below n.due k.due
    (λ l. rw (le-ltb k.due (suc n.due) l, lt-leb k.due n.due l))
    (λ l. rw (lt-ltb k.due (suc n.due) (omega arith), le-leb k.due n.due l) (ap (λ (r : List Notice). k ∷ r) (by_behind n ks)))

pub by_front : (n : Notice) (ns : List Notice) → by_due n.due n ns ≡ front_all n ns
by_front n [] = refl
by_front n (k ∷ ks) =
    below k.due n.due
    (λ l. rw (lt-ltb k.due n.due l) (ap (λ (r : List Notice). k ∷ r) (by_front n ks)))
    (λ l. rw (le-ltb k.due n.due l))

pub by_ins : (w : ℕ) (n : Notice) (ns : List Notice) → Ins n ns (by_due w n ns)
by_ins w n [] = Ins.here
by_ins w n (k ∷ ks) =
    below k.due w
    (λ l. rw (lt-ltb k.due w l) (Ins.there (by_ins w n ks)))
    (λ l. rw (le-ltb k.due w l) Ins.here)

-- the place behind which that is, from the place a on
abbrev pub spot_in : Counts → ℕ → ℕ → List Notice → ℕ
spot_in c w a [] = a
spot_in c w a (k ∷ ks) = if ltb k.due w then spot_in c w (k.who - c.heads) ks else a

module _ (c : Counts) (w : ℕ) where
  pub spot_on : (a : ℕ) (ns : List Notice) → In (spot_in c w a ns) (a ∷ places c ns)
  spot_on a [] = inl refl
  spot_on a (k ∷ ks) =
      below k.due w
      (λ l.
      let e : spot_in c w a (k ∷ ks) ≡ spot_in c w (k.who - c.heads) ks = rw (lt-ltb k.due w l) in
      subst (λ (v : ℕ). In v (a ∷ places c (k ∷ ks))) (sym e) (inr (spot_on (k.who - c.heads) ks)))
      (λ l. inl (rw (le-ltb k.due w l)))

module _ (c : Counts) (w : ℕ) (n : Notice) where
  pub behind_spot : (a : ℕ) (ns : List Notice) → Dist (a ∷ places c ns)
      → behind (spot_in c w a ns) (n.who - c.heads) a (places c ns) ≡ places c (by_due w n ns)
  behind_spot a [] d = rw (eq-eqb a a refl)
  behind_spot a (k ∷ ks) d =
      below k.due w
      (λ l.
      let e : spot_in c w a (k ∷ ks) ≡ spot_in c w (k.who - c.heads) ks = rw (lt-ltb k.due w l) in
      ap (λ (v : ℕ). behind v (n.who - c.heads) a (places c (k ∷ ks))) e ∙
      rw (lt-ltb k.due w l, ne_eqb a (spot_in c w (k.who - c.heads) ks) (λ e. d.0 (subst (λ (v : ℕ). In v (places c (k ∷ ks))) (sym e) (spot_on c w (k.who - c.heads) ks))))
      (ap (λ (r : List ℕ). (k.who - c.heads) ∷ r) (behind_spot (k.who - c.heads) ks d.1)))
      (λ l.
      let e : spot_in c w a (k ∷ ks) ≡ a = rw (le-ltb k.due w l) in
      ap (λ (v : ℕ). behind v (n.who - c.heads) a (places c (k ∷ ks))) e ∙
      rw (le-ltb k.due w l) (behind_head a (n.who - c.heads) (places c (k ∷ ks))))

-- ---- a listed table after one store

pub listed_set : (f g : ℕ → ℕ) (n i k v : ℕ) → k < n → g (i + k) ≡ v → ((j : ℕ) → j ≢ i + k → g j ≡ f j)
    → set (listed f i n) k v ≡ listed g i n
listed_set f g zero i k v l e h = absurd (not-suc-le-zero l)
listed_set f g (suc n) i zero v l e h =
    let z : i + 0 ≡ i = omega arith in
    rw (← e, z) (ap (λ (r : List ℕ). g i ∷ r) (listed_same (suc i) n (λ j b. sym (h j (λ q. omega arith)))))
  where
    listed_same : (i n : ℕ) → ((j : ℕ) → i ≤ j → f j ≡ g j) → listed f i n ≡ listed g i n
    listed_same i zero h = refl
    listed_same i (suc n) h = rw (h i (omega arith)) (ap (λ (r : List ℕ). g i ∷ r) (listed_same (suc i) n (λ j b. h j (omega arith))))
listed_set f g (suc n) i (suc k) v l e h =
    let z : i + suc k ≡ suc i + k = omega arith in
    rw (h i (λ q. omega arith)) (ap (λ (r : List ℕ). f i ∷ r)
    (listed_set f g n (suc i) k v (omega arith) (rw z at e) (λ j d. h j (λ q. d (q ∙ z)))))

-- ---- dueOf

pub due_dropped : (x : ℕ) (ns : List Notice) → due_of x (dropped x ns) ≡ 0
due_dropped x ns = due_none (dropped x ns) x (λ i. drop_gone x ns x i refl)

-- ---- places

-- a place of the list is some notice's
pub places_in : (c : Counts) (p : ℕ) (ns : List Notice) → In p (places c ns) → (a : ℕ) × (p ≡ a - c.heads) × In a (whos ns)
places_in c p [] i = absurd i
places_in c p (k ∷ ks) (inl e) = (k.who, e, inl refl)
places_in c p (k ∷ ks) (inr i) = let r = places_in c p ks i in (r.0, r.1, inr r.2)
