-- Who leads after a change, and that distinct times stay distinct.
use Rattle.std.specs.Prelude.{ℕ, ◌<◌, ◌≤◌, ◌≡◌, refl, List, [], ◌∷◌, ◌++◌, eqb, if◌then◌else◌}
use Rattle.std.proofs.Common.{sym, ap, inl, inr, ⊎_elim, arith, eq-eqb, ne_eqb, lt-ltb, le-ltb}
use Rattle.ring_laws.specs.Lists.{In, without, decide, below, without_none}
use Rattle.ring_laws.specs.Distinct.{Dist}
use Rattle.axis_laws.specs.Groups.{Group, members, leaders, Above, Rising}
use Rattle.axis_laws.specs.Changes.{promoted, left_by, changed, overtaken, last_at, first_at}
use Rattle.axis_laws.specs.Outs.{lead_in, later_dist}

-- y in the place of x
abbrev pub swapped : ℕ → ℕ → List ℕ → List ℕ
swapped x y [] = []
swapped x y (z ∷ l) = if eqb z x then y ∷ l else z ∷ swapped x y l

-- who stands behind h, which leads
abbrev pub others_of : ℕ → List Group → List ℕ
others_of h [] = []
others_of h (g ∷ gs) = if eqb g.leader h then g.others else others_of h gs

pub lead_dist : (gs : List Group) → Dist (members gs) → Dist (leaders gs)
lead_dist [] d = tt
lead_dist (g ∷ gs) d = (λ i. d.0 (tail i), lead_dist gs (later_dist g gs d))
  where
    tail : In g.leader (leaders gs) → In g.leader (g.others ++ members gs)
    tail i = go g.others
      where
        go : (l : List ℕ) → In g.leader (l ++ members gs)
        go [] = lead_in g.leader gs i
        go (z ∷ l) = inr (go l)

-- ---- leaders

pub lead_changed : (f : ℕ → List ℕ → List ℕ) (gs : List Group) → leaders (changed f gs) ≡ leaders gs
lead_changed f [] = refl
lead_changed f (g ∷ gs) = ap (λ (l : List ℕ). g.leader ∷ l) (lead_changed f gs)

pub lead_overtaken : (h x : ℕ) (gs : List Group) → leaders (overtaken h x gs) ≡ swapped h x (leaders gs)
lead_overtaken h x [] = refl
lead_overtaken h x (g ∷ gs) =
    decide g.leader h
    (λ e. rw (eq-eqb g.leader h e))
    (λ n. rw (ne_eqb g.leader h n) (ap (λ (l : List ℕ). g.leader ∷ l) (lead_overtaken h x gs)))

module _ (x : ℕ) where
  -- x leads none
  pub lead_other : (gs : List Group) → (In x (leaders gs) → ⊥) → leaders (left_by x gs) ≡ leaders gs
  lead_other [] f = refl
  lead_other (g ∷ gs) f =
      rw (ne_eqb g.leader x (λ e. f (inl (sym e)))) (ap (λ (l : List ℕ). g.leader ∷ l) (lead_other gs (λ i. f (inr i))))

  -- x is alone
  pub lead_alone : (gs : List Group) → Dist (leaders gs) → In x (leaders gs) → others_of x gs ≡ [] → leaders (left_by x gs) ≡ without x (leaders gs)
  lead_alone [] d i e = refl
  lead_alone (g ∷ gs) d i e =
      decide g.leader x
      (λ f.
      let q : g.others ≡ [] = rw (eq-eqb g.leader x f) at e in
      rw (eq-eqb g.leader x f, q) (without_none x (leaders gs) (λ j. d.0 (rw (← f) at j))))
      (λ n. rw (ne_eqb g.leader x n)
      (ap (λ (l : List ℕ). g.leader ∷ l)
      (lead_alone gs d.1 (⊎_elim (λ f. absurd (n (sym f))) (λ j. j) i) (rw (ne_eqb g.leader x n) at e))))

  -- y is next
  pub lead_next : (y : ℕ) (l : List ℕ) (gs : List Group) → In x (leaders gs) → others_of x gs ≡ y ∷ l → leaders (left_by x gs) ≡ swapped x y (leaders gs)
  lead_next y l [] i e = absurd i
  lead_next y l (g ∷ gs) i e =
      decide g.leader x
      (λ f.
      let q : g.others ≡ y ∷ l = rw (eq-eqb g.leader x f) at e in
      rw (eq-eqb g.leader x f, q))
      (λ n. rw (ne_eqb g.leader x n)
      (ap (λ (k : List ℕ). g.leader ∷ k)
      (lead_next y l gs (⊎_elim (λ f. absurd (n (sym f))) (λ j. j) i) (rw (ne_eqb g.leader x n) at e))))

-- ---- distinct times stay distinct

pub above_less : (t u : ℕ) (gs : List Group) → t ≤ u → Above u gs → Above t gs
above_less t u [] l a = tt
above_less t u (g ∷ gs) l a = (omega (arith, a.0), above_less t u gs l a.1)

above_changed : (f : ℕ → List ℕ → List ℕ) (t : ℕ) (gs : List Group) → Above t gs → Above t (changed f gs)
above_changed f t [] a = tt
above_changed f t (g ∷ gs) a = (a.0, above_changed f t gs a.1)

pub rising_changed : (f : ℕ → List ℕ → List ℕ) (gs : List Group) → Rising gs → Rising (changed f gs)
rising_changed f [] r = tt
rising_changed f (g ∷ gs) r = (above_changed f g.due gs r.0, rising_changed f gs r.1)

above_overtaken : (h x t : ℕ) (gs : List Group) → Above t gs → Above t (overtaken h x gs)
above_overtaken h x t [] a = tt
above_overtaken h x t (g ∷ gs) a =
    decide g.leader h
    (λ e. rw (eq-eqb g.leader h e) a)
    (λ n. rw (ne_eqb g.leader h n) (a.0, above_overtaken h x t gs a.1))

pub rising_overtaken : (h x : ℕ) (gs : List Group) → Rising gs → Rising (overtaken h x gs)
rising_overtaken h x [] r = tt
rising_overtaken h x (g ∷ gs) r =
    decide g.leader h
    (λ e. rw (eq-eqb g.leader h e) r)
    (λ n. rw (ne_eqb g.leader h n) (above_overtaken h x g.due gs r.0, rising_overtaken h x gs r.1))

module _ (x : ℕ) where
  above_promoted : (t u : ℕ) (l : List ℕ) (gs : List Group) → t < u → Above t gs → Above t (promoted u l gs)
  above_promoted t u [] gs h a = a
  above_promoted t u (y ∷ l) gs h a = (h, a)

  above_left : (t : ℕ) (gs : List Group) → Above t gs → Above t (left_by x gs)
  above_left t [] a = tt
  above_left t (g ∷ gs) a =
      decide g.leader x
      (λ e. rw (eq-eqb g.leader x e) (above_promoted t g.due g.others gs a.0 a.1))
      (λ n. rw (ne_eqb g.leader x n) (a.0, above_left t gs a.1))

  rising_promoted : (u : ℕ) (l : List ℕ) (gs : List Group) → Above u gs → Rising gs → Rising (promoted u l gs)
  rising_promoted u [] gs a r = r
  rising_promoted u (y ∷ l) gs a r = (a, r)

  pub rising_left : (gs : List Group) → Rising gs → Rising (left_by x gs)
  rising_left [] r = tt
  rising_left (g ∷ gs) r =
      decide g.leader x
      (λ e. rw (eq-eqb g.leader x e) (rising_promoted g.due g.others gs r.0 r.1))
      (λ n. rw (ne_eqb g.leader x n) (above_left g.due gs r.0, rising_left gs r.1))

module _ (x u : ℕ) where
  above_last : (t : ℕ) (gs : List Group) → t < u → Above t gs → Above t (last_at x u gs)
  above_last t [] h a = (h, tt)
  above_last t (g ∷ gs) h a =
      below g.due u
      (λ l. rw (lt-ltb g.due u l) (a.0, above_last t gs h a.1))
      (λ l. decide g.due u
      (λ e. rw (le-ltb g.due u l, eq-eqb g.due u e) a)
      (λ n. rw (le-ltb g.due u l, ne_eqb g.due u n) (h, a)))

  above_first : (t : ℕ) (gs : List Group) → t < u → Above t gs → Above t (first_at x u gs)
  above_first t [] h a = (h, tt)
  above_first t (g ∷ gs) h a =
      below g.due u
      (λ l. rw (lt-ltb g.due u l) (a.0, above_first t gs h a.1))
      (λ l. decide g.due u
      (λ e. rw (le-ltb g.due u l, eq-eqb g.due u e) a)
      (λ n. rw (le-ltb g.due u l, ne_eqb g.due u n) (h, a)))

  pub rising_last : (gs : List Group) → Rising gs → Rising (last_at x u gs)
  rising_last [] r = (tt, tt)
  rising_last (g ∷ gs) r =
      below g.due u
      (λ l. rw (lt-ltb g.due u l) (above_last g.due gs l r.0, rising_last gs r.1))
      (λ l. decide g.due u
      (λ e. rw (le-ltb g.due u l, eq-eqb g.due u e) r)
      (λ n. rw (le-ltb g.due u l, ne_eqb g.due u n) ((omega arith, above_less u g.due gs l r.0), r)))

  pub rising_first : (gs : List Group) → Rising gs → Rising (first_at x u gs)
  rising_first [] r = (tt, tt)
  rising_first (g ∷ gs) r =
      below g.due u
      (λ l. rw (lt-ltb g.due u l) (above_first g.due gs l r.0, rising_first gs r.1))
      (λ l. decide g.due u
      (λ e. rw (le-ltb g.due u l, eq-eqb g.due u e) r)
      (λ n. rw (le-ltb g.due u l, ne_eqb g.due u n) ((omega arith, above_less u g.due gs l r.0), r)))
