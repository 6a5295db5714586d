-- What the procedures do to groups, and that it is what they do to the notices spelled out.
use Rattle.std.specs.Prelude.{ℕ, ◌<◌, ◌≤◌, ◌≡◌, refl, List, [], ◌∷◌, ◌++◌, eqb, ltb, if◌then◌else◌}
use Rattle.std.proofs.Common.{sym, ap, inl, inr, ⊎_elim, eq-eqb, ne_eqb, lt-ltb, le-leb}
use Rattle.ring_laws.specs.Lists.{In, without, behind, ahead, decide}
use Rattle.axis_laws.specs.Notices.{Notice, due_of}
use Rattle.axis_laws.specs.NoticeOps.{behind_all, front_all, before, after, dropped}
use Rattle.axis_laws.specs.Groups.{Group, notice, group, together}

-- ---- definitions

-- x is taken out: where it led, the next of its time leads; where it was alone, its time goes
abbrev pub promoted : ℕ → List ℕ → List Group → List Group
promoted u [] gs = gs
promoted u (y ∷ l) gs = group u y l ∷ gs

abbrev pub left_by : ℕ → List Group → List Group
left_by x [] = []
left_by x (g ∷ gs) =
    if eqb g.leader x then promoted g.due g.others gs
    else group g.due g.leader (without x g.others) ∷ left_by x gs

-- the others of each time changed
abbrev pub changed : (ℕ → List ℕ → List ℕ) → List Group → List Group
changed f [] = []
changed f (g ∷ gs) = group g.due g.leader (f g.leader g.others) ∷ changed f gs

-- x right behind y, with its time
abbrev pub joined_behind : ℕ → ℕ → List Group → List Group
joined_behind y x gs = changed (λ h l. behind y x h l) gs

-- x right before y, which leads none; at the end of y's time where it leads
abbrev pub joined_ahead : ℕ → ℕ → List Group → List Group
joined_ahead y x gs = changed (λ h l. ahead y x l h) gs

-- x in front of h, which led: now x leads
abbrev pub overtaken : ℕ → ℕ → List Group → List Group
overtaken h x [] = []
overtaken h x (g ∷ gs) =
    if eqb g.leader h then group g.due x (g.leader ∷ g.others) ∷ gs else g ∷ overtaken h x gs

-- x at u, last or first of that time
abbrev pub last_at : ℕ → ℕ → List Group → List Group
last_at x u [] = group u x [] ∷ []
last_at x u (g ∷ gs) =
    if ltb g.due u then g ∷ last_at x u gs
    else (if eqb g.due u then group g.due g.leader (g.others ++ (x ∷ [])) ∷ gs else group u x [] ∷ g ∷ gs)

abbrev pub first_at : ℕ → ℕ → List Group → List Group
first_at x u [] = group u x [] ∷ []
first_at x u (g ∷ gs) =
    if ltb g.due u then g ∷ first_at x u gs
    else (if eqb g.due u then group g.due x (g.leader ∷ g.others) ∷ gs else group u x [] ∷ g ∷ gs)

-- ---- a list of places due at one time

pub together_append : (u : ℕ) (l k : List ℕ) (ns : List Notice) → together u (l ++ k) ++ ns ≡ together u l ++ (together u k ++ ns)
together_append u [] k ns = refl
together_append u (x ∷ l) k ns = ap (λ (r : List Notice). notice x u ∷ r) (together_append u l k ns)

module _ (x u : ℕ) where
  pub drop_all : (l : List ℕ) (ns : List Notice) → dropped x (together u l ++ ns) ≡ together u (without x l) ++ dropped x ns
  drop_all [] ns = refl
  drop_all (z ∷ l) ns =
      decide z x
      (λ e. rw (eq-eqb z x e) (drop_all l ns))
      (λ n. rw (ne_eqb z x n) (ap (λ (r : List Notice). notice z u ∷ r) (drop_all l ns)))

module _ (x y u : ℕ) where
  pub after_here : (a : ℕ) (l : List ℕ) (ns : List Notice) → In y (a ∷ l)
      → after y (notice x u) (notice a u ∷ (together u l ++ ns)) ≡ notice a u ∷ (together u (behind y x a l) ++ ns)
  after_here a [] ns (inl e) = rw (eq-eqb a y (sym e))
  after_here a [] ns (inr i) = absurd i
  after_here a (z ∷ l) ns k =
      decide a y
      (λ e. rw (eq-eqb a y e))
      (λ n. rw (ne_eqb a y n) (ap (λ (r : List Notice). notice a u ∷ r) (after_here z l ns (⊎_elim (λ e. absurd (n (sym e))) (λ i. i) k))))

  pub before_here : (l : List ℕ) (b : ℕ) (ns : List Notice) → In y l → before y (notice x u) (together u l ++ ns) ≡ together u (ahead y x l b) ++ ns
  before_here [] b ns i = absurd i
  before_here (z ∷ l) b ns k =
      decide z y
      (λ e. rw (eq-eqb z y e))
      (λ n. rw (ne_eqb z y n) (ap (λ (r : List Notice). notice z u ∷ r) (before_here l b ns (⊎_elim (λ e. absurd (n (sym e))) (λ i. i) k))))

module _ (y u : ℕ) (n : Notice) where
  pub after_past : (l : List ℕ) (ns : List Notice) → (In y l → ⊥) → after y n (together u l ++ ns) ≡ together u l ++ after y n ns
  after_past [] ns f = refl
  after_past (z ∷ l) ns f =
      rw (ne_eqb z y (λ e. f (inl (sym e)))) (ap (λ (r : List Notice). notice z u ∷ r) (after_past l ns (λ i. f (inr i))))

  pub before_past : (l : List ℕ) (ns : List Notice) → (In y l → ⊥) → before y n (together u l ++ ns) ≡ together u l ++ before y n ns
  before_past [] ns f = refl
  before_past (z ∷ l) ns f =
      rw (ne_eqb z y (λ e. f (inl (sym e)))) (ap (λ (r : List Notice). notice z u ∷ r) (before_past l ns (λ i. f (inr i))))

  pub due_past : (l : List ℕ) (ns : List Notice) → (In y l → ⊥) → due_of y (together u l ++ ns) ≡ due_of y ns
  due_past [] ns f = refl
  due_past (z ∷ l) ns f = rw (ne_eqb z y (λ e. f (inl (sym e)))) (due_past l ns (λ i. f (inr i)))

  pub due_here : (l : List ℕ) (ns : List Notice) → In y l → due_of y (together u l ++ ns) ≡ u
  due_here [] ns i = absurd i
  due_here (z ∷ l) ns k =
      decide z y
      (λ e. rw (eq-eqb z y e))
      (λ d. rw (ne_eqb z y d) (due_here l ns (⊎_elim (λ e. absurd (d (sym e))) (λ i. i) k)))

  pub behind_past : (l : List ℕ) (ns : List Notice) → u ≤ n.due → behind_all n (together u l ++ ns) ≡ together u l ++ behind_all n ns
  behind_past [] ns h = refl
  behind_past (z ∷ l) ns h = rw (le-leb u n.due h) (ap (λ (r : List Notice). notice z u ∷ r) (behind_past l ns h))

  pub front_past : (l : List ℕ) (ns : List Notice) → u < n.due → front_all n (together u l ++ ns) ≡ together u l ++ front_all n ns
  front_past [] ns h = refl
  front_past (z ∷ l) ns h = rw (lt-ltb u n.due h) (ap (λ (r : List Notice). notice z u ∷ r) (front_past l ns h))
