-- The procedures' changes of groups, spelled out, are their changes of notices.
use Rattle.std.specs.Prelude.{ℕ, ◌≡◌, refl, ◌≢◌, List, [], ◌∷◌, ◌++◌}
use Rattle.std.proofs.Common.{sym, ap, ap₂, ◌∙◌, inl, inr, ⊎_elim, arith, eq-eqb, ne_eqb, lt-ltb, le-ltb, le-leb}
use Rattle.std.proofs.lemmas.Bool.{lt-leb}
use Rattle.ring_laws.specs.Lists.{In, without, ahead, decide, below, without_none, behind_none}
use Rattle.ring_laws.specs.Distinct.{Dist, in_left, in_right, in_either}
use Rattle.axis_laws.specs.Notices.{Notice, due_of}
use Rattle.axis_laws.specs.NoticeOps.{behind_all, front_all, before, after, dropped}
use Rattle.axis_laws.specs.Groups.{Group, notice, group, together, spelled_out, members, leaders, Above, Rising}
use Rattle.axis_laws.specs.Changes.{promoted, left_by, joined_behind, joined_ahead, overtaken, last_at, first_at, together_append, drop_all, after_here, before_here, after_past, before_past, due_past, due_here, behind_past, front_past}

-- ---- distinct places

pub dist_right : (a b : List ℕ) → Dist (a ++ b) → Dist b
dist_right [] b d = d
dist_right (z ∷ a) b d = dist_right a b d.1

pub dist_left : (a b : List ℕ) → Dist (a ++ b) → Dist a
dist_left [] b d = tt
dist_left (z ∷ a) b d = (λ i. d.0 (in_left z a b i), dist_left a b d.1)

pub dist_apart : (a b : List ℕ) (y : ℕ) → Dist (a ++ b) → In y a → In y b → ⊥
dist_apart [] b y d i j = i
dist_apart (z ∷ a) b y d (inl e) j = d.0 (rw e at (in_right y a b j))
dist_apart (z ∷ a) b y d (inr i) j = dist_apart a b y d.1 i j

-- one of a group's own, or one of a later group's
pub which : {A : Type 0} (y : ℕ) (g : Group) (gs : List Group) → In y (members (g ∷ gs)) → (In y (g.leader ∷ g.others) → A) → (In y (members gs) → A) → A
which y g gs (inl e) f k = f (inl e)
which y g gs (inr i) f k = ⊎_elim (λ j. f (inr j)) k (in_either y g.others (members gs) i)

pub own_not_later : (y : ℕ) (g : Group) (gs : List Group) → Dist (members (g ∷ gs)) → In y (g.leader ∷ g.others) → In y (members gs) → ⊥
own_not_later y g gs d i j = dist_apart (g.leader ∷ g.others) (members gs) y d i j

pub own_in : (y : ℕ) (g : Group) (gs : List Group) → In y (g.leader ∷ g.others) → In y (members (g ∷ gs))
own_in y g gs i = in_left y (g.leader ∷ g.others) (members gs) i

pub later_in : (y : ℕ) (g : Group) (gs : List Group) → In y (members gs) → In y (members (g ∷ gs))
later_in y g gs i = in_right y (g.leader ∷ g.others) (members gs) i

pub later_dist : (g : Group) (gs : List Group) → Dist (members (g ∷ gs)) → Dist (members gs)
later_dist g gs d = dist_right (g.leader ∷ g.others) (members gs) d

pub own_dist : (g : Group) (gs : List Group) → Dist (members (g ∷ gs)) → Dist (g.leader ∷ g.others)
own_dist g gs d = dist_left (g.leader ∷ g.others) (members gs) d

-- a leader is a member
pub lead_in : (y : ℕ) (gs : List Group) → In y (leaders gs) → In y (members gs)
lead_in y [] i = i
lead_in y (g ∷ gs) (inl e) = inl e
lead_in y (g ∷ gs) (inr i) = inr (in_right y g.others (members gs) (lead_in y gs i))

-- ---- taking out

module _ (x : ℕ) where
  drop_absent : (gs : List Group) → (In x (members gs) → ⊥) → dropped x (spelled_out gs) ≡ spelled_out gs
  drop_absent [] f = refl
  drop_absent (g ∷ gs) f =
      rw (ne_eqb g.leader x (λ e. f (inl (sym e))))
      (ap (λ (r : List Notice). notice g.leader g.due ∷ r)
      (drop_all x g.due g.others (spelled_out gs)
      ∙ ap₂ (λ (l : List ℕ) (r : List Notice). together g.due l ++ r)
      (sym (without_none x g.others (λ i. f (inr (in_left x g.others (members gs) i)))))
      (drop_absent gs (λ i. f (inr (in_right x g.others (members gs) i))))))

  pub out_left : (gs : List Group) → Dist (members gs) → spelled_out (left_by x gs) ≡ dropped x (spelled_out gs)
  out_left [] d = refl
  out_left (g ∷ gs) d =
      decide g.leader x
      (λ e. rw (eq-eqb g.leader x e) (out g.due g.others gs ∙ sym (drop_all x g.due g.others (spelled_out gs)
      ∙ ap₂ (λ (l : List ℕ) (r : List Notice). together g.due l ++ r)
      (sym (without_none x g.others (λ i. d.0 (rw (← e) at (in_left x g.others (members gs) i)))))
      (drop_absent gs (λ i. d.0 (rw (← e) at (in_right x g.others (members gs) i)))))))
      (λ n. rw (ne_eqb g.leader x n)
      (ap (λ (r : List Notice). notice g.leader g.due ∷ r)
      (ap (λ (r : List Notice). together g.due (without x g.others) ++ r) (out_left gs (dist_right g.others (members gs) d.1))
      ∙ sym (drop_all x g.due g.others (spelled_out gs)))))
    where
      out : (u : ℕ) (l : List ℕ) (gs : List Group) → spelled_out (promoted u l gs) ≡ together u l ++ spelled_out gs
      out u [] gs = refl
      out u (y ∷ l) gs = refl

-- ---- putting in beside y

module _ (x y : ℕ) where
  pub ahead_none : (l : List ℕ) (b : ℕ) → (In y l → ⊥) → b ≢ y → ahead y x l b ≡ l
  ahead_none [] b f n = rw (ne_eqb b y n)
  ahead_none (z ∷ l) b f n = rw (ne_eqb z y (λ e. f (inl (sym e)))) (ap (λ (r : List ℕ). z ∷ r) (ahead_none l b (λ i. f (inr i)) n))

  pub behind_absent : (gs : List Group) → (In y (members gs) → ⊥) → joined_behind y x gs ≡ gs
  behind_absent [] f = refl
  behind_absent (g ∷ gs) f =
      ap₂ (λ (l : List ℕ) (r : List Group). group g.due g.leader l ∷ r)
      (behind_none y x g.leader g.others (λ i. f (own_in y g gs i))) (behind_absent gs (λ i. f (later_in y g gs i)))

  pub ahead_absent : (gs : List Group) → (In y (members gs) → ⊥) → joined_ahead y x gs ≡ gs
  ahead_absent [] f = refl
  ahead_absent (g ∷ gs) f =
      ap₂ (λ (l : List ℕ) (r : List Group). group g.due g.leader l ∷ r)
      (ahead_none g.others g.leader (λ i. f (own_in y g gs (inr i))) (λ e. f (own_in y g gs (inl (sym e))))) (ahead_absent gs (λ i. f (later_in y g gs i)))

  pub out_behind : (u : ℕ) (gs : List Group) → Dist (members gs) → In y (members gs) → u ≡ due_of y (spelled_out gs)
      → spelled_out (joined_behind y x gs) ≡ after y (notice x u) (spelled_out gs)
  out_behind u [] d i e = absurd i
  out_behind u (g ∷ gs) d i e =
      which y g gs i
      (λ own.
      let q : u ≡ g.due = e ∙ due_here y g.due (notice x u) (g.leader ∷ g.others) (spelled_out gs) own in
      rw (behind_absent gs (own_not_later y g gs d own)) (sym (after_here x y g.due g.leader g.others (spelled_out gs) own)
      ∙ ap (λ (v : ℕ). after y (notice x v) (spelled_out (g ∷ gs))) (sym q)))
      (λ later.
      let out : In y (g.leader ∷ g.others) → ⊥ = λ own. own_not_later y g gs d own later in
      let q : u ≡ due_of y (spelled_out gs) = e ∙ due_past y g.due (notice x u) (g.leader ∷ g.others) (spelled_out gs) out in
      ap₂ (λ (l : List ℕ) (r : List Notice). notice g.leader g.due ∷ (together g.due l ++ r))
      (behind_none y x g.leader g.others out) (out_behind u gs (later_dist g gs d) later q)
      ∙ sym (after_past y g.due (notice x u) (g.leader ∷ g.others) (spelled_out gs) out))

  pub out_ahead : (u : ℕ) (gs : List Group) → Dist (members gs) → In y (members gs) → (In y (leaders gs) → ⊥) → u ≡ due_of y (spelled_out gs)
      → spelled_out (joined_ahead y x gs) ≡ before y (notice x u) (spelled_out gs)
  out_ahead u [] d i o e = absurd i
  out_ahead u (g ∷ gs) d i o e =
      which y g gs i
      (λ own.
      let q : u ≡ g.due = e ∙ due_here y g.due (notice x u) (g.leader ∷ g.others) (spelled_out gs) own in
      let other : In y g.others = ⊎_elim (λ e. absurd (o (inl e))) (λ j. j) own in
      rw (ahead_absent gs (own_not_later y g gs d own), ne_eqb g.leader y (λ e. o (inl (sym e))))
      (ap (λ (r : List Notice). notice g.leader g.due ∷ r) (sym (before_here x y g.due g.others g.leader (spelled_out gs) other)
      ∙ ap (λ (v : ℕ). before y (notice x v) (together g.due g.others ++ spelled_out gs)) (sym q))))
      (λ later.
      let out : In y (g.leader ∷ g.others) → ⊥ = λ own. own_not_later y g gs d own later in
      let q : u ≡ due_of y (spelled_out gs) = e ∙ due_past y g.due (notice x u) (g.leader ∷ g.others) (spelled_out gs) out in
      ap₂ (λ (l : List ℕ) (r : List Notice). notice g.leader g.due ∷ (together g.due l ++ r))
      (ahead_none g.others g.leader (λ i. out (inr i)) (λ e. out (inl (sym e)))) (out_ahead u gs (later_dist g gs d) later (λ i. o (inr i)) q)
      ∙ sym (before_past y g.due (notice x u) (g.leader ∷ g.others) (spelled_out gs) out))

  pub out_overtaken : (u : ℕ) (gs : List Group) → Dist (members gs) → In y (leaders gs) → u ≡ due_of y (spelled_out gs)
      → spelled_out (overtaken y x gs) ≡ before y (notice x u) (spelled_out gs)
  out_overtaken u [] d i e = absurd i
  out_overtaken u (g ∷ gs) d i e =
      decide g.leader y
      (λ f.
      let q : u ≡ g.due = e ∙ due_here y g.due (notice x u) (g.leader ∷ g.others) (spelled_out gs) (inl (sym f)) in
      rw (q, eq-eqb g.leader y f))
      (λ n.
      let later : In y (members gs) = lead_in y gs (⊎_elim (λ f. absurd (n (sym f))) (λ j. j) i) in
      let out : In y (g.leader ∷ g.others) → ⊥ = λ own. own_not_later y g gs d own later in
      let q : u ≡ due_of y (spelled_out gs) = e ∙ due_past y g.due (notice x u) (g.leader ∷ g.others) (spelled_out gs) out in
      rw (ne_eqb g.leader y n)
      (ap (λ (r : List Notice). notice g.leader g.due ∷ r)
      (ap (λ (r : List Notice). together g.due g.others ++ r) (out_overtaken u gs (later_dist g gs d) (⊎_elim (λ f. absurd (n (sym f))) (λ j. j) i) q)
      ∙ sym (before_past y g.due (notice x u) g.others (spelled_out gs) (λ j. out (inr j))))))

-- ---- putting in by time

module _ (x u : ℕ) where
  behind_above : (gs : List Group) → Above u gs → behind_all (notice x u) (spelled_out gs) ≡ notice x u ∷ spelled_out gs
  behind_above [] a = refl
  behind_above (g ∷ gs) a = rw (lt-leb g.due u a.0)

  pub out_last : (gs : List Group) → Rising gs → spelled_out (last_at x u gs) ≡ behind_all (notice x u) (spelled_out gs)
  out_last [] r = refl
  out_last (g ∷ gs) r =
      below g.due u
      (λ l. rw (lt-ltb g.due u l, le-leb g.due u (omega arith))
      (ap (λ (k : List Notice). notice g.leader g.due ∷ k)
      (ap (λ (k : List Notice). together g.due g.others ++ k) (out_last gs r.1)
      ∙ sym (behind_past x g.due (notice x u) g.others (spelled_out gs) (omega arith)))))
      (λ l. decide g.due u
      (λ e. rw (le-ltb g.due u l, eq-eqb g.due u e, le-leb g.due u (omega arith))
      (ap (λ (k : List Notice). notice g.leader g.due ∷ k)
      (together_append g.due g.others (x ∷ []) (spelled_out gs)
      ∙ ap (λ (k : List Notice). together g.due g.others ++ k)
      (ap (λ (v : ℕ). notice x v ∷ spelled_out gs) e ∙ sym (behind_above gs (rw e at r.0)))
      ∙ sym (behind_past x g.due (notice x u) g.others (spelled_out gs) (omega arith)))))
      (λ n. rw (le-ltb g.due u l, ne_eqb g.due u n, lt-leb g.due u (omega arith))))

  pub out_first : (gs : List Group) → spelled_out (first_at x u gs) ≡ front_all (notice x u) (spelled_out gs)
  out_first [] = refl
  out_first (g ∷ gs) =
      below g.due u
      (λ l. rw (lt-ltb g.due u l)
      (ap (λ (k : List Notice). notice g.leader g.due ∷ k)
      (ap (λ (k : List Notice). together g.due g.others ++ k) (out_first gs)
      ∙ sym (front_past x g.due (notice x u) g.others (spelled_out gs) l))))
      (λ l. decide g.due u
      (λ e. rw (le-ltb g.due u l, eq-eqb g.due u e) (ap (λ (v : ℕ). notice x v ∷ spelled_out (g ∷ gs)) e))
      (λ n. rw (le-ltb g.due u l, ne_eqb g.due u n)))
