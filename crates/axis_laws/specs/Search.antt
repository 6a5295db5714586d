-- The search among distinct times: what it finds, and what is put in there.
use Rattle.std.specs.Prelude.{ℕ, suc, ◌-◌, ◌<◌, ◌≤◌, ◌≡◌, refl, ◌≢◌, ◌⊎◌, List, [], ◌∷◌, ◌++◌, ltb, length, get_or, if◌then◌else◌}
use Rattle.std.proofs.Common.{sym, ap, ap₂, ◌∙◌, subst, inl, inr, ⊎_elim, arith, eq-eqb, ne_eqb, lt-ltb, le-ltb}
use Rattle.ring_laws.specs.Lists.{In, behind, decide, below, behind_head, ahead_end}
use Rattle.ring_laws.specs.Distinct.{Dist}
use Rattle.ring_laws.specs.Chain.{Chain}
use Rattle.ring_laws.specs.Stores.{sucs, pres}
use Rattle.model.specs.declared.Counts.{Counts}
use Rattle.axis_laws.specs.Notices.{due_of, places, From, InOrder}
use Rattle.axis_laws.specs.Reading.{Timed}
use Rattle.axis_laws.specs.Seek.{seek_from}
use Rattle.axis_laws.specs.ByDue.{spot_in}
use Rattle.axis_laws.specs.Seek.{seek_finds}
use Rattle.axis_laws.specs.Groups.{Group, notice, group, spelled_out, members, leading, leaders, Above, Rising}
use Rattle.axis_laws.specs.Changes.{last_at, first_at, joined_ahead, overtaken, due_past, due_here}
use Rattle.axis_laws.specs.Outs.{lead_in, own_not_later, later_in, later_dist, ahead_absent, ahead_none}
use Rattle.axis_laws.specs.Loops.{Loops}

-- the last leader due before w, or a
abbrev pub spot : ℕ → ℕ → List Group → ℕ
spot w a [] = a
spot w a (g ∷ gs) = if ltb g.due w then spot w g.leader gs else a

-- ---- what the search of the one-ring axis finds among leaders

-- places are numbers less 0 heads
abbrev none : Counts
none = record { heads = 0; processes = 0; plains = 0 }

less_none : (x : ℕ) → x - 0 ≡ x
less_none x = omega arith

places_none : (gs : List Group) → places none (leading gs) ≡ leaders gs
places_none [] = refl
places_none (g ∷ gs) = ap₂ (λ (x : ℕ) (l : List ℕ). x ∷ l) (less_none g.leader) (places_none gs)

spot_none : (w a : ℕ) (gs : List Group) → spot_in none w a (leading gs) ≡ spot w a gs
spot_none w a [] = refl
spot_none w a (g ∷ gs) =
    below g.due w
    (λ l. rw (lt-ltb g.due w l) (ap (λ (x : ℕ). spot_in none w x (leading gs)) (less_none g.leader) ∙ spot_none w g.leader gs))
    (λ l. rw (le-ltb g.due w l))

above_from : (t : ℕ) (gs : List Group) → Above t gs → From t (leading gs)
above_from t [] a = tt
above_from t (g ∷ gs) a = (omega (arith, a.0), above_from t gs a.1)

leading_order : (gs : List Group) → Rising gs → InOrder (leading gs)
leading_order [] r = tt
leading_order (g ∷ gs) r = (above_from g.due gs r.0, leading_order gs r.1)

-- a later group's times
pub due_later : (g : Group) (gs : List Group) (y : ℕ) → Dist (members (g ∷ gs)) → In y (members gs) → due_of y (spelled_out (g ∷ gs)) ≡ due_of y (spelled_out gs)
due_later g gs y d i =
    due_past y g.due (notice y 0) (g.leader ∷ g.others) (spelled_out gs) (λ own. own_not_later y g gs d own i)

pub due_own : (g : Group) (gs : List Group) (y : ℕ) → In y (g.leader ∷ g.others) → due_of y (spelled_out (g ∷ gs)) ≡ g.due
due_own g gs y i = due_here y g.due (notice y 0) (g.leader ∷ g.others) (spelled_out gs) i

leading_timed : (times : List ℕ) (gs : List Group) → Dist (members gs) → ((y : ℕ) → In y (members gs) → get_or times y 0 ≡ due_of y (spelled_out gs)) → Timed none times (leading gs)
leading_timed times [] d f = tt
leading_timed times (g ∷ gs) d f = (
  ap (λ (x : ℕ). get_or times x 0) (less_none g.leader) ∙ f g.leader (inl refl) ∙ due_own g gs g.leader (inl refl),
  leading_timed times gs (later_dist g gs d) (λ y i. f y (later_in y g gs i) ∙ due_later g gs y d i),
)

length_leading : (gs : List Group) → length (leading gs) ≡ length (leaders gs)
length_leading [] = refl
length_leading (g ∷ gs) = ap suc (length_leading gs)

pub seek_spot : (m w : ℕ) (t times : List ℕ) (gs : List Group) → Chain (sucs m t) (pres m t) (m - 1) (leaders gs) (m - 1)
    → ((y : ℕ) → In y (leaders gs) → (y < m) × (y ≢ m - 1)) → Rising gs → Dist (members gs)
    → ((y : ℕ) → In y (members gs) → get_or times y 0 ≡ due_of y (spelled_out gs)) → length (leaders gs) ≤ m
    → seek_from m times w t m (sucs m t (m - 1)) (pres m t (m - 1)) ≡ spot w (m - 1) gs
seek_spot m w t times gs c off r d f few =
    seek_finds none m times w t m (m - 1) (leading gs) (m - 1)
    (record {
      links = subst (λ (l : List ℕ). Chain (sucs m t) (pres m t) (m - 1) l (m - 1)) (sym (places_none gs)) c;
      due = leading_timed times gs d f;
      order = leading_order gs r;
      off = λ y i. off y (rw (places_none gs) at i);
    })
    (inl refl) (omega (arith, length_leading gs))
    ∙ spot_none w (m - 1) gs

-- ---- u is one of the times, or is not

abbrev pub At : ℕ → List Group → Type 0
At u [] = ⊥
At u (g ∷ gs) = (g.due ≡ u) ⊎ At u gs

pub at_split : {A : Type 0} (u : ℕ) (gs : List Group) → (At u gs → A) → ((At u gs → ⊥) → A) → A
at_split u [] f k = k (λ i. i)
at_split u (g ∷ gs) f k = decide g.due u (λ e. f (inl e)) (λ n. at_split u gs (λ i. f (inr i)) (λ o. k (⊎_elim n o)))

at_above : (t u : ℕ) (gs : List Group) → Above t gs → At u gs → t < u
at_above t u [] a i = absurd i
at_above t u (g ∷ gs) a (inl e) = omega (arith, a.0)
at_above t u (g ∷ gs) a (inr i) = at_above t u gs a.1 i

-- a leader due at u
pub due_at_lem : (u h : ℕ) (gs : List Group) → Dist (members gs) → In h (leaders gs) → due_of h (spelled_out gs) ≡ u → At u gs
due_at_lem u h [] d i e = i
due_at_lem u h (g ∷ gs) d (inl q) e = inl (sym (due_own g gs h (inl q)) ∙ e)
due_at_lem u h (g ∷ gs) d (inr i) e = inr (due_at_lem u h gs (later_dist g gs d) i (sym (due_later g gs h d (lead_in h gs i)) ∙ e))

spot_stop : (u a : ℕ) (gs : List Group) → Above u gs → spot (suc u) a gs ≡ a
spot_stop u a [] f = refl
spot_stop u a (g ∷ gs) f = rw (le-ltb g.due (suc u) f.0)

pub spot_on : (w a : ℕ) (gs : List Group) → In (spot w a gs) (a ∷ leaders gs)
spot_on w a [] = inl refl
spot_on w a (g ∷ gs) =
    below g.due w
    (λ l.
    let e : spot w a (g ∷ gs) ≡ spot w g.leader gs = rw (lt-ltb g.due w l) in
    subst (λ (v : ℕ). In v (a ∷ leaders (g ∷ gs))) (sym e) (inr (spot_on w g.leader gs)))
    (λ l. inl (rw (le-ltb g.due w l)))

-- u is a time: h leads it, and x goes in there
pub record Shared (x u h : ℕ) (gs : List Group) : Type 0 where
  pub lead : In h (leaders gs)
  pub due : due_of h (spelled_out gs) ≡ u
  pub last : last_at x u gs ≡ joined_ahead h x gs
  pub first : first_at x u gs ≡ overtaken h x gs

pub shared : (x u a : ℕ) (gs : List Group) → Rising gs → Dist (members gs) → At u gs → Shared x u (spot (suc u) a gs) gs
shared x u a [] r d i = absurd i
shared x u a (g ∷ gs) r d i =
    decide g.due u
    (λ e.
    let h = g.leader in
    let q : spot (suc u) h gs ≡ h = spot_stop u h gs (rw e at r.0) in
    let out : In h g.others → ⊥ = λ j. own_dist g.others d.0 j in
    rw (lt-ltb g.due (suc u) (omega arith), q) (record {
      lead = inl refl;
      due = due_own g gs h (inl refl) ∙ e;
      last = rw (le-ltb g.due u (omega arith), eq-eqb g.due u e)
          (ap₂ (λ (l : List ℕ) (k : List Group). group g.due h l ∷ k) (sym (ahead_end h x g.others out))
          (sym (ahead_absent x h gs (λ j. own_not_later h g gs d (inl refl) j))));
      first = rw (le-ltb g.due u (omega arith), eq-eqb g.due u e, eq-eqb h h refl);
    }))
    (λ n.
    let i' : At u gs = ⊎_elim (λ e. absurd (n e)) (λ j. j) i in
    let l : g.due < u = at_above g.due u gs r.0 i' in
    let s = shared x u g.leader gs r.1 (later_dist g gs d) i' in
    let h = spot (suc u) g.leader gs in
    let hm : In h (members gs) = lead_in h gs s.lead in
    let out : In h (g.leader ∷ g.others) → ⊥ = λ own. own_not_later h g gs d own hm in
    rw (lt-ltb g.due (suc u) (omega arith)) (record {
      lead = inr s.lead;
      due = due_later g gs h d hm ∙ s.due;
      last = rw (lt-ltb g.due u l)
          (ap₂ (λ (k : List ℕ) (ks : List Group). group g.due g.leader k ∷ ks)
          (sym (ahead_none x h g.others g.leader (λ j. out (inr j)) (λ e. out (inl (sym e))))) s.last);
      first = rw (lt-ltb g.due u l, ne_eqb g.leader h (λ e. out (inl (sym e)))) (ap (λ (ks : List Group). g ∷ ks) s.first);
    }))
  where
    own_dist : (l : List ℕ) → (In g.leader (l ++ members gs) → ⊥) → In g.leader l → ⊥
    own_dist [] f j = j
    own_dist (z ∷ l) f (inl e) = f (inl e)
    own_dist (z ∷ l) f (inr j) = own_dist l (λ k. f (inr k)) j

-- u is no time: x leads one of its own, behind h
module _ (x u : ℕ) where
  pub new_same : (gs : List Group) → (At u gs → ⊥) → first_at x u gs ≡ last_at x u gs
  new_same [] o = refl
  new_same (g ∷ gs) o =
      below g.due u
      (λ l. rw (lt-ltb g.due u l) (ap (λ (ks : List Group). g ∷ ks) (new_same gs (λ i. o (inr i)))))
      (λ l. rw (le-ltb g.due u l, ne_eqb g.due u (λ e. o (inl e))))

  pub new_leads : (a : ℕ) (gs : List Group) → (At u gs → ⊥) → Dist (a ∷ leaders gs) → behind (spot (suc u) a gs) x a (leaders gs) ≡ leaders (last_at x u gs)
  new_leads a [] o d = rw (eq-eqb a a refl)
  new_leads a (g ∷ gs) o d =
      below g.due u
      (λ l.
      let e : spot (suc u) a (g ∷ gs) ≡ spot (suc u) g.leader gs = rw (lt-ltb g.due (suc u) (omega arith)) in
      ap (λ (v : ℕ). behind v x a (leaders (g ∷ gs))) e ∙
      rw (lt-ltb g.due u l, ne_eqb a (spot (suc u) g.leader gs) (λ e. d.0 (subst (λ (v : ℕ). In v (leaders (g ∷ gs))) (sym e) (spot_on (suc u) g.leader gs))))
      (ap (λ (k : List ℕ). g.leader ∷ k) (new_leads g.leader gs (λ i. o (inr i)) d.1)))
      (λ l. let n : g.due ≢ u = λ e. o (inl e) in
      let e : spot (suc u) a (g ∷ gs) ≡ a = rw (le-ltb g.due (suc u) (omega arith)) in
      ap (λ (v : ℕ). behind v x a (leaders (g ∷ gs))) e ∙
      rw (le-ltb g.due u l, ne_eqb g.due u n) (behind_head a x (g.leader ∷ leaders gs)))

  pub new_loops : (S P : ℕ → ℕ) (gs : List Group) → (At u gs → ⊥) → Loops S P gs → S x ≡ x → P x ≡ x → Loops S P (last_at x u gs)
  new_loops S P [] o c s p = (record { next = s; prev = p }, tt)
  new_loops S P (g ∷ gs) o c s p =
      below g.due u
      (λ l. rw (lt-ltb g.due u l) (c.0, new_loops S P gs (λ i. o (inr i)) c.1 s p))
      (λ l. rw (le-ltb g.due u l, ne_eqb g.due u (λ e. o (inl e))) (record { next = s; prev = p }, c))
