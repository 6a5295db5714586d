-- The judge's tests of single places: their clauses and what they mean; times along the rings.
use Rattle.std.specs.Prelude.{ℕ, zero, suc, ◌<◌, ◌≤◌, ◌≡◌, ◌≢◌, true, false, List, [], ◌∷◌, eqb, ltb, get_or}
use Rattle.std.proofs.Math.Path.{refl}
use Rattle.std.proofs.Common.{sym, ap, ◌∙◌, inl, inr, ⊎_elim, arith}
use borrow.Author.Tests.{eq-eqb, ne_eqb, lt-ltb, le-ltb, le-leb, lt-leb, ltb-true}
use Rattle.model.specs.Counts.{limit}
use Rattle.ring_laws.specs.Lists.{In, decide, below, test, clash}
use Rattle.ring_laws.specs.Distinct.{Dist, dist_append}
use Rattle.ring_laws.specs.Chain.{Chain, next_in_lem}
use Rattle.ring_laws.specs.Unique.{dist_chain}
use Rattle.ring_laws.specs.Judge.{idle}
use Rattle.axis_laws.specs.Marks.{mark_fine}
use Rattle.axis_laws.specs.Notices.{due_of}
use Rattle.axis_laws.specs.Groups.{Group, spelled_out, members, leaders, Above, Rising}
use Rattle.axis_laws.specs.Outs.{lead_in, which, own_in, later_in, later_dist}
use Rattle.axis_laws.specs.Loops.{Loops, neighbours}
use Rattle.axis_laws.specs.Search.{due_later, due_own}
use Rattle.axis_laws.specs.Judge.{notice_fine, notices_fine}
use Rattle.axis_laws.specs.Rounds.{Owns}

-- ---- a place

module _ (S R Q : ℕ → ℕ) (h : ℕ) (times : List ℕ) (y : ℕ) where
  abbrev T : ℕ → ℕ
  T z = get_or times z 0

  pub notice_idle : idle R Q y ≡ true → notice_fine S R Q h times y ≡ eqb (get_or times y 0) 0
  unfolding notice_fine
  notice_idle e = rw e

  pub notice_over : idle R Q y ≡ false → limit < get_or times y 0 → notice_fine S R Q h times y ≡ false
  unfolding notice_fine
  notice_over e l = rw (e, lt-ltb limit (T y) l)

  pub notice_apart : idle R Q y ≡ false → get_or times y 0 ≤ limit → get_or times (R y) 0 ≢ get_or times y 0 → notice_fine S R Q h times y ≡ false
  unfolding notice_fine
  notice_apart e l n = rw (e, le-ltb limit (T y) l, ne_eqb (T (R y)) (T y) n)

  pub notice_other : idle R Q y ≡ false → get_or times y 0 ≤ limit → get_or times (R y) 0 ≡ get_or times y 0 → S y ≡ 0 → notice_fine S R Q h times y ≡ true
  unfolding notice_fine
  notice_other e l q z = rw (e, le-ltb limit (T y) l, eq-eqb (T (R y)) (T y) q, eq-eqb (S y) 0 z)

  pub notice_last : idle R Q y ≡ false → get_or times y 0 ≤ limit → get_or times (R y) 0 ≡ get_or times y 0 → S y ≢ 0 → h ≤ S y → notice_fine S R Q h times y ≡ true
  unfolding notice_fine
  notice_last e l q n g = rw (e, le-ltb limit (T y) l, eq-eqb (T (R y)) (T y) q, ne_eqb (S y) 0 n, le-leb h (S y) g)

  pub notice_rise : idle R Q y ≡ false → get_or times y 0 ≤ limit → get_or times (R y) 0 ≡ get_or times y 0 → S y ≢ 0 → S y < h
      → notice_fine S R Q h times y ≡ ltb (get_or times y 0) (get_or times (S y) 0)
  unfolding notice_fine
  notice_rise e l q n g = rw (e, le-ltb limit (T y) l, eq-eqb (T (R y)) (T y) q, ne_eqb (S y) 0 n, lt-leb h (S y) g)

  -- what it says of a place that is not idle
  pub record Timely : Type 0 where
    pub within : get_or times y 0 ≤ limit
    pub same : get_or times (R y) 0 ≡ get_or times y 0
    pub rise : S y ≢ 0 → S y < h → get_or times y 0 < get_or times (S y) 0

  pub notice_mean : idle R Q y ≡ false → notice_fine S R Q h times y ≡ true → Timely
  notice_mean e f =
      below limit (T y)
      (λ o. clash (sym (notice_over e o) ∙ f))
      (λ l. decide (T (R y)) (T y)
      (λ q. record { within = l; same = q; rise = λ n g. ltb-true (T y) (T (S y)) (sym (notice_rise e l q n g) ∙ f) })
      (λ n. clash (sym (notice_apart e l n) ∙ f)))

  pub mean_notice : idle R Q y ≡ false → Timely → notice_fine S R Q h times y ≡ true
  mean_notice e t =
      decide (S y) 0
      (λ z. notice_other e t.within t.same z)
      (λ n. below (S y) h
      (λ g. notice_rise e t.within t.same n g ∙ lt-ltb (T y) (T (S y)) (t.rise n g))
      (λ g. notice_last e t.within t.same n g))

-- ---- all places

module _ (S R Q : ℕ → ℕ) (h : ℕ) (times marks : List ℕ) where
  pub timeline_none : notices_fine S R Q h times marks 0 ≡ true
  unfolding notices_fine
  timeline_none = refl

  pub timeline_time : (i : ℕ) → notice_fine S R Q h times (suc i) ≡ false → notices_fine S R Q h times marks (suc i) ≡ false
  unfolding notices_fine
  timeline_time i e = rw e

  pub timeline_mark : (i : ℕ) → notice_fine S R Q h times (suc i) ≡ true → mark_fine R Q marks (suc i) ≡ false → notices_fine S R Q h times marks (suc i) ≡ false
  unfolding notices_fine
  timeline_mark i e f = rw (e, f)

  pub timeline_on : (i : ℕ) → notice_fine S R Q h times (suc i) ≡ true → mark_fine R Q marks (suc i) ≡ true
      → notices_fine S R Q h times marks (suc i) ≡ notices_fine S R Q h times marks i
  unfolding notices_fine
  timeline_on i e f = rw (e, f)

  pub notices_mean : (i y : ℕ) → notices_fine S R Q h times marks i ≡ true → 0 < y → y ≤ i → (notice_fine S R Q h times y ≡ true) × (mark_fine R Q marks y ≡ true)
  notices_mean zero y e a b = absurd (none a b)
    where
      none : 0 < y → y ≤ 0 → ⊥
      none a b = omega arith
  notices_mean (suc i) y e a b =
      test (notice_fine S R Q h times (suc i))
      (λ t. test (mark_fine R Q marks (suc i))
      (λ k. decide y (suc i)
      (λ q. (ap (notice_fine S R Q h times) q ∙ t, ap (mark_fine R Q marks) q ∙ k))
      (λ q. notices_mean i y (sym (timeline_on i t k) ∙ e) a (omega arith)))
      (λ k. clash (sym (timeline_mark i t k) ∙ e)))
      (λ t. clash (sym (timeline_time i t) ∙ e))

  pub mean_notices : (i : ℕ) → ((y : ℕ) → 0 < y → y ≤ i → (notice_fine S R Q h times y ≡ true) × (mark_fine R Q marks y ≡ true))
      → notices_fine S R Q h times marks i ≡ true
  mean_notices zero f = timeline_none
  mean_notices (suc i) f =
      let b = f (suc i) (omega arith) (omega arith) in
      timeline_on i b.0 b.1 ∙ mean_notices i (λ y a l. f y a (omega arith))

-- ---- times along the rings

module _ (times : List ℕ) where
  -- all of one ring have one time
  chain_times : (R Q : ℕ → ℕ) (a : ℕ) (l : List ℕ) (b : ℕ) → Chain R Q a l b → ((y : ℕ) → In y (a ∷ l) → get_or times (R y) 0 ≡ get_or times y 0)
      → (y : ℕ) → In y (a ∷ l) → get_or times y 0 ≡ get_or times a 0
  chain_times R Q a [] b c f y (inl e) = ap (λ (j : ℕ). get_or times j 0) e
  chain_times R Q a [] b c f y (inr i) = absurd i
  chain_times R Q a (z ∷ l) b c f y (inl e) = ap (λ (j : ℕ). get_or times j 0) e
  chain_times R Q a (z ∷ l) b c f y (inr i) =
      chain_times R Q z l b c.1 (λ w j. f w (inr j)) y i ∙ ap (λ (j : ℕ). get_or times j 0) (sym c.0.next) ∙ f a (inl refl)

  -- the table has each group's time at all of its places
  abbrev pub Dated : List Group → Type 0
  Dated [] = Unit {0}
  Dated (g ∷ gs) = ((y : ℕ) → In y (g.leader ∷ g.others) → get_or times y 0 ≡ g.due) × Dated gs

  pub dated : (R Q : ℕ → ℕ) (hi : ℕ) (gs : List Group) → Loops R Q gs → Owns hi (λ y. get_or times y 0) gs
      → ((y : ℕ) → In y (members gs) → get_or times (R y) 0 ≡ get_or times y 0) → Dated gs
  dated R Q hi [] l o f = tt
  dated R Q hi (g ∷ gs) l o f = (
    λ y i. chain_times R Q g.leader g.others g.leader l.0 (λ w j. f w (own_in w g gs j)) y i ∙ sym o.0.due_is,
    dated R Q hi gs l.1 o.1 (λ y i. f y (later_in y g gs i)),
  )

  later_above : (t : ℕ) (gs : List Group) (y : ℕ) → Above t gs → Dated gs → In y (members gs) → t < get_or times y 0
  later_above t [] y a d i = absurd i
  later_above t (g ∷ gs) y a d i =
      which y g gs i (λ own. omega (arith, a.0, d.0 y own)) (λ later. later_above t gs y a.1 d.1 later)

  -- so no place stands at two times
  pub once_of : (R Q : ℕ → ℕ) (hi : ℕ) (gs : List Group) → Rising gs → Dated gs → Loops R Q gs → Owns hi (λ y. get_or times y 0) gs → Dist (members gs)
  once_of R Q hi [] r d l o = tt
  once_of R Q hi (g ∷ gs) r d l o =
      dist_append (g.leader ∷ g.others) (members gs)
      (o.0.apart, dist_chain R Q g.leader g.others g.leader l.0 o.0.apart) (once_of R Q hi gs r.1 d.1 l.1 o.1)
      (λ y i j. omega (arith, later_above g.due gs y r.0 d.1 j, d.0 y i))

  pub due_dated : (gs : List Group) (y : ℕ) → Dist (members gs) → Dated gs → In y (members gs) → get_or times y 0 ≡ due_of y (spelled_out gs)
  due_dated [] y d t i = absurd i
  due_dated (g ∷ gs) y d t i =
      which y g gs i
      (λ own. t.0 y own ∙ sym (due_own g gs y own))
      (λ later. due_dated gs y (later_dist g gs d) t.1 later ∙ sym (due_later g gs y d later))

  -- times that rise from leader to leader are strictly rising
  least : (S P : ℕ → ℕ) (h a : ℕ) (l : List ℕ) → Chain S P a l h → (In h l → ⊥) → ((y : ℕ) → In y (a ∷ l) → S y ≢ h → get_or times y 0 < get_or times (S y) 0)
      → (y : ℕ) → In y l → get_or times a 0 < get_or times y 0
  least S P h a [] c out f y i = absurd i
  least S P h a (z ∷ l) c out f y i =
      let e : S a ≡ z = c.0.next in
      let le : get_or times a 0 < get_or times z 0 = rw e at (f a (inl refl) (λ q. out (inl (sym q ∙ e)))) in
      ⊎_elim
      (λ q. omega (arith, ap (λ (j : ℕ). get_or times j 0) q))
      (λ j. omega (arith, least S P h z l c.1 (λ w. out (inr w)) (λ w k. f w (inr k)) y j))
      i

  above_of : (hi t : ℕ) (gs : List Group) → Owns hi (λ y. get_or times y 0) gs → ((y : ℕ) → In y (leaders gs) → t < get_or times y 0) → Above t gs
  above_of hi t [] o f = tt
  above_of hi t (g ∷ gs) o f = (omega (arith, f g.leader (inl refl), o.0.due_is), above_of hi t gs o.1 (λ y i. f y (inr i)))

  pub rising_of : (S P : ℕ → ℕ) (h hi b : ℕ) (gs : List Group) → Chain S P b (leaders gs) h → (In h (leaders gs) → ⊥)
      → ((y : ℕ) → In y (leaders gs) → S y ≢ h → get_or times y 0 < get_or times (S y) 0) → Owns hi (λ y. get_or times y 0) gs → Rising gs
  rising_of S P h hi b [] c out f o = tt
  rising_of S P h hi b (g ∷ gs) c out f o = (
    above_of hi g.due gs o.1
        (λ y i. omega (arith, o.0.due_is, least S P h g.leader (leaders gs) c.1 (λ w. out (inr w)) f y i)),
    rising_of S P h hi g.leader gs c.1 (λ w. out (inr w)) (λ y i. f y (inr i)) o.1,
  )

-- ---- and back

-- the next of one's time has that time
pub next_due : (R Q : ℕ → ℕ) (gs : List Group) (y : ℕ) → Loops R Q gs → Dist (members gs) → In y (members gs) → due_of (R y) (spelled_out gs) ≡ due_of y (spelled_out gs)
next_due R Q [] y l d i = absurd i
next_due R Q (g ∷ gs) y l d i =
    which y g gs i
    (λ own.
    let n : In (R y) (g.leader ∷ g.others) = ⊎_elim (λ j. inr j) (λ e. inl e) (next_in_lem R Q g.leader g.others g.leader y l.0 own) in
    due_own g gs (R y) n ∙ sym (due_own g gs y own))
    (λ later.
    let n : In (R y) (members gs) = (neighbours R Q gs y l.1 later).next_in_lem in
    due_later g gs (R y) d n ∙ next_due R Q gs y l.1 (later_dist g gs d) later ∙ sym (due_later g gs y d later))

-- a leader's time is below the next one's
pub lead_rise : (S P : ℕ → ℕ) (h b : ℕ) (gs : List Group) (y : ℕ) → Chain S P b (leaders gs) h → Rising gs → Dist (members gs) → In y (leaders gs) → S y ≢ h
    → due_of y (spelled_out gs) < due_of (S y) (spelled_out gs)
lead_rise S P h b [] y c r d i n = absurd i
lead_rise S P h b (g ∷ []) y c r d (inl e) n = absurd (n (ap S e ∙ c.1.next))
lead_rise S P h b (g ∷ []) y c r d (inr i) n = absurd i
lead_rise S P h b (g ∷ k ∷ gs) y c r d (inl e) n =
    let q : S y ≡ k.leader = ap S e ∙ c.1.0.next in
    let own : due_of y (spelled_out (g ∷ k ∷ gs)) ≡ g.due = due_own g (k ∷ gs) y (inl e) in
    let next : due_of (S y) (spelled_out (g ∷ k ∷ gs)) ≡ k.due =
    ap (λ (j : ℕ). due_of j (spelled_out (g ∷ k ∷ gs))) q ∙ due_later g (k ∷ gs) k.leader d (inl refl) ∙ due_own k gs k.leader (inl refl) in
    omega (arith, r.0.0)
lead_rise S P h b (g ∷ k ∷ gs) y c r d (inr i) n =
    let sy : In (S y) (leaders (k ∷ gs)) =
    ⊎_elim (λ j. j) (λ e. absurd (n e)) (next_in_lem S P g.leader (leaders (k ∷ gs)) h y c.1 (inr i)) in
    omega (
      arith,
      lead_rise S P h g.leader (k ∷ gs) y c.1 r.1 (later_dist g (k ∷ gs) d) i n,
      due_later g (k ∷ gs) y d (lead_in y (k ∷ gs) i),
      due_later g (k ∷ gs) (S y) d (lead_in (S y) (k ∷ gs) sy),
    )
