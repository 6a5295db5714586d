-- Tables spell one list of notices, and a list has one model's tables.
use Rattle.std.specs.Prelude.{ℕ, suc, ◌+◌, ◌-◌, ◌≡◌, refl, ◌⊎◌, List, [], ◌∷◌, length, get_or}
use Rattle.std.proofs.Common.{sym, ap, ◌∙◌, subst, inl, inr, ⊎_elim, arith, ext_get_or}
use Rattle.ring_laws.specs.Lists.{In, below, inside}
use Rattle.ring_laws.specs.Distinct.{Dist}
use Rattle.ring_laws.specs.Chain.{Chain}
use Rattle.ring_laws.specs.Unique.{same_chain}
use Rattle.ring_laws.specs.Stores.{sucs, pres, suc_at}
use Rattle.ring_laws.specs.Spell.{spells_one}
use Rattle.ring_laws.specs.OneTable.{one_table}
use Rattle.model.specs.declared.Counts.{Counts}
use Rattle.axis_laws.specs.Notices.{Notice, due_of}
use Rattle.axis_laws.specs.AxisRing.{axis_head}
use Rattle.axis_laws.specs.AxisRing.{axis_head_lem}
use Rattle.axis_laws.specs.Groups.{Group, group, spelled_out, members, leaders}
use Rattle.axis_laws.specs.Outs.{which, own_in, later_in, later_dist, own_dist}
use Rattle.axis_laws.specs.Search.{due_own, due_later}
use Rattle.axis_laws.specs.Loops.{Loops}
use Rattle.axis_laws.specs.NoticeTests.{Dated}
use Rattle.axis_laws.specs.Lowered.{low_one}
use Rattle.axis_laws.specs.Timeline.{Timeline, SpellsPeers, SpellsGroups}
use Rattle.axis_laws.specs.NoticesSpelled.{half, SpellsNotices, groups_are, times_listed}

-- ---- one list

spelled_dated : (times : List ℕ) (gs : List Group) → Dist (members gs) → ((y : ℕ) → In y (members gs) → get_or times y 0 ≡ due_of y (spelled_out gs)) → Dated times gs
spelled_dated times [] d f = tt
spelled_dated times (g ∷ gs) d f = (
  λ y i. f y (own_in y g gs i) ∙ due_own g gs y i,
  spelled_dated times gs (later_dist g gs d) (λ y i. f y (later_in y g gs i) ∙ due_later g gs y d i),
)

abbrev head : List ℕ → ℕ
head [] = 0
head (x ∷ l) = x

abbrev tail : List ℕ → List ℕ
tail [] = []
tail (x ∷ l) = l

module _ (R Q : ℕ → ℕ) (times : List ℕ) where
  same_groups : (gs ks : List Group) → leaders gs ≡ leaders ks → Loops R Q gs → Loops R Q ks → Dist (members gs) → Dist (members ks) → Dated times gs → Dated times ks → gs ≡ ks
  same_groups [] [] e l l' d d' t t' = refl
  same_groups [] (k ∷ ks) e l l' d d' t t' = absurd (differ (ap length e))
    where
      differ : 0 ≡ suc (length (leaders ks)) → ⊥
      differ z = omega arith
  same_groups (g ∷ gs) [] e l l' d d' t t' = absurd (differ (ap length e))
    where
      differ : suc (length (leaders gs)) ≡ 0 → ⊥
      differ z = omega arith
  same_groups (g ∷ gs) (k ∷ ks) e l l' d d' t t' =
      let h : g.leader ≡ k.leader = ap head e in
      let u : g.due ≡ k.due = sym (t.0 g.leader (inl refl)) ∙ ap (λ (j : ℕ). get_or times j 0) h ∙ t'.0 k.leader (inl refl) in
      let o : g.others ≡ k.others =
      same_chain R Q g.leader g.others k.others g.leader l.0
      (subst (λ (j : ℕ). Chain R Q j k.others j) (sym h) l'.0)
      (own_dist g gs d).0 (λ i. (own_dist k ks d').0 (subst (λ (j : ℕ). In j k.others) h i)) in
      let r = same_groups gs ks (ap tail e) l.1 l'.1 (later_dist g gs d) (later_dist k ks d') t.1 t'.1 in
      λ i. group (u i) (h i) (o i) ∷ r i

pub notices_only : (c : Counts) (ns ks : List Notice) (a : Timeline) → SpellsNotices c ns a → SpellsNotices c ks a → ns ≡ ks
notices_only c ns ks a s u =
    let m = half c in
    let gs = s.groups in
    let hs = u.groups in
    let e : leaders gs ≡ leaders hs =
    spells_one m (axis_head m) (λ h. leaders gs) (λ h. leaders hs) a.ticks s.spelled.ticks u.spelled.ticks (c.processes + 1) (axis_head_lem c.processes) in
    let q : gs ≡ hs =
    same_groups (sucs m a.peers) (pres m a.peers) a.times gs hs e s.spelled.peers.loops u.spelled.peers.loops s.spelled.once u.spelled.once
    (spelled_dated a.times gs s.spelled.once (λ y i. s.spelled.timed y)) (spelled_dated a.times hs u.spelled.once (λ y i. u.spelled.timed y)) in
    low_one c.heads ns ks s.over u.over (sym s.out ∙ ap spelled_out q ∙ u.out)

-- ---- one table

module _ (R Q R' Q' : ℕ → ℕ) where
  same_next : (a : ℕ) (l : List ℕ) (b y : ℕ) → Chain R Q a l b → Chain R' Q' a l b → In y (a ∷ l) → R y ≡ R' y
  same_next a [] b y c c' (inl e) = ap R e ∙ c.next ∙ sym c'.next ∙ ap R' (sym e)
  same_next a [] b y c c' (inr k) = absurd k
  same_next a (z ∷ l) b y c c' (inl e) = ap R e ∙ c.0.next ∙ sym c'.0.next ∙ ap R' (sym e)
  same_next a (z ∷ l) b y c c' (inr k) = same_next z l b y c.1 c'.1 k

  same_prev : (a : ℕ) (l : List ℕ) (b y : ℕ) → Chain R Q a l b → Chain R' Q' a l b → In y l ⊎ (y ≡ b) → Q y ≡ Q' y
  same_prev a [] b y c c' (inl k) = absurd k
  same_prev a [] b y c c' (inr e) = ap Q e ∙ c.prev ∙ sym c'.prev ∙ ap Q' (sym e)
  same_prev a (z ∷ l) b y c c' (inl (inl e)) = ap Q e ∙ c.0.prev ∙ sym c'.0.prev ∙ ap Q' (sym e)
  same_prev a (z ∷ l) b y c c' (inl (inr k)) = same_prev z l b y c.1 c'.1 (inl k)
  same_prev a (z ∷ l) b y c c' (inr e) = same_prev z l b y c.1 c'.1 (inr e)

  same_loops : (gs : List Group) (y : ℕ) → Loops R Q gs → Loops R' Q' gs → In y (members gs) → (R y ≡ R' y) × (Q y ≡ Q' y)
  same_loops [] y l l' i = absurd i
  same_loops (g ∷ gs) y l l' i =
      which y g gs i
      (λ own. (
        same_next g.leader g.others g.leader y l.0 l'.0 own,
        same_prev g.leader g.others g.leader y l.0 l'.0 (⊎_elim (λ e. inr e) (λ j. inl j) own),
      ))
      (λ later. same_loops gs y l.1 l'.1 later)

peers_only : (m : ℕ) (gs : List Group) (t u : List ℕ) → SpellsPeers m gs t → SpellsPeers m gs u → t ≡ u
peers_only m gs t u s w =
    ext_get_or 0 t u (s.two ∙ sym w.two)
    (λ i l. below i m
    (λ b. sym (suc_at m t i b) ∙ (at i).0 ∙ suc_at m u i b)
    (λ b. let q : m + (i - m) ≡ i = omega arith in rw q at (at (i - m)).1))
  where
    at : (y : ℕ) → (sucs m t y ≡ sucs m u y) × (pres m t y ≡ pres m u y)
    at y =
        inside y (members gs)
        (λ i. same_loops (sucs m t) (pres m t) (sucs m u) (pres m u) gs y s.loops w.loops i)
        (λ o. let z = s.off y o in let v = w.off y o in (z.0 ∙ sym v.0, z.1 ∙ sym v.1))

pub tables_only : (c : Counts) (ns : List Notice) (a b : Timeline) → SpellsNotices c ns a → SpellsNotices c ns b → a ≡ b
tables_only c ns a b s u =
    let m = half c in
    let q : u.groups ≡ s.groups = groups_are c ns b u ∙ sym (groups_are c ns a s) in
    let v : SpellsGroups m s.groups b = subst (λ (k : List Group). SpellsGroups m k b) q u.spelled in
    let e1 = one_table m (axis_head m) (λ h. leaders s.groups) a.ticks b.ticks s.spelled.ticks v.ticks in
    let e2 = peers_only m s.groups a.peers b.peers s.spelled.peers v.peers in
    let e3 = times_listed c ns a s ∙ sym (times_listed c ns b u) in
    λ i. record { ticks = e1 i; peers = e2 i; times = e3 i }
