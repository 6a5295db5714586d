-- Reading the tables: current, its time, the next notice, whether there is a second.
use Rattle.std.specs.Prelude.{ℕ, suc, ◌-◌, ◌<◌, ◌≡◌, refl, ◌≢◌, ◌⊎◌, true, false, not, List, [], ◌∷◌, ◌++◌, eqb, length, if◌then◌else◌}
use Rattle.std.proofs.Math.Path.{sym}
use Rattle.std.proofs.Common.{ap, ◌∙◌, subst, inl, inr, ⊎_elim, append_assoc, arith, eq-eqb, ne_eqb}
use Rattle.std.proofs.Math.ListN.{get_or}
use Rattle.ring_laws.specs.Lists.{In}
use Rattle.ring_laws.specs.Distinct.{Dist, in_left, in_right}
use Rattle.ring_laws.specs.Chain.{Chain}
use Rattle.ring_laws.specs.Stores.{sucs, pres, suc_at}
use Rattle.model.specs.declared.Counts.{Counts}
use Rattle.axis_laws.specs.Notices.{Notice}
use Rattle.axis_laws.specs.Orders.{Next}
use Rattle.axis_laws.specs.Groups.{Group, together, spelled_out, members, leaders}
use Rattle.axis_laws.specs.Outs.{lead_in, own_not_later, later_dist}
use Rattle.axis_laws.specs.Loops.{Loops, neighbours}
use Rattle.axis_laws.specs.Lowered.{lowered}
use Rattle.axis_laws.specs.Timeline.{Timeline, SpellsGroups, first_of, time_of, next_of, lone}
use Rattle.axis_laws.specs.Ticks.{in_m, lead_off, lead_busy, lead_zero, lead_chain, lead_big, peer_at}
use Rattle.axis_laws.specs.NoticesSpelled.{half, SpellsNotices, times_at}

-- ---- the next notice, over the two successors: S of times, R of processes of one time

module _ (S P R Q : ℕ → ℕ) where
  abbrev follows : ℕ → ℕ
  follows y = if not (eqb (S (R y)) 0) then S (R y) else R y

  -- within one time, up to the next one's first, f
  peer_follows : (h f a : ℕ) (l rest : List ℕ) (x y : ℕ) → Chain R Q a l h → S h ≡ f → S h ≢ 0 → ((z : ℕ) → In z l → S z ≡ 0)
      → Next x y (a ∷ (l ++ (f ∷ rest))) → (follows x ≡ y) ⊎ Next x y (f ∷ rest)
  peer_follows h f a [] rest x y c e n z (inl q) =
      let r : R x ≡ h = ap R (sym q.0) ∙ c.next in
      inl (rw (r, ne_eqb (S h) 0 n) (e ∙ q.1))
  peer_follows h f a [] rest x y c e n z (inr k) = inr k
  peer_follows h f a (w ∷ l) rest x y c e n z (inl q) =
      let r : R x ≡ w = ap R (sym q.0) ∙ c.0.next in
      inl (rw (r, eq-eqb (S w) 0 (z w (inl refl))) q.1)
  peer_follows h f a (w ∷ l) rest x y c e n z (inr k) = peer_follows h f w l rest x y c.1 e n (λ v i. z v (inr i)) k

  pub all_follow : (gs : List Group) (b e x y : ℕ) → Chain S P b (leaders gs) e → Loops R Q gs → Dist (members gs)
      → ((h : ℕ) → In h (leaders gs) → S h ≢ 0) → ((z : ℕ) → In z (members gs) → (In z (leaders gs) → ⊥) → S z ≡ 0)
      → Next x y (members gs ++ (e ∷ [])) → follows x ≡ y
  all_follow [] b e x y c r d n z k = absurd k
  all_follow (g ∷ []) b e x y c r d n z k =
      ⊎_elim
      (λ q. q)
      (λ j. absurd j)
      (peer_follows g.leader e g.leader g.others [] x y r.0 c.1.next (n g.leader (inl refl))
      (λ v i. z v (inr (in_left v g.others [] i)) (⊎_elim (λ q. d.0 (rw q at (in_left v g.others [] i))) (λ j. j)))
      (rw (append_assoc g.others [] (e ∷ [])) at k))
  all_follow (g ∷ k ∷ ks) b e x y c r d n z nx =
      ⊎_elim
      (λ q. q)
      (λ j. all_follow (k ∷ ks) g.leader e x y c.1 r.1 (later_dist g (k ∷ ks) d) (λ h i. n h (inr i))
      (λ v i o. z v (inr (in_right v g.others (members (k ∷ ks)) i))
      (⊎_elim (λ q. own_not_later v g (k ∷ ks) d (inl q) i) o))
      j)
      (peer_follows g.leader k.leader g.leader g.others ((k.others ++ members ks) ++ (e ∷ [])) x y r.0 c.1.0.next (n g.leader (inl refl))
      (λ v i. z v (inr (in_left v g.others (members (k ∷ ks)) i))
      (⊎_elim
      (λ q. d.0 (rw q at (in_left v g.others (members (k ∷ ks)) i)))
      (λ l. own_not_later v g (k ∷ ks) d (inr i) (lead_in v (k ∷ ks) l))))
      (rw (append_assoc g.others (members (k ∷ ks)) (e ∷ [])) at nx))

-- ---- on the tables

next_first : (x y : ℕ) (l : List ℕ) (e : ℕ) → Next x y (l ++ (e ∷ [])) → In x l
next_first x y [] e k = absurd k
next_first x y (z ∷ []) e (inl q) = inl (sym q.0)
next_first x y (z ∷ []) e (inr k) = absurd k
next_first x y (z ∷ w ∷ l) e (inl q) = inl (sym q.0)
next_first x y (z ∷ w ∷ l) e (inr k) = inr (next_first x y (w ∷ l) e k)

module _ (m : ℕ) (gs : List Group) (a : Timeline) (sp : SpellsGroups m gs a) where
  -- "the next notice after x": y stands right behind x where all are spelled out, and the head behind the last
  pub next_is : (x y : ℕ) → 1 < m → Next x y (members gs ++ ((m - 1) ∷ [])) → next_of a x ≡ y
  unfolding next_of
  next_is x y big k =
      let i : In x (members gs) = next_first x y (members gs) (m - 1) k in
      let R = sucs m a.peers in
      let S = sucs m a.ticks in
      let j : In (R x) (members gs) = (neighbours R (pres m a.peers) gs x sp.peers.loops i).next_in_lem in
      let s : get_or a.ticks (R x) 0 ≡ S (R x) = sym (suc_at m a.ticks (R x) (in_m m gs a sp (R x) j).1) in
      rw (peer_at m gs a sp x i, s)
      (all_follow S (pres m a.ticks) R (pres m a.peers) gs (m - 1) (m - 1) x y (lead_chain m gs a sp big) sp.peers.loops sp.once
      (λ h l e. lead_busy m gs a sp h l (sym (suc_at m a.ticks h (omega (arith, lead_off m gs a sp h l))) ∙ e))
      (λ z l o. let b = sp.place z l in suc_at m a.ticks z (omega (arith, b.1)) ∙ lead_zero m gs a sp z b.0 b.1 o) k)

module _ (m : ℕ) (g : Group) (gs : List Group) (a : Timeline) (sp : SpellsGroups m (g ∷ gs) a) where
  big : 1 < m
  big = lead_big m (g ∷ gs) a sp g.leader (inl refl)

  pub first_leads : first_of m a ≡ g.leader
  first_leads = sym (suc_at m a.ticks (m - 1) (omega (arith, big))) ∙ (lead_chain m (g ∷ gs) a sp big).0.next

  pub first_peer : (l : List ℕ) → g.others ≡ l → Chain (sucs m a.peers) (pres m a.peers) g.leader l g.leader
  first_peer l e = subst (λ (k : List ℕ). Chain (sucs m a.peers) (pres m a.peers) g.leader k g.leader) e sp.peers.loops.0

  peer_lead : get_or a.peers g.leader 0 ≡ sucs m a.peers g.leader
  peer_lead = peer_at m (g ∷ gs) a sp g.leader (inl refl)

  ticks_lead : get_or a.ticks g.leader 0 ≡ sucs m a.ticks g.leader
  ticks_lead = sym (suc_at m a.ticks g.leader (in_m m (g ∷ gs) a sp g.leader (inl refl)).1)

  -- alone at its time, or not
  pub first_alone : g.others ≡ [] → get_or a.peers (first_of m a) 0 ≡ first_of m a
  first_alone e = rw first_leads (peer_lead ∙ (first_peer [] e).next)

  pub first_more : (y : ℕ) (l : List ℕ) → g.others ≡ y ∷ l → get_or a.peers (first_of m a) 0 ≢ first_of m a
  first_more y l e =
      rw first_leads
      (λ q.
      let w : g.leader ≡ y = sym q ∙ peer_lead ∙ (first_peer (y ∷ l) e).0.next in
      sp.once.0 (in_left g.leader g.others (members gs) (rw e (inl w))))

  -- there is a next time, or not
  pub first_last : gs ≡ [] → get_or a.ticks (first_of m a) 0 ≡ m - 1
  first_last e =
      rw first_leads
      (ticks_lead ∙ (subst (λ (k : List Group). Chain (sucs m a.ticks) (pres m a.ticks) g.leader (leaders k) (m - 1)) e (lead_chain m (g ∷ gs) a sp big).1).next)

  pub first_not_last : (k : Group) (ks : List Group) → gs ≡ k ∷ ks → get_or a.ticks (first_of m a) 0 ≡ k.leader
  first_not_last k ks e =
      rw first_leads
      (ticks_lead ∙ (subst (λ (j : List Group). Chain (sucs m a.ticks) (pres m a.ticks) g.leader (leaders j) (m - 1)) e (lead_chain m (g ∷ gs) a sp big).1).0.next)

  pub lone_yes : g.others ≡ [] → gs ≡ [] → lone m a ≡ true
  unfolding lone
  lone_yes e f = rw (eq-eqb (get_or a.peers (first_of m a) 0) (first_of m a) (first_alone e)) (eq-eqb (get_or a.ticks (first_of m a) 0) (m - 1) (first_last f))

  pub lone_others : (y : ℕ) (l : List ℕ) → g.others ≡ y ∷ l → lone m a ≡ false
  unfolding lone
  lone_others y l e = rw (ne_eqb (get_or a.peers (first_of m a) 0) (first_of m a) (first_more y l e))

  pub lone_later : (k : Group) (ks : List Group) → g.others ≡ [] → gs ≡ k ∷ ks → lone m a ≡ false
  unfolding lone
  lone_later k ks e f =
      let b = sp.place k.leader (later (rw f (inl refl))) in
      rw (eq-eqb (get_or a.peers (first_of m a) 0) (first_of m a) (first_alone e))
      (ne_eqb (get_or a.ticks (first_of m a) 0) (m - 1) (λ q. omega (arith, sym (first_not_last k ks f) ∙ q, b.1)))
    where
      later : In k.leader (members gs) → In k.leader (members (g ∷ gs))
      later i = in_right k.leader (g.leader ∷ g.others) (members gs) i

-- ---- by the list of notices

-- current and its time
pub current_is : (c : Counts) (n : Notice) (ns : List Notice) (a : Timeline) → SpellsNotices c (n ∷ ns) a → first_of (half c) a ≡ n.who - c.heads
current_is c n ns a sp = go sp.groups sp.out sp.spelled
  where
    go : (gs : List Group) → spelled_out gs ≡ lowered c.heads (n ∷ ns) → SpellsGroups (half c) gs a → first_of (half c) a ≡ n.who - c.heads
    go [] e s = absurd (differ (ap length e))
      where
        differ : ◌≡◌ {A = ℕ} 0 (suc (length (lowered c.heads ns))) → ⊥
        differ z = omega arith
    go (g ∷ gs) e s = first_leads (half c) g gs a s ∙ ap (λ (l : List Notice). head l) e
      where
        head : List Notice → ℕ
        head [] = 0
        head (k ∷ l) = k.who

pub time_is : (c : Counts) (n : Notice) (ns : List Notice) (a : Timeline) → SpellsNotices c (n ∷ ns) a → time_of (half c) a ≡ n.due
time_is c n ns a sp =
    ap (λ (j : ℕ). get_or a.times j 0) (current_is c n ns a sp)
    ∙ times_at c (n ∷ ns) a sp n.who (sp.over n.who (inl refl)) ∙ (rw (eq-eqb n.who n.who refl))

-- lists of other lengths
none : {A : Type 0} (k : ℕ) → 0 ≡ suc k → A
none k z = absurd (go z)
  where
    go : 0 ≡ suc k → ⊥
    go z = omega arith

one : {A : Type 0} (k : ℕ) → 1 ≡ suc (suc k) → A
one k z = none k (omega arith)

two : {A : Type 0} (k : ℕ) → suc (suc k) ≡ 1 → A
two k z = none k (omega arith)

-- a second notice, or none
pub lone_one : (c : Counts) (n : Notice) (a : Timeline) → SpellsNotices c (n ∷ []) a → lone (half c) a ≡ true
lone_one c n a sp = go sp.groups (ap length sp.out) sp.spelled
  where
    go : (gs : List Group) → length (spelled_out gs) ≡ 1 → SpellsGroups (half c) gs a → lone (half c) a ≡ true
    go [] e s = absurd (differ e)
      where
        differ : ◌≡◌ {A = ℕ} 0 1 → ⊥
        differ z = omega arith
    go (g ∷ gs) e s = by g.others gs refl refl e
      where
        by : (l : List ℕ) (ks : List Group) → g.others ≡ l → gs ≡ ks → suc (length (together g.due l ++ spelled_out ks)) ≡ 1 → lone (half c) a ≡ true
        by [] [] p q e = lone_yes (half c) g gs a s p q
        by [] (k ∷ ks) p q e = two (length (together k.due k.others ++ spelled_out ks)) e
        by (y ∷ l) ks p q e = two (length (together g.due l ++ spelled_out ks)) e

pub lone_more : (c : Counts) (n k : Notice) (ns : List Notice) (a : Timeline) → SpellsNotices c (n ∷ k ∷ ns) a → lone (half c) a ≡ false
lone_more c n k ns a sp = go sp.groups (ap length sp.out) sp.spelled
  where
    go : (gs : List Group) → length (spelled_out gs) ≡ suc (suc (length (lowered c.heads ns))) → SpellsGroups (half c) gs a → lone (half c) a ≡ false
    go [] e s = none (suc (length (lowered c.heads ns))) e
    go (g ∷ gs) e s = by g.others gs refl refl e
      where
        by : (l : List ℕ) (ks : List Group) → g.others ≡ l → gs ≡ ks
            → suc (length (together g.due l ++ spelled_out ks)) ≡ suc (suc (length (lowered c.heads ns))) → lone (half c) a ≡ false
        by [] [] p q e = one (length (lowered c.heads ns)) e
        by [] (j ∷ js) p q e = lone_later (half c) g gs a s j js p q
        by (y ∷ l) ks p q e = lone_others (half c) g gs a s y l p
