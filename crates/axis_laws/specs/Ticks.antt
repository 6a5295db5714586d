-- What tables that spell groups say of a place: whether it leads, who is next, who is alone.
use Rattle.std.specs.Prelude.{ℕ, ◌-◌, ◌<◌, ◌≤◌, ◌≡◌, refl, ◌≢◌, List, [], ◌∷◌, length, get_or}
use Rattle.std.proofs.Common.{sym, ◌∙◌, inl, inr, ⊎_elim, arith, eq-eqb, ne_eqb}
use Rattle.ring_laws.specs.Lists.{In, decide}
use Rattle.ring_laws.specs.Distinct.{Dist, in_left}
use Rattle.ring_laws.specs.Chain.{Chain}
use Rattle.ring_laws.specs.Rings.{Head, Link, next_place_lem}
use Rattle.ring_laws.specs.Stores.{sucs, pres, suc_at}
use Rattle.ring_laws.proofs.Spell.{spells_dist, spells_few}
use Rattle.axis_laws.specs.AxisRing.{axis_head}
use Rattle.axis_laws.specs.Groups.{Group, members, leaders}
use Rattle.axis_laws.specs.Outs.{lead_in, own_not_later, own_in, later_in, later_dist}
use Rattle.axis_laws.specs.Leads.{others_of}
use Rattle.axis_laws.specs.Loops.{loop_of}
use Rattle.axis_laws.specs.Timeline.{Timeline, SpellsGroups}

-- one who stands behind a leader leads none
pub other_member : (h y : ℕ) (gs : List Group) → In h (leaders gs) → In y (others_of h gs) → In y (members gs)
other_member h y [] i j = absurd i
other_member h y (g ∷ gs) i j =
    decide g.leader h
    (λ e. own_in y g gs (inr (rw (eq-eqb g.leader h e) at j)))
    (λ n. later_in y g gs (other_member h y gs (⊎_elim (λ e. absurd (n (sym e))) (λ k. k) i) (rw (ne_eqb g.leader h n) at j)))

pub other_no_lead : (h y : ℕ) (gs : List Group) → Dist (members gs) → In h (leaders gs) → In y (others_of h gs) → In y (leaders gs) → ⊥
other_no_lead h y [] d i j k = k
other_no_lead h y (g ∷ gs) d i j k =
    decide g.leader h
    (λ e.
    let own : In y g.others = rw (eq-eqb g.leader h e) at j in
    ⊎_elim
    (λ q. d.0 (rw (← q) (in_left y g.others (members gs) own)))
    (λ l. own_not_later y g gs d (inr own) (lead_in y gs l))
    k)
    (λ n.
    let i' : In h (leaders gs) = ⊎_elim (λ e. absurd (n (sym e))) (λ l. l) i in
    let j' : In y (others_of h gs) = rw (ne_eqb g.leader h n) at j in
    ⊎_elim
    (λ q. own_not_later y g gs d (inl q) (other_member h y gs i' j'))
    (λ l. other_no_lead h y gs (later_dist g gs d) i' j' l)
    k)

module _ (m : ℕ) (gs : List Group) (a : Timeline) (sp : SpellsGroups m gs a) where
  abbrev S : ℕ → ℕ
  S = sucs m a.ticks

  abbrev P : ℕ → ℕ
  P = pres m a.ticks

  pub in_m : (y : ℕ) → In y (members gs) → (0 < y) × (y < m)
  in_m y i = let b = sp.place y i in (b.0, omega (arith, b.1))

  pub a_head : 1 < m → Head m (axis_head m) (m - 1)
  a_head h = record { some = omega arith; within = omega arith; is = eq-eqb (m - 1) (m - 1) refl }

  pub a_link : (y : ℕ) → 0 < y → y < m - 1 → Link m (axis_head m) y
  a_link y s l = record { some = s; within = omega arith; isn't = ne_eqb y (m - 1) (λ e. omega arith) }

  pub lead_off : (y : ℕ) → In y (leaders gs) → (0 < y) × (y < m - 1)
  lead_off y i = sp.place y (lead_in y gs i)

  pub lead_big : (y : ℕ) → In y (leaders gs) → 1 < m
  lead_big y i = omega (arith, lead_off y i)

  -- who leads has a next time, who does not has none
  pub lead_busy : (y : ℕ) → In y (leaders gs) → get_or a.ticks y 0 ≢ 0
  lead_busy y i e =
      let h = a_head (lead_big y i) in
      let b = next_place_lem m (axis_head m) (λ g. leaders gs) S P sp.ticks.rings (m - 1) y h (inr i) in
      omega (arith, b.0, suc_at m a.ticks y (omega (arith, lead_off y i)))

  pub lead_none : (y : ℕ) → 0 < y → y < m - 1 → (In y (leaders gs) → ⊥) → S y ≡ 0
  lead_none y s l o = ⊎_elim (λ w. absurd (o w.2)) (λ z. z.0) (sp.ticks.rings.whole y (a_link y s l))

  pub lead_zero : (y : ℕ) → 0 < y → y < m - 1 → (In y (leaders gs) → ⊥) → get_or a.ticks y 0 ≡ 0
  lead_zero y s l o = sym (suc_at m a.ticks y (omega arith)) ∙ lead_none y s l o

  pub lead_chain : 1 < m → Chain S P (m - 1) (leaders gs) (m - 1)
  lead_chain h = sp.ticks.rings.ring (m - 1) (a_head h)

  pub leads_dist : 1 < m → Dist ((m - 1) ∷ leaders gs)
  leads_dist h = spells_dist m (axis_head m) (λ g. leaders gs) a.ticks sp.ticks (m - 1) (a_head h)

  pub leads_few : 1 < m → length (leaders gs) ≤ m
  leads_few h = spells_few m (axis_head m) (λ g. leaders gs) a.ticks sp.ticks (m - 1) (a_head h)

  -- next of the same time
  pub peer_at : (y : ℕ) → In y (members gs) → get_or a.peers y 0 ≡ sucs m a.peers y
  peer_at y i = sym (suc_at m a.peers y (in_m y i).1)

  pub peer_alone : (h : ℕ) → In h (leaders gs) → others_of h gs ≡ [] → get_or a.peers h 0 ≡ h
  peer_alone h i e =
      let c : Chain (sucs m a.peers) (pres m a.peers) h [] h = rw e at (loop_of (sucs m a.peers) (pres m a.peers) gs h sp.peers.loops i) in
      peer_at h (lead_in h gs i) ∙ c.next

  pub peer_more : (h y : ℕ) (l : List ℕ) → In h (leaders gs) → others_of h gs ≡ y ∷ l → get_or a.peers h 0 ≡ y
  peer_more h y l i e =
      let c : Chain (sucs m a.peers) (pres m a.peers) h (y ∷ l) h = rw e at (loop_of (sucs m a.peers) (pres m a.peers) gs h sp.peers.loops i) in
      peer_at h (lead_in h gs i) ∙ c.0.next
