-- The short way of a process that is alone at its time: only the ring of times changes, and its own ring where it joins others. It makes what taking
-- its notice away and putting it back makes, with nine stores for sixteen.
use Prim.Native.Nat.{ℕ, suc, ◌+◌, ◌-◌, ◌<◌}
use Rattle.std.specs.Prelude.{◌≡◌, refl, ◌≢◌, Bool, if◌then◌else◌}
use Rattle.std.proofs.Math.Path.{sym, ap, subst}
use Rattle.std.proofs.Common.{◌∙◌, inl, ⊎_elim, arith, get_or-take, get_or-set_other, set-set}
use Rattle.std.proofs.Math.Bool.{true, false}
use mathlib.Core.List.{List, [], ◌∷◌}
use Rattle.std.proofs.Math.Dec.{eqb}
use Rattle.std.proofs.Math.ListN.{get_or, set}
use Rattle.std.proofs.lemmas.List.{set_comm}
use Rattle.std.proofs.Math.Seq.{set-get_or}
use borrow.Author.Tests.{eq-eqb, ne_eqb}
use Rattle.ring_laws.specs.Lists.{In, clash}
use Rattle.ring_laws.specs.Table.{cut, unlinked, linked_behind, linked_before, self_linked}
use Rattle.ring_laws.specs.Stores.{pres}
use Rattle.axis_laws.specs.NoticeLaws.{drop_gone}
use Rattle.axis_laws.specs.Seek.{seek_from}
use Rattle.axis_laws.specs.Seek.{found_on}
use Rattle.axis_laws.specs.Groups.{Group, spelled_out, members}
use Rattle.axis_laws.specs.Changes.{left_by}
use Rattle.axis_laws.specs.Outs.{lead_in}
use Rattle.axis_laws.specs.Peers.{left_whos}
use Rattle.axis_laws.specs.Timeline.{Timeline, SpellsGroups}
use Rattle.axis_laws.specs.Ticks.{lead_busy, lead_off, lead_chain, leads_few, peer_at}
use Rattle.axis_laws.specs.Search.{spot, seek_spot, spot_on}
use Rattle.axis_laws.specs.Procedures.{ticks_left, drop_on, put_ahead, put_alone, tick_for, shares, behind_at, behind_on}
use Rattle.axis_laws.specs.Spelling.{drop_spells, slot_is}

-- x's notice goes behind all up to u
unfoldable pub moved_to : ℕ → ℕ → ℕ → Timeline → Timeline
moved_to m x u a = behind_on m x u (drop_on m x a)

-- x leaves the ring of times, and is alone on its own ring
unfoldable pub cut_off : ℕ → ℕ → Timeline → Timeline
cut_off m x a = record { ticks = unlinked m x a.ticks; peers = a.peers; times = a.times }

unfoldable pub put_lead : ℕ → ℕ → ℕ → ℕ → Timeline → Timeline
put_lead m x q u a = record { ticks = linked_behind m x q a.ticks; peers = a.peers; times = set a.times x u }

unfoldable pub shifted_at : ℕ → ℕ → ℕ → ℕ → Timeline → Timeline
shifted_at m x q u a = if shares m q u a.times then put_ahead m x q u a else put_lead m x q u a

unfoldable pub shifted : ℕ → ℕ → ℕ → Timeline → Timeline
shifted m x u a = shifted_at m x (tick_for m u (cut_off m x a)) u (cut_off m x a)

-- ---- the stores that are spared

module _ (m x : ℕ) (t : List ℕ) (pos : 0 < m) (v w : ℕ) where
  n : m + x ≢ x
  n e = omega arith

  -- two words that are stored anew, whatever was stored there
  anew : set (set (cut m x x x t) x v) (m + x) w ≡ set (set t x v) (m + x) w
  anew =
      let t₁ = set t (m + x) x in
      let t₃ = set (set t₁ x x) x 0 in
      ap (λ (l : List ℕ). set l (m + x) w) (set_comm t₃ (m + x) x 0 v n)
      ∙ set-set (set t₃ x v) (m + x) 0 w
      ∙ ap (λ (l : List ℕ). set l (m + x) w) (set-set (set t₁ x x) x 0 v ∙ set-set t₁ x x v ∙ set_comm t (m + x) x x v n)
      ∙ set-set (set t x v) (m + x) x w

module _ (m x : ℕ) (t : List ℕ) (xm : x < m) (some : x ≢ 0) (s : get_or t x 0 ≡ x) (p : get_or t (m + x) 0 ≡ x) where
  out_is : unlinked m x t ≡ cut m x x x t
  unfolding unlinked
  out_is = rw (s, p, ne_eqb x 0 some)

  self_again : self_linked m x (unlinked m x t) ≡ t
  unfolding self_linked
  self_again =
      ap (λ (l : List ℕ). set (set l x x) (m + x) x) out_is ∙ anew m x t (omega arith) x x
      ∙ ap (λ (j : ℕ). set (set t x x) (m + x) j) (sym p)
      ∙ ap (λ (l : List ℕ). set l (m + x) (get_or t (m + x) 0)) (ap (set t x) (sym s) ∙ set-get_or t x 0)
      ∙ set-get_or t (m + x) 0

  before_again : (y : ℕ) → y ≢ x → linked_before m x y (unlinked m x t) ≡ linked_before m x y t
  unfolding linked_before
  before_again y d =
      let q : get_or (cut m x x x t) (m + y) 0 ≡ get_or t (m + y) 0 = word in
      ap (λ (l : List ℕ). linked_on l) out_is
      ∙ ap (λ (j : ℕ). set (set (set (set (cut m x x x t) x y) (m + x) j) j x) (m + y) x) q
      ∙ ap (λ (l : List ℕ). set (set l (get_or t (m + y) 0) x) (m + y) x) (anew m x t (omega arith) y (get_or t (m + y) 0))
    where
      linked_on : List ℕ → List ℕ
      linked_on l = set (set (set (set l x y) (m + x) (get_or l (m + y) 0)) (get_or l (m + y) 0) x) (m + y) x

      word : get_or (cut m x x x t) (m + y) 0 ≡ get_or t (m + y) 0
      word =
          let f : m + y ≢ x = λ e. omega arith in
          let e : m + y ≢ m + x = λ e. d (omega arith) in
          get_or-set_other (set (set (set t (m + x) x) x x) x 0) (m + x) (m + y) 0 0 e
          ∙ get_or-set_other (set (set t (m + x) x) x x) x (m + y) 0 0 f
          ∙ get_or-set_other (set t (m + x) x) x (m + y) x 0 f
          ∙ get_or-set_other t (m + x) (m + y) x 0 e

-- ---- what it makes

module _ (m : ℕ) (g : Group) (gs : List Group) (a : Timeline) (u : ℕ) (sp : SpellsGroups m (g ∷ gs) a) (e : g.others ≡ []) where
  abbrev x : ℕ
  x = g.leader

  abbrev d : Timeline
  d = drop_on m g.leader a

  abbrev ks : List Group
  ks = left_by g.leader (g ∷ gs)

  b : (0 < g.leader) × (g.leader < m - 1)
  b = sp.place g.leader (inl refl)

  dropped : SpellsGroups m (left_by g.leader (g ∷ gs)) (drop_on m g.leader a)
  dropped = drop_spells m (g ∷ gs) a sp g.leader b.0 b.1

  gone : In g.leader (members (left_by g.leader (g ∷ gs))) → ⊥
  gone i =
      drop_gone x (spelled_out (g ∷ gs)) x
      (subst (λ (l : List ℕ). In x l) (sym (left_whos x (g ∷ gs) sp.once)) i) refl

  peer_x : get_or a.peers g.leader 0 ≡ g.leader
  peer_x = peer_at m (g ∷ gs) a sp x (inl refl) ∙ (rw e at sp.peers.loops.0).next

  peer_p : get_or a.peers (m + g.leader) 0 ≡ g.leader
  peer_p = (rw e at sp.peers.loops.0).prev

  -- the ring of times is the same
  ticks_is : ticks_left m g.leader (get_or a.peers g.leader 0) a.ticks ≡ unlinked m g.leader a.ticks
  unfolding ticks_left
  ticks_is = rw (ne_eqb (get_or a.ticks x 0) 0 (lead_busy m (g ∷ gs) a sp x (inl refl)), eq-eqb (get_or a.peers x 0) x peer_x)

  -- the search finds the same place: it never comes to x
  slot_drop : tick_for m u (drop_on m g.leader a) ≡ spot (suc u) (m - 1) (left_by g.leader (g ∷ gs))
  slot_drop = slot_is m ks d dropped x u b.0 b.1 gone

  big : 1 < m
  big = omega (arith, b.0, b.1)

  drop_is : SpellsGroups m (left_by g.leader (g ∷ gs)) (record { ticks = unlinked m g.leader a.ticks; peers = unlinked m g.leader a.peers; times = set a.times g.leader 0 })
  unfolding drop_on
  drop_is =
      subst (λ (t : List ℕ). SpellsGroups m ks (record { ticks = t; peers = unlinked m x a.peers; times = set a.times x 0 })) ticks_is dropped

  slot_cut : tick_for m u (cut_off m g.leader a) ≡ spot (suc u) (m - 1) (left_by g.leader (g ∷ gs))
  unfolding tick_for found_on cut_off
  slot_cut =
      let t = unlinked m x a.ticks in
      let c : Timeline = record { ticks = t; peers = unlinked m x a.peers; times = set a.times x 0 } in
      ap (λ (f : ℕ). seek_from m a.times (suc u) t m f (pres m t (m - 1))) (sym (get_or-take m t (m - 1) 0 (omega (arith, big))))
      ∙ seek_spot m (suc u) t a.times ks (lead_chain m ks c drop_is big)
      (λ y i. let w = lead_off m ks c drop_is y i in (omega (arith, w.1), λ q. omega (arith, w.1)))
      drop_is.rising drop_is.once
      (λ y i. sym (get_or-set_other a.times x y 0 0 (λ q. gone (subst (λ (j : ℕ). In j (members ks)) q i))) ∙ drop_is.timed y)
      (leads_few m ks c drop_is big)

  -- and there the same test
  not_x : spot (suc u) (m - 1) (left_by g.leader (g ∷ gs)) ≢ g.leader
  not_x q =
      ⊎_elim
      (λ h. omega (arith, b.1, sym q ∙ h))
      (λ i. gone (subst (λ (j : ℕ). In j (members ks)) q (lead_in (spot (suc u) (m - 1) ks) ks i)))
      (spot_on (suc u) (m - 1) ks)

  same_test : (q : ℕ) → q ≢ g.leader → shares m q u a.times ≡ shares m q u (set a.times g.leader 0)
  unfolding shares
  same_test q n = ap (λ (v : ℕ). if eqb q (m - 1) then false else eqb v u) (sym (get_or-set_other a.times x q 0 0 n))

  shift_at : (q : ℕ) → q ≢ g.leader → shifted_at m g.leader q u (cut_off m g.leader a) ≡ behind_at m g.leader q u (drop_on m g.leader a)
  unfolding shifted_at cut_off behind_at drop_on put_ahead put_lead put_alone
  shift_at q n =
      let some : x ≢ 0 = λ z. omega (arith, b.0) in
      let xm : x < m = omega (arith, b.1) in
      let times_is : set a.times x u ≡ set (set a.times x 0) x u = sym (set-set a.times x 0 u) in
      let back : unlinked m x a.ticks ≡ ticks_left m x (get_or a.peers x 0) a.ticks = sym ticks_is in
      let ahead : linked_before m x q a.peers ≡ linked_before m x q (unlinked m x a.peers) = sym (before_again m x a.peers xm some peer_x peer_p q n) in
      let alone : a.peers ≡ self_linked m x (unlinked m x a.peers) = sym (self_again m x a.peers xm some peer_x peer_p) in
      go (shares m q u a.times) (shares m q u (set a.times x 0)) (same_test q n)
      (λ i. record { ticks = back i; peers = ahead i; times = times_is i })
      (λ i. record { ticks = linked_behind m x q (back i); peers = alone i; times = times_is i })
    where
      go : (c c' : Bool) → c ≡ c' → {s₁ s₂ t₁ t₂ : Timeline} → s₁ ≡ t₁ → s₂ ≡ t₂ → (if c then s₁ else s₂) ≡ (if c' then t₁ else t₂)
      go true true e f h = f
      go false false e f h = h
      go true false e f h = clash (sym e)
      go false true e f h = clash e

  pub shifted_moves : shifted m g.leader u a ≡ moved_to m g.leader u a
  unfolding shifted moved_to
  shifted_moves =
      ap (λ (j : ℕ). shifted_at m x j u (cut_off m x a)) slot_cut
      ∙ shift_at (spot (suc u) (m - 1) ks) not_x
      ∙ sym (ap (λ (j : ℕ). behind_at m x j u (drop_on m x a)) slot_drop)
