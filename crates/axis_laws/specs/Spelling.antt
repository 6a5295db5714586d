-- The procedures on tables that spell groups: each leaves tables that spell the changed groups.
use Rattle.std.specs.Prelude.{ℕ, suc, ◌-◌, ◌<◌, ◌≡◌, refl, ◌≢◌, true, false, get_or, set, if◌then◌else◌}
use Rattle.std.proofs.Math.Path.{sym, ap, subst}
use Rattle.std.proofs.Common.{◌∙◌, inl, inr, ⊎_elim, arith, get_or-set_same, get_or-take}
use mathlib.Core.List.{List, [], ◌∷◌}
use Rattle.std.proofs.Math.Dec.{eqb}
use Rattle.std.proofs.Math.ListN.{length-set}
use Rattle.std.proofs.Math.Seq.{get_or-set_other}
use borrow.Author.Tests.{eq-eqb, ne_eqb}
use Rattle.ring_laws.specs.Lists.{In, behind, decide, inside}
use Rattle.ring_laws.specs.Table.{unlinked, linked_behind}
use Rattle.ring_laws.specs.Stores.{pres}
use Rattle.axis_laws.specs.Notices.{Notice, whos, due_of}
use Rattle.axis_laws.specs.AxisRing.{axis_head, SpellsAxis}
use Rattle.axis_laws.specs.NoticeOps.{before}
use Rattle.axis_laws.specs.AxisRing.{axis_unlinked, axis_linked}
use Rattle.axis_laws.specs.ByDue.{due_dropped}
use Rattle.axis_laws.specs.NoticeLaws.{Ins, ins_in, ins_dist, ins_due, ins_own, drop_dist, drop_due}
use Rattle.axis_laws.specs.PutLaws.{last_ins, front_ins}
use Rattle.axis_laws.specs.BesideLaws.{before_ins, after_ins}
use Rattle.axis_laws.specs.Seek.{seek_from}
use Rattle.axis_laws.specs.Seek.{found_on}
use Rattle.axis_laws.specs.Groups.{Group, notice, spelled_out, members, leaders, members_are, Rising}
use Rattle.axis_laws.specs.Changes.{left_by, joined_behind, joined_ahead, overtaken, last_at, first_at}
use Rattle.axis_laws.specs.Outs.{lead_in, out_left, out_behind, out_ahead, out_overtaken, out_last, out_first}
use Rattle.axis_laws.specs.Leads.{others_of, lead_dist, lead_changed, lead_overtaken, lead_other, lead_alone, lead_next, rising_changed, rising_overtaken, rising_left, rising_last}
use Rattle.axis_laws.specs.Swap.{handed_over, spells_handed}
use Rattle.axis_laws.specs.Timeline.{Timeline, SpellsPeers, SpellsGroups}
use Rattle.axis_laws.specs.Peers.{left_whos, left_in, peers_left, peers_behind, peers_ahead, peers_front, peers_alone}
use Rattle.axis_laws.specs.Procedures.{ticks_left, drop_on, put_alone, put_after, put_ahead, put_first, tick_for, shares, behind_at, front_at, before_on, behind_on, front_on, after_on}
use Rattle.axis_laws.specs.Search.{spot, seek_spot, At, at_split, due_at_lem, spot_on, Shared, shared, new_same, new_leads, new_loops}
use Rattle.axis_laws.specs.Ticks.{other_member, other_no_lead, in_m, a_head, a_link, lead_off, lead_big, lead_busy, lead_none, lead_zero, lead_chain, leads_dist, leads_few, peer_alone, peer_more}

module _ (m : ℕ) (gs : List Group) (a : Timeline) (sp : SpellsGroups m gs a) where
  abbrev ns : List Notice
  ns = spelled_out gs

  -- ---- x's notice goes

  module _ (x : ℕ) (some : 0 < x) (within : x < m - 1) where
    ticks_left_lem : SpellsAxis m (leaders (left_by x gs)) (ticks_left m x (get_or a.peers x 0) a.ticks)
    unfolding ticks_left
    ticks_left_lem =
        inside x (leaders gs)
        (λ i. rw (ne_eqb (get_or a.ticks x 0) 0 (lead_busy m gs a sp x i)) (go i (others_of x gs) refl))
        (λ o. rw (eq-eqb (get_or a.ticks x 0) 0 (lead_zero m gs a sp x some within o), lead_other x gs o) sp.ticks)
      where
        go : In x (leaders gs) → (l : List ℕ) → others_of x gs ≡ l
            → SpellsAxis m (leaders (left_by x gs)) (if eqb (get_or a.peers x 0) x then unlinked m x a.ticks else handed_over m x (get_or a.peers x 0) a.ticks)
        go i [] e =
            rw (eq-eqb (get_or a.peers x 0) x (peer_alone m gs a sp x i e), lead_alone x gs (lead_dist gs sp.once) i e)
            (axis_unlinked m (leaders gs) a.ticks sp.ticks x (a_link m gs a sp x some within))
        go i (y ∷ l) e =
            let j : In y (others_of x gs) = rw e (inl refl) in
            let out : In y (leaders gs) → ⊥ = other_no_lead x y gs sp.once i j in
            let b = sp.place y (other_member x y gs i j) in
            let yx : y ≢ x = λ q. out (rw q i) in
            rw (peer_more m gs a sp x y l i e, ne_eqb y x yx, lead_next x y l gs i e)
            (spells_handed m (axis_head m) (λ h. leaders gs) a.ticks sp.ticks x y (m - 1)
            (a_link m gs a sp x some within) (a_link m gs a sp y b.0 b.1) (lead_none m gs a sp y b.0 b.1 out)
            (a_head m gs a sp (lead_big m gs a sp x i)) i)

    pub drop_spells : SpellsGroups m (left_by x gs) (drop_on m x a)
    unfolding drop_on
    drop_spells =
        record {
          ticks = ticks_left_lem;
          peers = peers_left m gs a.peers sp.peers sp.once (in_m m gs a sp) x (omega arith);
          rising = rising_left x gs sp.rising;
          once = rw (left_whos x gs sp.once) at (drop_dist x ns (rw (← (members_are gs)) at sp.once));
          place = λ y i. sp.place y (left_in x y gs sp.once i);
          full = simp length-set sp.full;
          timed = λ y.
              rw (out_left x gs sp.once)
              (decide y x
              (λ e. rw e (get_or-set_same a.times x 0 0 (omega (arith, sp.full)) ∙ sym (due_dropped x ns)))
              (λ n. get_or-set_other a.times x y 0 0 n ∙ sp.timed y ∙ sym (drop_due x ns y n)));
        }

  -- ---- x, which has none, gets one, at u

  module _ (x u : ℕ) (some : 0 < x) (within : x < m - 1) (fresh : In x (members gs) → ⊥) where
    big : 1 < m
    big = omega arith

    fresh_who : In x (whos ns) → ⊥
    fresh_who i = fresh (rw (members_are gs) at i)

    no_lead : In x (leaders gs) → ⊥
    no_lead i = fresh (lead_in x gs i)

    -- what holds of any insertion
    put_spells : (gs' : List Group) (ticks peers : List ℕ) → Ins (notice x u) ns (spelled_out gs') → SpellsAxis m (leaders gs') ticks → SpellsPeers m gs' peers
        → Rising gs' → SpellsGroups m gs' (record { ticks = ticks; peers = peers; times = set a.times x u })
    put_spells gs' ticks peers ins s r up =
        record {
          ticks = s;
          peers = r;
          rising = up;
          once = rw (members_are gs') at (ins_dist (notice x u) ins fresh_who (rw (← (members_are gs)) at sp.once));
          place = λ y i.
              ⊎_elim
              (λ e. rw e (some, within))
              (λ j. sp.place y (rw (members_are gs) at j))
              (ins_in (notice x u) y ins (rw (← (members_are gs')) at i));
          full = simp length-set sp.full;
          timed = λ y.
              decide y x
              (λ e. rw e (get_or-set_same a.times x u 0 (omega (arith, sp.full)) ∙ sym (ins_own (notice x u) ins fresh_who)))
              (λ n. get_or-set_other a.times x y u 0 n ∙ sp.timed y ∙ sym (ins_due (notice x u) y n ins));
        }

    who_in : (y : ℕ) → In y (members gs) → In y (whos ns)
    who_in y i = rw (← (members_are gs)) at i

    -- right after y
    pub after_spells : (y : ℕ) → In y (members gs) → u ≡ due_of y ns → SpellsGroups m (joined_behind y x gs) (after_on m x y u a)
    unfolding put_after
    after_spells y i e =
        let ins : Ins (notice x u) ns (spelled_out (joined_behind y x gs)) =
        subst (λ (l : List Notice). Ins (notice x u) ns l) (sym (out_behind x y u gs sp.once i e)) (after_ins y (notice x u) ns (who_in y i)) in
        put_spells (joined_behind y x gs) a.ticks _ ins
        (subst (λ (l : List ℕ). SpellsAxis m l a.ticks) (sym (lead_changed (λ h l. behind y x h l) gs)) sp.ticks)
        (peers_behind m gs a.peers sp.peers sp.once (in_m m gs a sp) x u (omega arith) fresh y i ins)
        (rising_changed (λ h l. behind y x h l) gs sp.rising)

    -- on y's ring in front of y, where the groups say so
    pub ahead_spells : (y : ℕ) → In y (members gs) → Ins (notice x u) ns (spelled_out (joined_ahead y x gs)) → SpellsGroups m (joined_ahead y x gs) (put_ahead m x y u a)
    unfolding put_ahead
    ahead_spells y i ins =
        put_spells (joined_ahead y x gs) a.ticks _ ins
        (subst (λ (l : List ℕ). SpellsAxis m l a.ticks) (sym (lead_changed _ gs)) sp.ticks)
        (peers_ahead m gs a.peers sp.peers sp.once (in_m m gs a sp) x u (omega arith) fresh y i ins)
        (rising_changed _ gs sp.rising)

    -- in front of h, which leads
    pub first_spells : (h : ℕ) → In h (leaders gs) → Ins (notice x u) ns (spelled_out (overtaken h x gs)) → SpellsGroups m (overtaken h x gs) (put_first m x h u a)
    unfolding put_first
    first_spells h i ins =
        let b = lead_off m gs a sp h i in
        put_spells (overtaken h x gs) _ _ ins
        (subst (λ (l : List ℕ). SpellsAxis m l (handed_over m h x a.ticks)) (sym (lead_overtaken h x gs))
        (spells_handed m (axis_head m) (λ g. leaders gs) a.ticks sp.ticks h x (m - 1)
        (a_link m gs a sp h b.0 b.1) (a_link m gs a sp x some within) (lead_none m gs a sp x some within no_lead) (a_head m gs a sp big) i))
        (peers_front m gs a.peers sp.peers sp.once (in_m m gs a sp) x u (omega arith) fresh h (lead_in h gs i) i ins)
        (rising_overtaken h x gs sp.rising)

    -- right before y
    pub before_spells : (y : ℕ) → In y (members gs) → u ≡ due_of y ns
        → (gs' : List Group) × (spelled_out gs' ≡ before y (notice x u) ns) × SpellsGroups m gs' (before_on m x y u a)
    unfolding before_on
    before_spells y i e =
        let b = sp.place y i in
        inside y (leaders gs)
        (λ l.
        let q = out_overtaken x y u gs sp.once l e in (
          overtaken y x gs,
          q,
          rw (ne_eqb (get_or a.ticks y 0) 0 (lead_busy m gs a sp y l))
              (first_spells y l (subst (λ (k : List Notice). Ins (notice x u) ns k) (sym q) (before_ins y (notice x u) ns (who_in y i)))),
        ))
        (λ o.
        let q = out_ahead x y u gs sp.once i o e in (
          joined_ahead y x gs,
          q,
          rw (eq-eqb (get_or a.ticks y 0) 0 (lead_zero m gs a sp y b.0 b.1 o))
              (ahead_spells y i (subst (λ (k : List Notice). Ins (notice x u) ns k) (sym q) (before_ins y (notice x u) ns (who_in y i)))),
        ))

    -- ---- by time

    pub slot_is : tick_for m u a ≡ spot (suc u) (m - 1) gs
    unfolding tick_for found_on
    slot_is =
        ap (λ (f : ℕ). seek_from m a.times (suc u) a.ticks m f (pres m a.ticks (m - 1))) (sym (get_or-take m a.ticks (m - 1) 0 (omega arith)))
        ∙ seek_spot m (suc u) a.ticks a.times gs (lead_chain m gs a sp big)
        (λ y i. let b = lead_off m gs a sp y i in (omega (arith, b.1), λ e. omega (arith, b.1)))
        sp.rising sp.once (λ y i. sp.timed y) (leads_few m gs a sp big)

    -- the time is there, or it is not
    shares_yes : (h : ℕ) → Shared x u h gs → shares m h u a.times ≡ true
    unfolding shares
    shares_yes h s =
        let b = lead_off m gs a sp h s.lead in
        rw (ne_eqb h (m - 1) (λ e. omega (arith, b.1))) (eq-eqb (get_or a.times h 0) u (sp.timed h ∙ s.due))

    shares_no : (h : ℕ) → In h ((m - 1) ∷ leaders gs) → (At u gs → ⊥) → shares m h u a.times ≡ false
    unfolding shares
    shares_no h (inl e) o = rw (eq-eqb h (m - 1) e)
    shares_no h (inr i) o =
        let b = lead_off m gs a sp h i in
        rw (ne_eqb h (m - 1) (λ e. omega (arith, b.1)))
        (ne_eqb (get_or a.times h 0) u (λ e. o (due_at_lem u h gs sp.once i (sym (sp.timed h) ∙ e))))

    ins_last : Ins (notice x u) ns (spelled_out (last_at x u gs))
    ins_last = subst (λ (k : List Notice). Ins (notice x u) ns k) (sym (out_last x u gs sp.rising)) (last_ins (notice x u) ns)

    ins_first : Ins (notice x u) ns (spelled_out (first_at x u gs))
    ins_first = subst (λ (k : List Notice). Ins (notice x u) ns k) (sym (out_first x u gs)) (front_ins (notice x u) ns)

    alone_spells : (At u gs → ⊥) → SpellsGroups m (last_at x u gs) (put_alone m x (spot (suc u) (m - 1) gs) u a)
    unfolding put_alone
    alone_spells o =
        put_spells (last_at x u gs) _ _ ins_last
        (subst (λ (l : List ℕ). SpellsAxis m l (linked_behind m x (spot (suc u) (m - 1) gs) a.ticks)) (new_leads x u (m - 1) gs o (leads_dist m gs a sp big))
        (axis_linked m (leaders gs) a.ticks sp.ticks x (spot (suc u) (m - 1) gs) big (a_link m gs a sp x some within) (lead_none m gs a sp x some within no_lead) (spot_on (suc u) (m - 1) gs)))
        (peers_alone m gs a.peers sp.peers sp.once (in_m m gs a sp) x u (omega arith) fresh (last_at x u gs) ins_last (λ S P c s p. new_loops x u S P gs o c s p))
        (rising_last x u gs sp.rising)

    pub behind_spells : SpellsGroups m (last_at x u gs) (behind_on m x u a)
    unfolding behind_at
    behind_spells =
        let h = spot (suc u) (m - 1) gs in
        rw slot_is
        (at_split u gs
        (λ i.
        let s : Shared x u h gs = shared x u (m - 1) gs sp.rising sp.once i in
        let q = s.last in
        rw (shares_yes h s)
        (subst (λ (k : List Group). SpellsGroups m k (put_ahead m x h u a)) (sym q)
        (ahead_spells h (lead_in h gs s.lead) (subst (λ (k : List Group). Ins (notice x u) ns (spelled_out k)) q ins_last))))
        (λ o. rw (shares_no h (spot_on (suc u) (m - 1) gs) o) (alone_spells o)))

    pub front_spells : SpellsGroups m (first_at x u gs) (front_on m x u a)
    unfolding front_at
    front_spells =
        let h = spot (suc u) (m - 1) gs in
        rw slot_is
        (at_split u gs
        (λ i.
        let s : Shared x u h gs = shared x u (m - 1) gs sp.rising sp.once i in
        let q = s.first in
        rw (shares_yes h s)
        (subst (λ (k : List Group). SpellsGroups m k (put_first m x h u a)) (sym q)
        (first_spells h s.lead (subst (λ (k : List Group). Ins (notice x u) ns (spelled_out k)) q ins_first))))
        (λ o. rw (shares_no h (spot_on (suc u) (m - 1) gs) o)
        (subst (λ (k : List Group). SpellsGroups m k (put_alone m x h u a)) (sym (new_same x u gs o)) (alone_spells o))))
