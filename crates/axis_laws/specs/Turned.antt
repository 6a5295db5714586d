-- Hold by 0 ticks among others of the same time: the ring stays as it is, and the next of that time leads.
use Rattle.std.specs.Prelude.{ℕ, ◌-◌, ◌≡◌, refl, List, [], ◌∷◌, ◌++◌, get_or}
use Rattle.std.proofs.Common.{sym, ◌∙◌, subst, inl, inr, ⊎_elim, arith, eq-eqb, le-ltb}
use Rattle.ring_laws.specs.Lists.{In, inside}
use Rattle.ring_laws.specs.Distinct.{Dist, in_left, in_right, in_either, dist_append}
use Rattle.ring_laws.specs.Stores.{sucs, pres}
use Rattle.axis_laws.specs.Notices.{due_of}
use Rattle.axis_laws.specs.AxisRing.{axis_head, SpellsAxis}
use Rattle.axis_laws.specs.Reading.{due_none}
use Rattle.axis_laws.specs.NoticeOps.{behind_all}
use Rattle.axis_laws.specs.Groups.{Group, notice, group, spelled_out, members, leaders, members_are}
use Rattle.axis_laws.specs.Outs.{which, own_in, later_in, lead_in, out_last, dist_left, dist_right, dist_apart}
use Rattle.axis_laws.specs.Loops.{turned_on}
use Rattle.axis_laws.specs.Search.{due_own, due_later}
use Rattle.axis_laws.specs.Timeline.{Timeline, SpellsGroups}
use Rattle.axis_laws.specs.Swap.{spells_handed, handed_over}
use Rattle.axis_laws.specs.Ticks.{a_head, a_link, lead_none, lead_big, peer_at}

-- s is the next of x's time
unfoldable pub turned : ℕ → ℕ → ℕ → Timeline → Timeline
turned m x s a = record { ticks = handed_over m x s a.ticks; peers = a.peers; times = a.times }

-- ---- the same places in another order

module _ (x y : ℕ) (l k : List ℕ) where
  turn_in : (z : ℕ) → In z (x ∷ (y ∷ l)) → In z (y ∷ (l ++ (x ∷ [])))
  turn_in z (inl e) = inr (in_right z l (x ∷ []) (inl e))
  turn_in z (inr (inl e)) = inl e
  turn_in z (inr (inr i)) = inr (in_left z l (x ∷ []) i)

  in_turn : (z : ℕ) → In z (y ∷ (l ++ (x ∷ []))) → In z (x ∷ (y ∷ l))
  in_turn z (inl e) = inr (inl e)
  in_turn z (inr i) = ⊎_elim (λ j. inr (inr j)) (λ j. ⊎_elim (λ e. inl e) (λ w. absurd w) j) (in_either z l (x ∷ []) i)

  turn_dist : Dist (x ∷ (y ∷ l)) → Dist (y ∷ (l ++ (x ∷ [])))
  turn_dist d =
      dist_append (y ∷ l) (x ∷ []) d.1 ((λ i. i), tt) (λ z i j. ⊎_elim (λ e. d.0 (subst (λ (w : ℕ). In w (y ∷ l)) e i)) (λ w. w) j)

module _ (m : ℕ) (g : Group) (gs : List Group) (a : Timeline) (sp : SpellsGroups m (g ∷ gs) a) (y : ℕ) (l : List ℕ) (e : g.others ≡ y ∷ l) where
  abbrev x : ℕ
  x = g.leader

  abbrev g' : Group
  g' = group g.due y (l ++ (g.leader ∷ []))

  own_to : (z : ℕ) → In z (g.leader ∷ g.others) → In z (y ∷ (l ++ (g.leader ∷ [])))
  own_to z i = turn_in x y l [] z (subst (λ (k : List ℕ). In z (x ∷ k)) e i)

  own_from : (z : ℕ) → In z (y ∷ (l ++ (g.leader ∷ []))) → In z (g.leader ∷ g.others)
  own_from z i = subst (λ (k : List ℕ). In z (x ∷ k)) (sym e) (in_turn x y l [] z i)

  to : (z : ℕ) → In z (members (g ∷ gs)) → In z (members (group g.due y (l ++ (g.leader ∷ [])) ∷ gs))
  to z i = which z g gs i (λ own. own_in z g' gs (own_to z own)) (λ later. later_in z g' gs later)

  from : (z : ℕ) → In z (members (group g.due y (l ++ (g.leader ∷ [])) ∷ gs)) → In z (members (g ∷ gs))
  from z i = which z g' gs i (λ own. own_in z g gs (own_from z own)) (λ later. later_in z g gs later)

  once : Dist (members (group g.due y (l ++ (g.leader ∷ [])) ∷ gs))
  once =
      dist_append (y ∷ (l ++ (x ∷ []))) (members gs)
      (turn_dist x y l [] (subst (λ (k : List ℕ). Dist (x ∷ k)) e (dist_left (x ∷ g.others) (members gs) sp.once)))
      (dist_right (x ∷ g.others) (members gs) sp.once)
      (λ z i j. dist_apart (x ∷ g.others) (members gs) z sp.once (own_from z i) j)

  same_due : (z : ℕ) → due_of z (spelled_out (g ∷ gs)) ≡ due_of z (spelled_out (group g.due y (l ++ (g.leader ∷ [])) ∷ gs))
  same_due z =
      inside z (members (g ∷ gs))
      (λ i. which z g gs i
      (λ own. due_own g gs z own ∙ sym (due_own g' gs z (own_to z own)))
      (λ later. due_later g gs z sp.once later ∙ sym (due_later g' gs z once later)))
      (λ o.
      due_none (spelled_out (g ∷ gs)) z (λ i. o (subst (λ (k : List ℕ). In z k) (members_are (g ∷ gs)) i))
      ∙ sym (due_none (spelled_out (g' ∷ gs)) z (λ i. o (from z (subst (λ (k : List ℕ). In z k) (members_are (g' ∷ gs)) i)))))

  y_member : In y (members (g ∷ gs))
  y_member = own_in y g gs (inr (subst (λ (k : List ℕ). In y k) (sym e) (inl refl)))

  y_leads_none : In y (leaders (g ∷ gs)) → ⊥
  y_leads_none (inl q) = (dist_left (x ∷ g.others) (members gs) sp.once).0 (subst (λ (k : List ℕ). In x k) (sym e) (inl (sym q)))
  y_leads_none (inr i) =
      dist_apart (x ∷ g.others) (members gs) y sp.once (inr (subst (λ (k : List ℕ). In y k) (sym e) (inl refl))) (lead_in y gs i)

  -- the next of its time
  pub next_is : get_or a.peers g.leader 0 ≡ y
  next_is = peer_at m (g ∷ gs) a sp x (inl refl) ∙ (rw e at sp.peers.loops.0).0.next

  pub turned_groups : SpellsGroups m (group g.due y (l ++ (g.leader ∷ [])) ∷ gs) (turned m g.leader y a)
  unfolding turned
  turned_groups =
      let bx = sp.place x (inl refl) in
      let by = sp.place y y_member in
      let big = lead_big m (g ∷ gs) a sp x (inl refl) in
      let s : SpellsAxis m (y ∷ leaders gs) (handed_over m x y a.ticks) =
      rw (eq-eqb x x refl) at
      (spells_handed m (axis_head m) (λ h. leaders (g ∷ gs)) a.ticks sp.ticks x y (m - 1)
      (a_link m (g ∷ gs) a sp x bx.0 bx.1) (a_link m (g ∷ gs) a sp y by.0 by.1)
      (lead_none m (g ∷ gs) a sp y by.0 by.1 y_leads_none) (a_head m (g ∷ gs) a sp big) (inl refl)) in
      record {
        ticks = s;
        peers =
            record {
              two = sp.peers.two;
              loops = (turned_on (sucs m a.peers) (pres m a.peers) x y l (rw e at sp.peers.loops.0), sp.peers.loops.1);
              off = λ z o. sp.peers.off z (λ i. o (to z i));
            };
        rising = sp.rising;
        once = once;
        place = λ z i. sp.place z (from z i);
        full = sp.full;
        timed = λ z. sp.timed z ∙ same_due z;
      }

  -- it goes behind all of its time
  pub turned_out : spelled_out (group g.due y (l ++ (g.leader ∷ [])) ∷ gs) ≡ behind_all (notice g.leader g.due) (spelled_out (group g.due y l ∷ gs))
  turned_out =
      (rw (le-ltb g.due g.due (omega arith), eq-eqb g.due g.due refl) at
      (out_last x g.due (group g.due y l ∷ gs) sp.rising))
