-- Where a notice may be linked: behind the place that a walk finds, in front of the first, right before or after another's.
use Rattle.std.specs.Prelude.{ℕ, ◌-◌, ◌<◌, ◌≤◌, suc, ◌≡◌, refl, ◌≢◌, List, [], ◌∷◌, length, ◌||◌, eqb}
use Rattle.std.proofs.Common.{sym, ◌∙◌, subst, inl, inr, arith, get_or-take, eq-eqb, ne_eqb, eqb-true}
use Rattle.std.proofs.Math.Path.{ap}
use Rattle.ring_laws.specs.Lists.{In, decide, behind, ahead, behind_head, test}
use Rattle.ring_laws.specs.Chain.{prev_in_lem, back, behind_ahead}
use Rattle.ring_laws.specs.Distinct.{Dist}
use Rattle.ring_laws.specs.Stores.{sucs, pres}
use Rattle.ring_laws.proofs.Spell.{spells_few}
use Rattle.axis_laws.specs.AxisRing.{axis_head}
use Rattle.axis_laws.specs.AxisRing.{axis_linked}
use Rattle.model.specs.declared.Counts.{Counts}
use Rattle.axis_laws.specs.Notices.{Notice, whos, places, InOrder, From}
use Rattle.axis_laws.specs.NoticeOps.{before, after}
use Rattle.axis_laws.specs.NoticeLaws.{Ins, ins_due, ins_own}
use Rattle.axis_laws.specs.BesideLaws.{before_ins, after_ins}
use Rattle.axis_laws.specs.Reading.{who_place, length_places}
use Rattle.model_laws.specs.Now.{half}
use Rattle.simulation_laws.specs.Procedures.{Sqs, prev_on, found, put_on, place_for}
use Rattle.axis_laws.specs.Seek.{seek_from, seek_finds}
use Rattle.axis_laws.specs.ByDue.{by_due, by_ins, spot_in, spot_on, behind_spot, by_behind, by_front}
use Rattle.simulation_laws.specs.Places.{SpellsTime, head, chain, member, off_head, dist_all, is_process_lem, a_link, timed}
use Rattle.axis_laws.specs.Notices.{Process}
use Rattle.simulation_laws.specs.Places.{unlinked_is, times_set}
use Rattle.simulation_laws.specs.Plain.{placed}
use Rattle.axis_laws.specs.PutLaws.{front_first}

-- ---- a notice is linked behind the place q

-- q is a place of the axis, and behind it n stands where ns' has it
pub record Spot (c : Counts) (ns : List Notice) (n : Notice) (q : ℕ) (ns' : List Notice) : Type 0 where
  pub on : In q ((half c - 1) ∷ places c ns)
  pub there : behind q (n.who - c.heads) (half c - 1) (places c ns) ≡ places c ns'
  pub puts : Ins n ns ns'

module _ (c : Counts) (ns : List Notice) (a : Sqs) (sp : SpellsTime c ns a) where
  pub put_spells : (n : Notice) (q : ℕ) (ns' : List Notice) → Process c n.who → (In n.who (whos ns) → ⊥) → Spot c ns n q ns'
      → SpellsTime c ns' (put_on (half c) (n.who - c.heads) q n.due a)
  unfolding put_on
  put_spells n q ns' p f s =
      record {
        axis = rw s.there at (axis_linked (half c) (places c ns) a.axis sp.axis (n.who - c.heads) q (omega arith)
            (a_link c ns a sp n.who p) (unlinked_is c ns a sp n.who p f) s.on);
        times = times_set c ns a sp ns' n.who n.due p (ins_own n s.puts f) (λ z d. ins_due n z d s.puts);
      }

  -- the place that a walk must find
  pub spot_at : (n : Notice) (w q : ℕ) → q ≡ spot_in c w (half c - 1) ns → Spot c ns n q (by_due w n ns)
  spot_at n w q e =
      subst (λ (v : ℕ). Spot c ns n v (by_due w n ns)) (sym e) (record {
        on = spot_on c w (half c - 1) ns;
        there = behind_spot c w n (half c - 1) ns (dist_all c ns a sp);
        puts = by_ins w n ns;
      })

  pub few : length ns ≤ half c
  few = rw (length_places c ns) at (spells_few (half c) (axis_head (half c)) (λ h. places c ns) a.axis sp.axis (half c - 1)
      (head c ns a sp))

  -- the search from both ends finds it: the fuel is enough
  pub seek_is : (w : ℕ) → InOrder ns → found (half c) w a ≡ spot_in c w (half c - 1) ns
  unfolding found
  seek_is w o =
      ap (λ (f : ℕ). seek_from (half c) a.times w a.axis (half c) f (prev_on (half c) a (half c - 1)))
      (sym (get_or-take (half c) a.axis (half c - 1) 0 (omega arith)))
      ∙ seek_finds c (half c) a.times w a.axis (half c) (half c - 1) ns (half c - 1)
      (record {
        links = chain c ns a sp;
        due = timed c ns a sp;
        order = o;
        off = λ y i. ((member c ns a sp y i).within, off_head c ns a sp y i);
      }) (inl refl) few

  pub found_spot : (n : Notice) (w : ℕ) → InOrder ns → Spot c ns n (found (half c) w a) (by_due w n ns)
  found_spot n w o = spot_at n w (found (half c) w a) (seek_is w o)

  -- in front of the first
  pub first_spot : (n : Notice) → Spot c ns n (half c - 1) (n ∷ ns)
  first_spot n =
      record { on = inl refl; there = behind_head (half c - 1) (n.who - c.heads) (places c ns); puts = Ins.here }

  -- right after y
  pub after_spot : (n : Notice) (y : ℕ) → In y (whos ns) → Spot c ns n (y - c.heads) (after y n ns)
  after_spot n y i =
      record {
        on = inr (who_place c ns y i);
        there = go (half c - 1) ns (off_head c ns a sp (y - c.heads) (who_place c ns y i)) (dist_all c ns a sp).1
            (λ z j. (is_process_lem c ns a sp z j).over) (is_process_lem c ns a sp y i).over;
        puts = after_ins y n ns i;
      }
    where
      go : (b : ℕ) (l : List Notice) → y - c.heads ≢ b → Dist (places c l) → ((z : ℕ) → In z (whos l) → c.heads < z) → c.heads < y
          → behind (y - c.heads) (n.who - c.heads) b (places c l) ≡ places c (after y n l)
      go b [] ne d f h = rw (ne_eqb b (y - c.heads) (λ e. ne (sym e)))
      go b (k ∷ ks) ne d f h =
          decide k.who y
          (λ e.
          rw (ne_eqb b (y - c.heads) (λ q. ne (sym q)), eq-eqb k.who y e)
          (ap (λ (r : List ℕ). (k.who - c.heads) ∷ r)
          (ap (λ (v : ℕ). behind (v - c.heads) (n.who - c.heads) (k.who - c.heads) (places c ks)) (sym e)
          ∙ behind_head (k.who - c.heads) (n.who - c.heads) (places c ks))))
          (λ g.
          rw (ne_eqb b (y - c.heads) (λ q. ne (sym q)), ne_eqb k.who y g)
          (ap (λ (r : List ℕ). (k.who - c.heads) ∷ r)
          (go (k.who - c.heads) ks (λ q. g (omega (arith, f k.who (inl refl)))) d.1 (λ z j. f z (inr j)) h)))

  -- right before y: behind its predecessor
  pub before_spot : (n : Notice) (y : ℕ) → In y (whos ns) → Spot c ns n (prev_on (half c) a (y - c.heads)) (before y n ns)
  before_spot n y i =
      let q = y - c.heads in
      let S = sucs (half c) a.axis in
      let P = pres (half c) a.axis in
      let on_y : In q (places c ns) = who_place c ns y i in
      record {
        on = prev_in_lem S P (half c - 1) (places c ns) (half c - 1) q (chain c ns a sp) (inl on_y);
        there =
            behind_ahead S P q (n.who - c.heads) (back S P (half c - 1) (places c ns) (half c - 1) q (chain c ns a sp) (inl on_y))
            (half c - 1) (places c ns) (half c - 1) (chain c ns a sp)
            ∙ go ns (off_head c ns a sp q on_y) (dist_all c ns a sp).1 (λ z j. (is_process_lem c ns a sp z j).over)
            (is_process_lem c ns a sp y i).over;
        puts = before_ins y n ns i;
      }
    where
      go : (l : List Notice) → y - c.heads ≢ half c - 1 → Dist (places c l) → ((z : ℕ) → In z (whos l) → c.heads < z) → c.heads < y
          → ahead (y - c.heads) (n.who - c.heads) (places c l) (half c - 1) ≡ places c (before y n l)
      go [] ne d f h = rw (ne_eqb (half c - 1) (y - c.heads) (λ e. ne (sym e)))
      go (k ∷ ks) ne d f h =
          decide k.who y
          (λ e.
          rw (eq-eqb k.who y e, eq-eqb (k.who - c.heads) (y - c.heads) (ap (λ (j : ℕ). j - c.heads) e)))
          (λ g.
          rw (ne_eqb k.who y g, ne_eqb (k.who - c.heads) (y - c.heads) (λ q. g (omega (arith, f k.who (inl refl)))))
          (ap (λ (r : List ℕ). (k.who - c.heads) ∷ r) (go ks ne d.1 (λ z j. f z (inr j)) h)))

-- ---- where ACTIVATE places the new notice, the old notice of its process being gone

pub place_spot : (c : Counts) (l : List Notice) (b : Sqs) → SpellsTime c l b → InOrder l → (k y now : ℕ) (n : Notice) → k ≤ 6
    → (5 ≤ k → In y (whos l)) → From now l → Spot c l n (place_for (half c) k (y - c.heads) now n.due b) (placed k y n l)
unfolding place_for placed
place_spot c l b sp o k y now n k6 on f =
    test (eqb k 5) (λ e. rw e (before_spot c l b sp n y (on (omega (arith, eqb-true k 5 e))))) (λ e5.
    test (eqb k 6) (λ e. rw (e5, e) (after_spot c l b sp n y (on (omega (arith, eqb-true k 6 e))))) (λ e6.
    test (eqb k 1 || eqb k 2)
    (λ e. rw (e5, e6, e) (subst (λ (r : List Notice). Spot c l n (found (half c) (suc n.due) b) r) (by_behind n l)
    (found_spot c l b sp n (suc n.due) o)))
    (λ e.
    test (eqb n.due now)
    (λ q. rw (e5, e6, e, q) (subst (λ (r : List Notice). Spot c l n (half c - 1) r)
    (sym (front_first n now l (omega (arith, eqb-true n.due now q)) f)) (first_spot c l b sp n)))
    (λ q. rw (e5, e6, e, q) (subst (λ (r : List Notice). Spot c l n (found (half c) n.due b) r) (by_front n l)
    (found_spot c l b sp n n.due o))))))
