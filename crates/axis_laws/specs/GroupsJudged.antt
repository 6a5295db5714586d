-- The judge of the axis answers yes exactly where there are groups that the tables spell, with their times and marks.
use Rattle.std.specs.Prelude.{ℕ, ◌+◌, ◌*◌, ◌-◌, ◌<◌, ◌≤◌, ◌≡◌, refl, ◌≢◌, ◌⊎◌, Bool, true, false, ◌&&◌, List, [], ◌∷◌, eqb, length, get_or, take, drop}
use Rattle.std.proofs.Common.{sym, ap, ◌∙◌, subst, inl, inr, ⊎_elim, arith, not-suc-le-zero, length-drop, get_or-take, length-take-le, take_all}
use Rattle.std.proofs.Math.ListN.{get_or-eq_default}
use borrow.Author.Tests.{eq-eqb, ne_eqb, eqb-true, eqb-false}
use Rattle.model.specs.Counts.{limit, both}
use Rattle.ring_laws.specs.Lists.{In, decide, below, inside, test, clash}
use Rattle.ring_laws.specs.Distinct.{Dist, fits, covers, pigeon}
use Rattle.ring_laws.specs.Chain.{Chain, next_in_lem}
use Rattle.ring_laws.specs.Rings.{Head, Rings, apart, rings_cong}
use Rattle.ring_laws.specs.Stores.{sucs, pres}
use Rattle.ring_laws.specs.Judge.{idle, busy, rings_fine}
use Rattle.ring_laws.proofs.Busy.{idle_not, idle_zeros, zeros_idle, busy_place, place_busy, busy_dist}
use Rattle.ring_laws.proofs.Fine.{sound, complete}
use Rattle.ring_laws.specs.Rows.{at_most_more}
use Rattle.ring_laws.specs.Table.{Sound}
use Rattle.ring_laws.proofs.Spell.{spells_sound}
use Rattle.axis_laws.specs.Notices.{due_of}
use Rattle.axis_laws.specs.AxisRing.{axis_head, SpellsAxis}
use Rattle.axis_laws.specs.AxisRing.{axis_layout, axis_head_lem, axis_event}
use Rattle.axis_laws.specs.Reading.{due_none}
use Rattle.axis_laws.specs.Marks.{unless, mark_none, mark_idle, mark_mean}
use Rattle.axis_laws.specs.Groups.{Group, spelled_out, members, leaders, members_are, Rising}
use Rattle.axis_laws.specs.Outs.{lead_in, which, own_dist, own_in, later_in, later_dist}
use Rattle.axis_laws.specs.Leads.{lead_dist}
use Rattle.axis_laws.specs.Loops.{neighbours}
use Rattle.axis_laws.specs.Search.{due_own, due_later}
use Rattle.axis_laws.specs.Timeline.{Timeline, timeline, SpellsGroups}
use Rattle.axis_laws.specs.Ticks.{lead_none}
use Rattle.axis_laws.specs.Judge.{rounds, notices_fine, peers_fine, timeline_fine}
use Rattle.axis_laws.specs.Rounds.{Owns, Rounded, rounds_groups, groups_rounds}
use Rattle.axis_laws.specs.NoticeTests.{Timely, notice_idle, notice_mean, mean_notice, notices_mean, mean_notices, Dated, dated, once_of, due_dated, rising_of, next_due, lead_rise}

-- the groups, with times and marks as the paper has them
pub record GroupsSpelled (p : ℕ) (gs : List Group) (a : Timeline) (marks : List ℕ) : Type 0 where
  pub spelled : SpellsGroups (p + 2) gs a
  -- "The axis ring holds at least one process and its times, none above the limit .."
  pub some : 0 < length gs
  pub limits : (y : ℕ) → In y (members gs) → get_or a.times y 0 ≤ limit
  -- "A terminated process is idle and isn't main"
  pub marked : (y : ℕ) → y ≤ p → (get_or marks y 0 ≡ 0) ⊎ ((get_or marks y 0 ≡ 1) × (y ≢ 1) × (In y (members gs) → ⊥))
  pub zero_mark : get_or marks 0 0 ≡ 0

module _ (p : ℕ) (a : Timeline) (marks : List ℕ) where
  abbrev S : ℕ → ℕ
  S = sucs (p + 2) a.ticks

  abbrev P : ℕ → ℕ
  P = pres (p + 2) a.ticks

  abbrev R : ℕ → ℕ
  R = sucs (p + 2) a.peers

  abbrev Q : ℕ → ℕ
  Q = pres (p + 2) a.peers

  abbrev T : ℕ → ℕ
  T y = get_or a.times y 0

  -- how many stand on rings of one time
  abbrev K : ℕ
  K = length (busy (sucs (p + 2) a.peers) (pres (p + 2) a.peers) 1 (p + 1 - 1))

  record Tests : Type 0 where
    pub time0 : get_or a.times 0 0 ≡ 0
    pub mark0 : get_or marks 0 0 ≡ 0
    pub rings : rings_fine S P 1 (p + 1) (p + 1) 1 (p + 1) ≡ true
    pub some : S (p + 1) ≢ p + 1
    pub idle0 : idle R Q 0 ≡ true
    pub idle_head : idle R Q (p + 1) ≡ true
    pub rounded : rounds S R Q (p + 1) (p + 1) (p + 2) (S (p + 1)) K ≡ true
    pub places : notices_fine S R Q (p + 1) a.times marks p ≡ true

  last_s : S (p + 1) ≡ get_or a.ticks (p + 1) 0
  last_s = get_or-take (p + 2) a.ticks (p + 1) 0 (omega arith)

  tests_of : timeline_fine p a marks ≡ true → Tests
  unfolding timeline_fine peers_fine
  tests_of e =
      let b = both (eqb (T 0) 0) _ e in
      let c = both (eqb (get_or marks 0 0) 0) _ b.1 in
      let d = both (rings_fine S P 1 (p + 1) (p + 1) 1 (p + 1)) _ c.1 in
      let f = unless (eqb (get_or a.ticks (p + 1) 0) (p + 1)) _ d.1 in
      let g = both (idle R Q 0 && (idle R Q (p + 1) && rounds S R Q (p + 1) (p + 1) (p + 2) (S (p + 1)) K)) _ f.1 in
      let h = both (idle R Q 0) _ g.0 in
      let i = both (idle R Q (p + 1)) _ h.1 in
      record {
        time0 = eqb-true (T 0) 0 b.0;
        mark0 = eqb-true (get_or marks 0 0) 0 c.0;
        rings = d.0;
        some = λ q. eqb-false (get_or a.ticks (p + 1) 0) (p + 1) f.0 (sym last_s ∙ q);
        idle0 = h.0;
        idle_head = i.0;
        rounded = i.1;
        places = g.1;
      }

  of_tests : Tests → timeline_fine p a marks ≡ true
  unfolding timeline_fine peers_fine
  of_tests t =
      rw (
        eq-eqb (T 0) 0 t.time0,
        eq-eqb (get_or marks 0 0) 0 t.mark0,
        t.rings,
        ne_eqb (get_or a.ticks (p + 1) 0) (p + 1) (λ q. t.some (last_s ∙ q)),
        t.idle0,
        t.idle_head,
        t.rounded,
      ) t.places

  own : Head (p + 2) (axis_head (p + 2)) (p + 1)
  own = axis_head_lem p

  -- ---- yes: there are groups

  module _ (two : length a.ticks ≡ 2 * (p + 2)) (peers-two : length a.peers ≡ 2 * (p + 2)) (full : length a.times ≡ p + 1)
      (ls : List ℕ) (r : Rings (p + 2) (axis_head (p + 2)) (λ h. ls) S P) (t : Tests) (g : Rounded R Q (p + 1) (λ y. get_or a.times y 0) ls K) where
    abbrev gs : List Group
    gs = g.groups

    chain_s : Chain S P (p + 1) (leaders gs) (p + 1)
    chain_s = subst (λ (l : List ℕ). Chain S P (p + 1) l (p + 1)) (sym g.lead) (r.ring (p + 1) own)

    lead_place : (y : ℕ) → In y (leaders gs) → (0 < y) × (y ≤ p)
    lead_place y i = axis_event p a.ticks ls (record { two = two; rings = r }) y (subst (λ (l : List ℕ). In y l) g.lead i)

    not_lead : In (p + 1) (leaders gs) → ⊥
    not_lead i = omega (arith, lead_place (p + 1) i)

    all_place : (ks : List Group) → Owns (p + 1) (λ y. get_or a.times y 0) ks → ((y : ℕ) → In y (leaders ks) → (0 < y) × (y ≤ p)) → (y : ℕ) → In y (members ks)
        → (0 < y) × (y ≤ p)
    all_place [] o f y i = absurd i
    all_place (k ∷ ks) o f y i =
        which y k ks i
        (⊎_elim (λ e. rw e (f k.leader (inl refl))) (λ j. let b = o.0.inner y j in (b.0, omega (arith, b.1))))
        (λ later. all_place ks o.1 (λ z j. f z (inr j)) y later)

    place : (y : ℕ) → In y (members gs) → (0 < y) × (y ≤ p)
    place y i = all_place gs g.owns lead_place y i

    member_busy : (y : ℕ) → In y (members gs) → idle R Q y ≡ false
    member_busy y i = idle_not R Q y (λ z. omega (arith, (place (R y) (neighbours R Q gs y g.loops i).next_in_lem).0))

    timely : (y : ℕ) → In y (members gs) → Timely S R Q (p + 1) a.times y
    timely y i =
        let b = place y i in
        notice_mean S R Q (p + 1) a.times y (member_busy y i) (notices_mean S R Q (p + 1) a.times marks p y t.places b.0 b.1).0

    rising : Rising gs
    rising =
        rising_of a.times S P (p + 1) (p + 1) (p + 1) gs chain_s not_lead
        (λ y i n.
        ⊎_elim
        (λ j. let b = lead_place (S y) j in (timely y (lead_in y gs i)).rise (λ e. omega (arith, b.0)) (omega (arith, b.1)))
        (λ e. absurd (n e))
        (next_in_lem S P (p + 1) (leaders gs) (p + 1) y chain_s (inr i)))
        g.owns

    has_dates : Dated a.times gs
    has_dates = dated a.times R Q (p + 1) gs g.loops g.owns (λ y i. (timely y i).same)

    once : Dist (members gs)
    once = once_of a.times R Q (p + 1) gs rising has_dates g.loops g.owns

    -- what is on no ring has zeros
    off_inside : (y : ℕ) → 0 < y → y ≤ p → (In y (members gs) → ⊥) → idle R Q y ≡ true
    off_inside y s l o =
        test (idle R Q y) (λ e. e)
        (λ e. absurd (o (covers (members gs) (busy R Q 1 (p + 1 - 1)) once
        (λ z i. let b = place z i in place_busy R Q 1 (p + 1 - 1) z b.0 (omega (arith, b.1)) (member_busy z i))
        (omega (arith, g.count)) y (place_busy R Q 1 (p + 1 - 1) y s (omega arith) e))))

    off : (y : ℕ) → (In y (members gs) → ⊥) → (R y ≡ 0) × (Q y ≡ 0)
    off y o =
        decide y 0
        (λ e. idle_zeros R Q y (rw e t.idle0))
        (λ n. below p y
        (λ l. decide y (p + 1)
        (λ e. idle_zeros R Q y (rw e t.idle_head))
        (λ d. (
          get_or-eq_default (take (p + 2) a.peers) 0 {n = y} (omega (arith, length-take-le (p + 2) a.peers (omega arith))),
          get_or-eq_default a.peers 0 {n = p + 2 + y} (omega arith),
        )))
        (λ l. idle_zeros R Q y (off_inside y (omega arith) l o)))

    time_none : (y : ℕ) → (In y (members gs) → ⊥) → T y ≡ 0
    time_none y o =
        decide y 0
        (λ e. rw e t.time0)
        (λ n. below p y
        (λ l. get_or-eq_default a.times 0 {n = y} (omega arith))
        (λ l. eqb-true (T y) 0
        (sym (notice_idle S R Q (p + 1) a.times y (off_inside y (omega arith) l o))
        ∙ (notices_mean S R Q (p + 1) a.times marks p y t.places (omega arith) l).0)))

    found : GroupsSpelled p gs a marks
    found =
        record {
          spelled =
              record {
                ticks = subst (λ (l : List ℕ). SpellsAxis (p + 2) l a.ticks) (sym g.lead) (record { two = two; rings = r });
                peers = record { two = peers-two; loops = g.loops; off = off };
                rising = rising;
                once = once;
                place = λ y i. let b = place y i in (b.0, omega (arith, b.1));
                full = omega arith;
                timed = λ y.
                    inside y (members gs)
                    (λ i. due_dated a.times gs y once has_dates i)
                    (λ o. time_none y o ∙ sym (due_none (spelled_out gs) y (λ i. o (subst (λ (l : List ℕ). In y l) (members_are gs) i))));
              };
          some = go gs chain_s;
          limits = λ y i. (timely y i).within;
          marked = λ y l.
              decide y 0
              (λ e. inl (rw e t.mark0))
              (λ n. ⊎_elim
              (λ z. inl z)
              (λ w. inr (w.0, w.1, λ i. clash (sym (member_busy y i) ∙ w.2)))
              (mark_mean R Q marks y (notices_mean S R Q (p + 1) a.times marks p y t.places (omega arith) l).1));
          zero_mark = t.mark0;
        }
      where
        go : (ks : List Group) → Chain S P (p + 1) (leaders ks) (p + 1) → 0 < length ks
        go [] c = absurd (t.some c.next)
        go (k ∷ ks) c = omega arith

  pub notices_sound : length a.ticks ≡ 2 * (p + 2) → length a.peers ≡ 2 * (p + 2) → length a.times ≡ p + 1 → timeline_fine p a marks ≡ true
      → (gs : List Group) × GroupsSpelled p gs a marks
  notices_sound two peers-two full e =
      let t : Tests = tests_of e in
      let f = sound (p + 2) (axis_head (p + 2)) 1 (p + 1) 1 (p + 1) (axis_layout p) S P (p + 1) t.rings in
      let ls = get_or f.sets 0 [] in
      let r : Rings (p + 2) (axis_head (p + 2)) (λ h. ls) S P =
      rings_cong (p + 2) (axis_head (p + 2)) (λ h. get_or f.sets (h - (p + 1)) []) (λ h. ls) S P
      (λ h b. let c = (axis_layout p).head_in h b in ap (λ (j : ℕ). get_or f.sets j []) (omega (arith, c)))
      f.rings in
      let out : In (p + 1) ls → ⊥ = λ k. apart (p + 2) (axis_head (p + 2)) (p + 1) (p + 1) own (r.only (p + 1) (p + 1) own k) refl in
      let g : Rounded R Q (p + 1) (λ y. get_or a.times y 0) ls K =
      rounds_groups S P R Q (p + 1) (p + 1) (λ y. get_or a.times y 0) ls (p + 1) (p + 2) K (r.ring (p + 1) own) out t.rounded in
      (g.groups, found two peers-two full ls r t g)

  -- ---- groups: yes

  module _ (gs : List Group) (s : GroupsSpelled p gs a marks) where
    abbrev sp : SpellsGroups (p + 2) gs a
    sp = s.spelled

    at : (y : ℕ) → In y (members gs) → (0 < y) × (y ≤ p)
    at y i = let b = sp.place y i in (b.0, omega (arith, b.1))

    chain_c : Chain S P (p + 1) (leaders gs) (p + 1)
    chain_c = sp.ticks.rings.ring (p + 1) own

    out_c : In (p + 1) (leaders gs) → ⊥
    out_c i = omega (arith, at (p + 1) (lead_in (p + 1) gs i))

    busy_c : (y : ℕ) → In y (members gs) → idle R Q y ≡ false
    busy_c y i = idle_not R Q y (λ z. omega (arith, (at (R y) (neighbours R Q gs y sp.peers.loops i).next_in_lem).0))

    idle_c : (y : ℕ) → (In y (members gs) → ⊥) → idle R Q y ≡ true
    idle_c y o = let b = sp.peers.off y o in zeros_idle R Q y b.0 b.1

    time_c : (y : ℕ) → (In y (members gs) → ⊥) → T y ≡ 0
    time_c y o = sp.timed y ∙ due_none (spelled_out gs) y (λ i. o (subst (λ (l : List ℕ). In y l) (members_are gs) i))

    owns_c : (ks : List Group) → Dist (members ks) → ((y : ℕ) → In y (members ks) → (0 < y) × (y ≤ p))
        → ((y : ℕ) → In y (members ks) → T y ≡ due_of y (spelled_out ks)) → Owns (p + 1) (λ y. get_or a.times y 0) ks
    owns_c [] d f u = tt
    owns_c (k ∷ ks) d f u = (
      record {
        inner = λ y i. let b = f y (own_in y k ks (inr i)) in (b.0, omega (arith, b.1));
        apart = (own_dist k ks d).0;
        due_is = sym (u k.leader (inl refl) ∙ due_own k ks k.leader (inl refl));
      },
      owns_c ks (later_dist k ks d) (λ y i. f y (later_in y k ks i))
          (λ y i. u y (later_in y k ks i) ∙ due_later k ks y d i),
    )

    count_c : length (members gs) ≡ K
    count_c =
        let few : length (members gs) ≤ K =
        fits (members gs) (busy R Q 1 (p + 1 - 1)) sp.once
        (λ y i. let b = at y i in place_busy R Q 1 (p + 1 - 1) y b.0 (omega (arith, b.1)) (busy_c y i)) in
        let many : K ≤ length (members gs) =
        fits (busy R Q 1 (p + 1 - 1)) (members gs) (busy_dist R Q 1 (p + 1 - 1))
        (λ y k. inside y (members gs) (λ i. i) (λ o. clash (sym (busy_place R Q 1 (p + 1 - 1) y k).2 ∙ idle_c y o))) in
        omega arith

    lead_time : (y : ℕ) → In y (members gs) → S y ≢ 0 → S y < p + 1 → T y < T (S y)
    lead_time y i n l =
        inside y (leaders gs)
        (λ j. omega (arith, lead_rise S P (p + 1) (p + 1) gs y chain_c sp.rising sp.once j (λ e. omega arith), sp.timed y, sp.timed (S y)))
        (λ o. let b = sp.place y i in absurd (n (lead_none (p + 2) gs a sp y b.0 b.1 o)))

    few_c : length (leaders gs) ≤ p + 1
    few_c = pigeon (p + 1) (leaders gs) (lead_dist gs sp.once) (λ y k. omega (arith, at y (lead_in y gs k)))

    pub notices_complete : timeline_fine p a marks ≡ true
    notices_complete =
        of_tests (record {
          time0 = time_c 0 (λ i. omega (arith, at 0 i));
          mark0 = s.zero_mark;
          rings =
              complete (p + 2) (axis_head (p + 2)) 1 (p + 1) 1 (p + 1) (axis_layout p) S P (p + 1) (leaders gs ∷ []) refl
              (rings_cong (p + 2) (axis_head (p + 2)) (λ h. leaders gs) (λ h. get_or (leaders gs ∷ []) (h - (p + 1)) []) S P
              (λ h b.
              let c = (axis_layout p).head_in h b in
              let q : 0 ≡ h - (p + 1) = omega (arith, c) in
              ap (λ (j : ℕ). get_or (leaders gs ∷ []) j []) q)
              sp.ticks.rings)
              (at_most_more (p + 1) (leaders gs) [] few_c (λ i. omega arith));
          some = go gs s.some chain_c out_c;
          idle0 = idle_c 0 (λ i. omega (arith, at 0 i));
          idle_head = idle_c (p + 1) (λ i. omega (arith, at (p + 1) i));
          rounded =
              groups_rounds S P R Q (p + 1) (p + 1) (λ y. get_or a.times y 0) gs (p + 1) (p + 2) K chain_c out_c
              (λ y i e. omega (arith, at y (lead_in y gs i)))
              sp.peers.loops (owns_c gs sp.once at (λ y i. sp.timed y)) count_c
              (omega (arith, pigeon (p + 1) (leaders gs) (lead_dist gs sp.once) (λ y i. omega (arith, at y (lead_in y gs i)))));
          places =
              mean_notices S R Q (p + 1) a.times marks p
              (λ y b l. (
                inside y (members gs)
                    (λ i. mean_notice S R Q (p + 1) a.times y (busy_c y i)
                    (record {
                      within = s.limits y i;
                      same = sp.timed (R y) ∙ next_due R Q gs y sp.peers.loops sp.once i ∙ sym (sp.timed y);
                      rise = lead_time y i;
                    }))
                    (λ o. notice_idle S R Q (p + 1) a.times y (idle_c y o) ∙ eq-eqb (T y) 0 (time_c y o)),
                ⊎_elim
                    (λ z. mark_none R Q marks y z)
                    (λ w. mark_idle R Q marks y w.0 w.1 ∙ idle_c y w.2)
                    (s.marked y l),
              ));
        })
      where
        go : (ks : List Group) → 0 < length ks → Chain S P (p + 1) (leaders ks) (p + 1) → (In (p + 1) (leaders ks) → ⊥) → S (p + 1) ≢ p + 1
        go [] h c out = absurd (not-suc-le-zero h)
        go (k ∷ ks) h c out = λ e. out (inl (sym e ∙ c.0.next))

-- ---- what the code's functions ask among themselves

-- the four tables, the axis in its halves
pub record Lent (p : ℕ) (ticks peers times marks : List ℕ) : Type 0 where
  pub ticks_is : length ticks ≡ 2 * (p + 2)
  pub peers_is : length peers ≡ 2 * (p + 2)
  pub times_is : length times ≡ p + 1
  pub marks_is : length marks ≡ p + 1

-- and as it is lent
pub record LentWhole (p : ℕ) (axis times marks : List ℕ) : Type 0 where
  pub axis_is : length axis ≡ 4 * (p + 2)
  pub times_is : length times ≡ p + 1
  pub marks_is : length marks ≡ p + 1

pub lent_halves : (p : ℕ) (axis times marks : List ℕ) → LentWhole p axis times marks → Lent p (take (2 * (p + 2)) axis) (drop (2 * (p + 2)) axis) times marks
lent_halves p axis times marks l =
    record {
      ticks_is = length-take-le (2 * (p + 2)) axis (omega (arith, l.axis_is));
      peers_is = omega (arith, length-drop (2 * (p + 2)) axis, l.axis_is);
      times_is = l.times_is;
      marks_is = l.marks_is;
    }

-- a ring of times that is fine has each word in the table
pub fine_sound : (p : ℕ) (ticks : List ℕ) → length ticks ≡ 2 * (p + 2) → rings_fine (sucs (p + 2) ticks) (pres (p + 2) ticks) 1 (p + 1) (p + 1) 1 (p + 1) ≡ true → Sound (p + 2) ticks
fine_sound p ticks two e =
    let f = sound (p + 2) (axis_head (p + 2)) 1 (p + 1) 1 (p + 1) (axis_layout p) (sucs (p + 2) ticks) (pres (p + 2) ticks) (p + 1) e in
    spells_sound (p + 2) (axis_head (p + 2)) (λ h. get_or f.sets (h - (p + 1)) []) ticks (record { two = two; rings = f.rings }) (omega arith)

-- the halves as parts of the slice that is lent
module _ (p : ℕ) (axis times marks : List ℕ) (l : LentWhole p axis times marks) where
  pub lent_length : 2 * (p + 2) ≡ length (take (2 * (p + 2)) axis)
  lent_length = sym (length-take-le (2 * (p + 2)) axis (omega (arith, l.axis_is)))

  lent_rest : take (length axis - 2 * (p + 2)) (drop (2 * (p + 2)) axis) ≡ drop (2 * (p + 2)) axis
  lent_rest = take_all (length axis - 2 * (p + 2)) (drop (2 * (p + 2)) axis) (omega (arith, length-drop (2 * (p + 2)) axis))

  pub lent_parts : Lent p (take (2 * (p + 2)) axis) (take (length axis - 2 * (p + 2)) (drop (2 * (p + 2)) axis)) times marks
  lent_parts = rw lent_rest (lent_halves p axis times marks l)

  pub notices_parts : (r : Bool)
      → r ≡ timeline_fine p (record { ticks = take (2 * (p + 2)) axis; peers = take (length axis - 2 * (p + 2)) (drop (2 * (p + 2)) axis); times = times }) marks
      → r ≡ timeline_fine p (timeline (p + 2) axis times) marks
  notices_parts r e = e ∙ ap (λ (d : List ℕ). timeline_fine p (record { ticks = take (2 * (p + 2)) axis; peers = d; times = times }) marks) lent_rest
