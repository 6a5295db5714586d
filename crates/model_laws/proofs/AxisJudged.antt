-- The judge of the axis answers yes exactly where there are events that the axis spells, with their times and marks.
use Rattle.std.specs.Prelude.{ℕ, ◌+◌, ◌*◌, ◌-◌, ◌<◌, ◌≤◌, ◌≡◌, refl, ◌≢◌, true, false, List, [], ◌∷◌, eqb, length, get_or}
use Rattle.std.proofs.Common.{sym, ap, ◌∙◌, inl, inr, ⊎_elim, arith, get_or-take}
use borrow.Author.Tests.{eq-eqb, ne_eqb, eqb-true, eqb-false}
use Rattle.model.specs.Counts.{limit, both}
use Rattle.ring_laws.specs.Lists.{In, decide, clash}
use Rattle.ring_laws.specs.Chain.{Chain, next_in_lem}
use Rattle.ring_laws.specs.Distinct.{pigeon}
use Rattle.ring_laws.specs.Rings.{Head, Rings, apart, rings_cong, rings_dist, free}
use Rattle.ring_laws.specs.Stores.{sucs, pres}
use Rattle.axis_laws.specs.AxisRing.{axis_head, axis_layout}
use Rattle.ring_laws.specs.Judge.{idle, rings_fine}
use Rattle.ring_laws.proofs.Busy.{idle_not, zeros_idle}
use Rattle.ring_laws.specs.Rows.{at_most_more}
use Rattle.ring_laws.proofs.Fine.{sound, complete}
use Rattle.model_laws.specs.Judge.{places_fine, axis_fine}
use Rattle.axis_laws.specs.Marks.{unless, mark_none, mark_idle, mark_mean}
use Rattle.model_laws.proofs.Tests.{time_idle, time_mean, mean_time, places_mean}
use Rattle.model_laws.specs.Tests.{never_fall, order_next}
use Rattle.model_laws.proofs.Tests.{mean_places}
use Rattle.model_laws.specs.AxisJudged.{AxisSpelled}

module _ (p : ℕ) (axis times marks : List ℕ) where
  abbrev S : ℕ → ℕ
  S = sucs (p + 2) axis

  abbrev P : ℕ → ℕ
  P = pres (p + 2) axis

  -- the five tests
  record Tests : Type 0 where
    pub time0 : get_or times 0 0 ≡ 0
    pub mark0 : get_or marks 0 0 ≡ 0
    pub rings : rings_fine S P 1 (p + 1) (p + 1) 1 (p + 1) ≡ true
    pub some : S (p + 1) ≢ p + 1
    pub places : places_fine S P (p + 1) times marks p ≡ true

  last_s : S (p + 1) ≡ get_or axis (p + 1) 0
  last_s = get_or-take (p + 2) axis (p + 1) 0 (omega arith)

  tests_of : axis_fine p axis times marks ≡ true → Tests
  unfolding axis_fine
  tests_of e =
      let a = both (eqb (get_or times 0 0) 0) _ e in
      let b = both (eqb (get_or marks 0 0) 0) _ a.1 in
      let c = both (rings_fine S P 1 (p + 1) (p + 1) 1 (p + 1)) _ b.1 in
      let d = unless (eqb (get_or axis (p + 1) 0) (p + 1)) _ c.1 in
      record {
        time0 = eqb-true (get_or times 0 0) 0 a.0;
        mark0 = eqb-true (get_or marks 0 0) 0 b.0;
        rings = c.0;
        some = λ q. eqb-false (get_or axis (p + 1) 0) (p + 1) d.0 (sym last_s ∙ q);
        places = d.1;
      }

  of_tests : Tests → axis_fine p axis times marks ≡ true
  unfolding axis_fine
  of_tests t =
      rw (
        eq-eqb (get_or times 0 0) 0 t.time0,
        eq-eqb (get_or marks 0 0) 0 t.mark0,
        t.rings,
        ne_eqb (get_or axis (p + 1) 0) (p + 1) (λ q. t.some (last_s ∙ q)),
      ) t.places

  -- the axis's own head
  own : Head (p + 2) (axis_head (p + 2)) (p + 1)
  own = (axis_layout p).in_head (p + 1) (omega arith) (omega arith)

  module _ (events : List ℕ) (r : Rings (p + 2) (axis_head (p + 2)) (λ h. events) S P) where
    not_own : In (p + 1) events → ⊥
    not_own k = apart (p + 2) (axis_head (p + 2)) (p + 1) (p + 1) own (r.only (p + 1) (p + 1) own k) refl

    event_busy : (y : ℕ) → In y events → idle S P y ≡ false
    event_busy y k = idle_not S P y (λ z. free (p + 2) (axis_head (p + 2)) (λ h. events) S P r y z (p + 1) own k)

    event_place : (y : ℕ) → In y events → (0 < y) × (y ≤ p)
    event_place y k = let b = (axis_layout p).link_in y (r.only (p + 1) y own k) in (b.0, omega (arith, b.1))

    -- the events are distinct places up to p
    few : length events ≤ p + 1
    few =
        pigeon (p + 1) events (rings_dist (p + 2) (axis_head (p + 2)) (λ h. events) S P r (p + 1) own).1
        (λ y k. omega (arith, event_place y k))

    -- an event, or idle
    which : {A : Type 0} (y : ℕ) → 0 < y → y ≤ p → (In y events → A) → (idle S P y ≡ true → (In y events → ⊥) → A) → A
    which y a b f g =
        ⊎_elim
        (λ w. f w.2)
        (λ z. g (zeros_idle S P y z.0 z.1) (λ k. free (p + 2) (axis_head (p + 2)) (λ h. events) S P r y z.0 (p + 1) own k))
        (r.whole y ((axis_layout p).in_link y a (omega arith)))

    spelled : length axis ≡ 2 * (p + 2) → Tests → AxisSpelled p events axis times marks
    spelled two t =
        let fine = places_mean S P (p + 1) times marks p in
        let at : (y : ℕ) → In y events → (get_or times y 0 ≤ limit) × (S y < p + 1 → get_or times y 0 ≤ get_or times (S y) 0) =
        λ y k. let b = event_place y k in time_mean S P (p + 1) times y (event_busy y k) (fine y t.places b.0 b.1).0 in
        record {
          ring = record { two = two; rings = r };
          some = go events (r.ring (p + 1) own);
          order =
              never_fall S P (p + 1) times (p + 1) events (r.ring (p + 1) own) not_own
              (λ y k n. (at y k).1 (⊎_elim
              (λ i. let b = event_place (S y) i in omega (arith, b.1))
              (λ e. absurd (n e))
              (next_in_lem S P (p + 1) events (p + 1) y (r.ring (p + 1) own) (inr k))));
          limits = λ y k. (at y k).0;
          idle_times = λ y b out.
              decide y 0
              (λ e. rw e t.time0)
              (λ n. which y (omega arith) b
              (λ k. absurd (out k))
              (λ i o. eqb-true (get_or times y 0) 0 (sym (time_idle S P (p + 1) times y i) ∙ (fine y t.places (omega arith) b).0)));
          marked = λ y b.
              decide y 0
              (λ e. inl (rw e t.mark0))
              (λ n. ⊎_elim
              (λ z. inl z)
              (λ w. inr (w.0, w.1, λ k. clash (sym (event_busy y k) ∙ w.2)))
              (mark_mean S P marks y (fine y t.places (omega arith) b).1));
          zero_mark = t.mark0;
        }
      where
        go : (l : List ℕ) → Chain S P (p + 1) l (p + 1) → 0 < length l
        go [] c = absurd (t.some c.next)
        go (z ∷ l) c = omega arith

  -- yes: there are events
  pub axis_sound : length axis ≡ 2 * (p + 2) → axis_fine p axis times marks ≡ true
      → (events : List ℕ) × AxisSpelled p events axis times marks
  axis_sound two e =
      let t : Tests = tests_of e in
      let f = sound (p + 2) (axis_head (p + 2)) 1 (p + 1) 1 (p + 1) (axis_layout p) S P (p + 1) t.rings in
      let events = get_or f.sets 0 [] in (
        events,
        spelled events
            (rings_cong (p + 2) (axis_head (p + 2)) (λ h. get_or f.sets (h - (p + 1)) []) (λ h. events) S P
            (λ h a.
            let b = (axis_layout p).head_in h a in
            ap (λ (j : ℕ). get_or f.sets j []) (omega (arith, b)))
            f.rings)
            two t,
      )

  -- events: yes
  pub axis_complete : (events : List ℕ) → AxisSpelled p events axis times marks → axis_fine p axis times marks ≡ true
  axis_complete events s =
      let r : Rings (p + 2) (axis_head (p + 2)) (λ h. events) S P = s.ring.rings in
      of_tests (record {
        time0 = s.idle_times 0 (omega arith) (λ k. omega (arith, event_place events r 0 k));
        mark0 = s.zero_mark;
        rings =
            complete (p + 2) (axis_head (p + 2)) 1 (p + 1) 1 (p + 1) (axis_layout p) S P (p + 1) (events ∷ []) refl
            (rings_cong (p + 2) (axis_head (p + 2)) (λ h. events) (λ h. get_or (events ∷ []) (h - (p + 1)) []) S P
            (λ h a.
            let b = (axis_layout p).head_in h a in
            let q : 0 ≡ h - (p + 1) = omega (arith, b) in
            ap (λ (j : ℕ). get_or (events ∷ []) j []) q)
            r)
            (at_most_more (p + 1) events [] (few events r) (λ i. omega arith));
        some = go events s.some (r.ring (p + 1) own) (not_own events r);
        places =
            mean_places S P (p + 1) times marks p
            (λ y a b. (
              which events r y a b
                  (λ k. mean_time S P (p + 1) times y (event_busy events r y k) (s.limits y k)
                  (λ l. order_next S P (p + 1) times (p + 1) events (r.ring (p + 1) own) s.order y k (λ e. omega arith)))
                  (λ i out. time_idle S P (p + 1) times y i ∙ eq-eqb (get_or times y 0) 0 (s.idle_times y b out)),
              ⊎_elim
                  (λ z. mark_none S P marks y z)
                  (λ w. mark_idle S P marks y w.0 w.1 ∙ which events r y a b (λ k. absurd (w.2 k)) (λ i out. i))
                  (s.marked y b),
            ));
      })
    where
      go : (l : List ℕ) → 0 < length l → Chain S P (p + 1) l (p + 1) → (In (p + 1) l → ⊥) → S (p + 1) ≢ p + 1
      go [] h c out = absurd (none h)
        where
          none : 0 < 0 → ⊥
          none h = omega arith
      go (z ∷ l) h c out = λ e. out (inl (sym e ∙ c.0.next))
