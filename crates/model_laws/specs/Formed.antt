-- The judge of tables answers yes exactly where they are well formed.
use Rattle.std.specs.Prelude.{ℕ, suc, ◌+◌, ◌*◌, ◌-◌, ◌<◌, ◌≤◌, ◌≡◌, true, List, [], length, get_or}
use Rattle.std.proofs.Common.{sym, ap, ◌∙◌, subst, inl, inr, ⊎_elim, arith, leb-true, leb-false, le-leb}
use Rattle.std.proofs.lemmas.Bool.{lt-leb}
use Rattle.ring_laws.specs.Lists.{In, decide, test, inside}
use Rattle.ring_laws.specs.Distinct.{Dist}
use Rattle.ring_laws.specs.Stores.{sucs, pres}
use Rattle.ring_laws.proofs.Spell.{spells_dist}
use Rattle.ring_laws.specs.Rows.{Layout}
use Rattle.ring_laws.proofs.Fine.{sound, complete}
use Rattle.model.specs.declared.Counts.{Counts}
use Rattle.model.specs.Counts.{total, most_members}
use Rattle.axis_laws.specs.Notices.{whos, places, due_of}
use Rattle.ring_laws.specs.Tabulate.{has, bit, table_at, at_table, has_in}
use Rattle.model_laws.specs.Tables.{Tables, Lengths, Lists, set_head, SpellsSets, Limited, Spells}
use Rattle.axis_laws.specs.AxisRing.{axis_head}
use Rattle.model_laws.specs.Judge.{links_fine}
use Rattle.model_laws.specs.AxisJudged.{AxisSpelled}
use Rattle.axis_laws.specs.AxisRing.{axis_head_lem, axis_event}
use Rattle.axis_laws.specs.Reading.{Timed, notices_of, places_of, length_of_lem, due_in_lem, due_out, order_of, within_of, whos_of, ended_of}
use Rattle.axis_laws.specs.Reading.{ended_mark, mark_is, who_place, place_who, dist_whos, length_places, due_none, timed}
use Rattle.axis_laws.specs.Reading.{within_timed, order_timed}

-- ---- the sets: the heads 1 .. H, and the links H + 1 .. m - 1

pub sets_layout : (m H : ℕ) → H < m → Layout m (set_head H) H 1 (H + 1) m
sets_layout m H l =
    record {
      head_in = λ h a. (omega (arith, a.some), omega (arith, leb-true h H a.is));
      in_head = λ h a b. record { some = omega arith; within = omega arith; is = le-leb h H (omega arith) };
      link_in = λ x a. (omega (arith, leb-false x H a.isn't), a.within);
      in_link = λ x a b. record { some = omega arith; within = b; isn't = lt-leb x H (omega arith) };
      low = omega arith;
      span = omega arith;
    }

pub links_sound : (m H : ℕ) (t : List ℕ) → H < m → length t ≡ 2 * m → links_fine m H t ≡ true
    → (sets : List (List ℕ)) × SpellsSets m H sets t × Limited sets
links_sound m H t l two e =
    let f = sound m (set_head H) H 1 (H + 1) m (sets_layout m H l) (sucs m t) (pres m t) most_members e in
    (f.sets, record { all = f.all; spelled = record { two = two; rings = f.rings } }, λ h. f.limited (h - 1))

pub links_complete : (m H : ℕ) (t : List ℕ) (sets : List (List ℕ)) → H < m → SpellsSets m H sets t → Limited sets → links_fine m H t ≡ true
links_complete m H t sets l s few =
    complete m (set_head H) H 1 (H + 1) m (sets_layout m H l) (sucs m t) (pres m t) most_members sets s.all s.spelled.rings
    (λ i. let e : suc i - 1 ≡ i = omega arith in subst (λ (j : ℕ). length (get_or sets j []) ≤ most_members) e (few (suc i)))

-- ---- from places with notices, and marks, to the lists

module _ (c : Counts) (t : Tables) (len : Lengths c t) (sets : List (List ℕ)) (events : List ℕ) where
  abbrev pub lists_of : Lists
  lists_of =
      record {
        sets = sets;
        notices = notices_of c.heads t.times events;
        terminated = ended_of c.heads t.marks c.processes;
      }

  pub events_spelled : SpellsSets (total c + 1) c.heads sets t.links → Limited sets
      → AxisSpelled c.processes events t.axis t.times t.marks → Spells c lists_of t
  events_spelled links few s =
      record {
        links = links;
        limited = few;
        axis = rw (places_of c t.times events) s.ring;
        times =
            at_table (λ p. due_of (c.heads + p) (notices_of c.heads t.times events)) c.processes t.times len.times_is
            (s.idle_times 0 (omega arith) (λ k. omega (arith, axis_event c.processes t.axis events s.ring 0 k)))
            (λ y a b. inside y events
            (λ k. sym (due_in_lem c t.times events y k))
            (λ out. s.idle_times y b out ∙ sym (due_out c t.times events y out)));
        marks =
            at_table (λ p. bit (has (c.heads + p) (ended_of c.heads t.marks c.processes))) c.processes t.marks
            len.marks_is s.zero_mark
            (λ y a b. mark_is c.heads t.marks c.processes y a b (⊎_elim (λ z. inl z) (λ w. inr w.0) (s.marked y b)));
        some = omega (arith, length_of_lem c t.times events, s.some);
        in_order = order_of c t.times events s.order;
        within = within_of c t.times events s.limits;
        ended = λ x k.
            let r = ended_mark c.heads t.marks c.processes x k in
            ⊎_elim
            (λ z. absurd (no r.0 z r.4))
            (λ w. (
              omega (arith, r.1, r.2),
              omega (arith, r.1, r.3),
              λ e. w.1 (omega (arith, r.1)),
              λ i. w.2 (whos_of c t.times events r.0 (rw r.1 at i)),
            ))
            (s.marked r.0 r.3);
      }
    where
      no : (y : ℕ) → get_or t.marks y 0 ≡ 0 → get_or t.marks y 0 ≡ 1 → ⊥
      no y a b = omega arith

-- ---- from the lists to places, times and marks

module _ (c : Counts) (l : Lists) (t : Tables) (s : Spells c l t) where
  -- no process has two notices
  pub notice_each : Dist (whos l.notices)
  notice_each =
      dist_whos c l.notices
      (spells_dist (c.processes + 2) (axis_head (c.processes + 2)) (λ h. places c l.notices) t.axis s.axis (c.processes + 1)
      (axis_head_lem c.processes)).1

  -- who has a notice is a process
  pub notice_process : (x : ℕ) → In x (whos l.notices) → (c.heads < x) × (x ≤ c.heads + c.processes)
  notice_process x k =
      let b = axis_event c.processes t.axis (places c l.notices) s.axis (x - c.heads) (who_place c l.notices x k) in
      (omega (arith, b), omega (arith, b))

  -- each notice's time stands in the table
  pub notices_timed : Timed c t.times l.notices
  notices_timed =
      timed c t.times l.notices notice_each
      (λ x k.
      let b = notice_process x k in
      let q : c.heads + (x - c.heads) ≡ x = omega (arith, b) in
      table_at (λ p. due_of (c.heads + p) l.notices) c.processes t.times s.times (x - c.heads) (omega (arith, b))
      (omega (arith, b))
      ∙ ap (λ (j : ℕ). due_of j l.notices) q)

  pub axis_spelled : AxisSpelled c.processes (places c l.notices) t.axis t.times t.marks
  axis_spelled =
      record {
        ring = s.axis;
        some = omega (arith, length_places c l.notices, s.some);
        order = order_timed c t.times l.notices notices_timed s.in_order;
        limits = within_timed c t.times l.notices notices_timed s.within;
        idle_times = λ y b out.
            decide y 0
            (λ e. rw e (ap (λ (k : List ℕ). get_or k 0 0) s.times))
            (λ n. table_at (λ p. due_of (c.heads + p) l.notices) c.processes t.times s.times y (omega arith) b
            ∙ due_none l.notices (c.heads + y)
            (λ k. out (subst (λ (j : ℕ). In j (places c l.notices)) (omega arith) (who_place c l.notices (c.heads + y) k))));
        marked = λ y b.
            decide y 0
            (λ e. inl (rw e (ap (λ (k : List ℕ). get_or k 0 0) s.marks)))
            (λ n.
            let m = table_at (λ p. bit (has (c.heads + p) l.terminated)) c.processes t.marks s.marks y (omega arith) b in
            test (has (c.heads + y) l.terminated)
            (λ h.
            let e = s.ended (c.heads + y) (has_in (c.heads + y) l.terminated h) in
            inr (m ∙ ap bit h, λ q. e.2 (omega arith), λ k. e.3 (place_who c l.notices y (omega arith) k)))
            (λ h. inl (m ∙ ap bit h)));
        zero_mark = ap (λ (k : List ℕ). get_or k 0 0) s.marks;
      }
