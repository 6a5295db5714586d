-- The judge of the axis answers yes exactly where there are notices and terminated processes that the tables spell: refusal 2 "on the new tables".
use Rattle.std.specs.Prelude.{ℕ, suc, ◌+◌, ◌*◌, ◌-◌, ◌<◌, ◌≤◌, ◌≡◌, refl, ◌≢◌, true, List, [], ◌∷◌, ◌++◌, length, get_or}
use Rattle.std.proofs.Common.{sym, ap, ◌∙◌, subst, inl, inr, ⊎_elim, arith, eq-eqb, ne_eqb}
use Rattle.model.specs.declared.Counts.{Counts}
use Rattle.model.specs.Counts.{limit, main}
use Rattle.ring_laws.specs.Lists.{In, decide, test}
use Rattle.ring_laws.specs.Distinct.{Dist}
use Rattle.ring_laws.specs.Tabulate.{listed, has, bit, has_in, table_at, at_table}
use Rattle.axis_laws.specs.Notices.{Notice, whos, due_of, Within}
use Rattle.axis_laws.specs.Reading.{ended_of, ended_mark, mark_is}
use Rattle.axis_laws.specs.Groups.{Group, notice, together, spelled_out, members, members_are}
use Rattle.axis_laws.specs.Outs.{later_in, later_dist}
use Rattle.axis_laws.specs.Search.{due_own, due_later}
use Rattle.axis_laws.specs.Lowered.{lowered}
use Rattle.axis_laws.specs.Timeline.{Timeline}
use Rattle.axis_laws.specs.NoticesSpelled.{half, SpellsNotices, place_in, in_place, times_at}
use Rattle.axis_laws.specs.Judge.{timeline_fine}
use Rattle.axis_laws.specs.GroupsJudged.{GroupsSpelled, notices_sound, notices_complete}

-- what well-formed tables say of the axis, times and marks
pub record SpellsSequencing (c : Counts) (ns : List Notice) (ended : List ℕ) (a : Timeline) (marks : List ℕ) : Type 0 where
  pub notices : SpellsNotices c ns a
  pub some : 0 < length ns
  pub within : Within ns
  pub marks_are : marks ≡ 0 ∷ listed (λ p. bit (has (c.heads + p) ended)) 1 c.processes
  pub idle : (x : ℕ) → In x ended → (c.heads < x) × (x ≤ c.heads + c.processes) × (x ≢ main c) × (In x (whos ns) → ⊥)

-- ---- places and numbers

abbrev raised : ℕ → List Notice → List Notice
raised H [] = []
raised H (n ∷ ns) = notice (H + n.who) n.due ∷ raised H ns

low_raised : (H : ℕ) (ns : List Notice) → lowered H (raised H ns) ≡ ns
low_raised H [] = refl
low_raised H (n ∷ ns) =
    let e : H + n.who - H ≡ n.who = omega arith in
    let r = low_raised H ns in
    λ i. record { who = e i; due = n.due } ∷ r i

raised_in : (H x : ℕ) (ns : List Notice) → In x (whos (raised H ns)) → (y : ℕ) × (x ≡ H + y) × In y (whos ns)
raised_in H x [] i = absurd i
raised_in H x (n ∷ ns) (inl e) = (n.who, e, inl refl)
raised_in H x (n ∷ ns) (inr i) = let r = raised_in H x ns i in (r.0, r.1, inr r.2)

length_raised : (H : ℕ) (ns : List Notice) → length (raised H ns) ≡ length ns
length_raised H [] = refl
length_raised H (n ∷ ns) = ap suc (length_raised H ns)

-- ---- times within the limit

within_all : (H u : ℕ) (l : List ℕ) (ns : List Notice) → u ≤ limit → Within (raised H ns) → Within (raised H (together u l ++ ns))
within_all H u [] ns h w = w
within_all H u (x ∷ l) ns h w = (h, within_all H u l ns h w)

within_groups : (H : ℕ) (gs : List Group) → Dist (members gs) → ((y : ℕ) → In y (members gs) → due_of y (spelled_out gs) ≤ limit) → Within (raised H (spelled_out gs))
within_groups H [] d f = tt
within_groups H (g ∷ gs) d f =
    let l : g.due ≤ limit = subst (λ (j : ℕ). j ≤ limit) (due_own g gs g.leader (inl refl)) (f g.leader (inl refl)) in
    let w = within_groups H gs (later_dist g gs d) (λ y i. subst (λ (j : ℕ). j ≤ limit) (due_later g gs y d i) (f y (later_in y g gs i))) in
    (l, within_all H g.due g.others (spelled_out gs) l w)

within_due : (x : ℕ) (ns : List Notice) → Within ns → In x (whos ns) → due_of x ns ≤ limit
within_due x [] w i = absurd i
within_due x (n ∷ ns) w i =
    decide n.who x
    (λ e. rw (eq-eqb n.who x e) w.0)
    (λ d. rw (ne_eqb n.who x d) (within_due x ns w.1 (⊎_elim (λ e. absurd (d (sym e))) (λ j. j) i)))

some_out : (gs : List Group) → 0 < length gs → 0 < length (spelled_out gs)
some_out [] h = h
some_out (g ∷ gs) h = omega arith

out_some : (gs : List Group) → 0 < length (spelled_out gs) → 0 < length gs
out_some [] h = h
out_some (g ∷ gs) h = omega arith

length_low : (H : ℕ) (ns : List Notice) → length (lowered H ns) ≡ length ns
length_low H [] = refl
length_low H (n ∷ ns) = ap suc (length_low H ns)

module _ (c : Counts) (a : Timeline) (marks : List ℕ) where
  abbrev H : ℕ
  H = c.heads

  abbrev p : ℕ
  p = c.processes

  -- yes: there are notices
  pub judged_sound : length a.ticks ≡ 2 * half c → length a.peers ≡ 2 * half c → length a.times ≡ c.processes + 1 → length marks ≡ c.processes + 1
      → timeline_fine c.processes a marks ≡ true → (ns : List Notice) × (ended : List ℕ) × SpellsSequencing c ns ended a marks
  judged_sound two peers-two full len e =
      let f = notices_sound p a marks two peers-two full e in
      let gs = f.0 in
      let s : GroupsSpelled p gs a marks = f.1 in
      let line : SpellsNotices c (raised H (spelled_out gs)) a =
      record {
        groups = gs;
        out = sym (low_raised H (spelled_out gs));
        over = λ x i.
            let r = raised_in H x (spelled_out gs) i in
            omega (arith, r.1, s.spelled.place r.0 (subst (λ (l : List ℕ). In r.0 l) (members_are gs) r.2));
        spelled = s.spelled;
      } in (
        raised H (spelled_out gs),
        ended_of H marks p,
        record {
          notices = line;
          some = omega (arith, length_raised H (spelled_out gs), some_out gs s.some);
          within = within_groups H gs s.spelled.once (λ y i. subst (λ (j : ℕ). j ≤ limit) (s.spelled.timed y) (s.limits y i));
          marks_are =
              at_table (λ q. bit (has (H + q) (ended_of H marks p))) p marks len s.zero_mark
              (λ y b l. mark_is H marks p y b l (⊎_elim (λ z. inl z) (λ w. inr w.0) (s.marked y l)));
          idle = λ x i.
              let r = ended_mark H marks p x i in
              let w : (r.0 ≢ 1) × (In r.0 (members gs) → ⊥) = ⊎_elim (λ z. absurd (clash (sym z ∙ r.4))) (λ w. (w.1, w.2)) (s.marked r.0 r.3) in
              let q : x - H ≡ r.0 = omega (arith, r.1) in (
                omega (arith, r.1, r.2),
                omega (arith, r.1, r.3),
                λ z. w.0 (omega (arith, r.1)),
                λ j. w.1 (subst (λ (y : ℕ). In y (members gs)) q (place_in c (raised H (spelled_out gs)) a line x j)),
              );
        },
      )
    where
      clash : ◌≡◌ {A = ℕ} 0 1 → ⊥
      clash z = omega arith

  -- notices: yes
  pub judged_complete : (ns : List Notice) (ended : List ℕ) → SpellsSequencing c ns ended a marks → timeline_fine c.processes a marks ≡ true
  judged_complete ns ended s =
      let gs = s.notices.groups in
      let sp = s.notices.spelled in
      let number : (y : ℕ) → In y (members gs) → In (H + y) (whos ns) =
      λ y i.
      let q : y ≡ H + y - H = omega arith in
      in_place c ns a s.notices (H + y) (omega (arith, sp.place y i)) (subst (λ (j : ℕ). In j (members gs)) q i) in
      notices_complete p a marks gs
      (record {
        spelled = sp;
        some = out_some gs (omega (arith, s.some, ap length s.notices.out, length_low H ns));
        limits = λ y i.
            let q : H + y - H ≡ y = omega arith in
            subst (λ (j : ℕ). get_or a.times j 0 ≤ limit) q
            (subst (λ (j : ℕ). j ≤ limit) (sym (times_at c ns a s.notices (H + y) (omega (arith, sp.place y i)))) (within_due (H + y) ns s.within (number y i)));
        marked = λ y l.
            decide y 0
            (λ z. inl (ap (λ (j : ℕ). get_or marks j 0) z ∙ zero))
            (λ z.
            let at : get_or marks y 0 ≡ bit (has (H + y) ended) = table_at (λ q. bit (has (H + q) ended)) p marks s.marks_are y (omega arith) l in
            test (has (H + y) ended)
            (λ h.
            let r = s.idle (H + y) (has_in (H + y) ended h) in
            inr (at ∙ ap bit h, λ q. r.2 (omega arith), λ i. r.3 (number y i)))
            (λ h. inl (at ∙ ap bit h)));
        zero_mark = zero;
      })
    where
      zero : get_or marks 0 0 ≡ 0
      zero = ap (λ (l : List ℕ). get_or l 0 0) s.marks_are
