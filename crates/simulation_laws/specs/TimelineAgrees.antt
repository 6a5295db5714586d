-- The calls on tables that spell a list of notices do what the plain calls do to it, "refusals among them".
use Rattle.std.specs.Prelude.{ℕ, suc, ◌+◌, ◌-◌, ◌<◌, ◌≤◌, true, not, leb, ℤ, get_or, if◌then◌else◌, Ok, Err}
use Rattle.std.proofs.Math.Path.{◌≡◌, refl, sym, subst}
use Rattle.std.proofs.Common.{ap, ◌∙◌, inl, inr, ⊎_elim, length-set, get_or-set_same, get_or-set_other}
use mathlib.Core.List.{List, [], ◌∷◌, ◌++◌}
use native.Mathlib.Omega.{arith}
use Rattle.std.proofs.Math.Dec.{ltb, eqb}
use Rattle.std.proofs.Math.ListN.{length}
use borrow.Author.Tests.{eq-eqb, ne_eqb, eqb-true, lt-leb, lt-ltb, le-ltb, leb-true}
use Rattle.ring_laws.specs.Lists.{In, decide, below, test}
use Rattle.ring_laws.specs.Distinct.{Dist}
use Rattle.ring_laws.specs.Tabulate.{listed, has, bit}
use Rattle.ring_laws.specs.Stores.{sucs, suc_at}
use Rattle.model.specs.declared.Counts.{Counts}
use Rattle.model.specs.declared.Refusal.TheVariants.{NoNotice}
use Rattle.model.specs.Counts.{limit}
use Rattle.model.specs.declared.answer.Answer.TheVariants.{Done}
use Rattle.axis_laws.specs.Notices.{Notice, whos, due_of}
use Rattle.model_laws.specs.Tables.{Lists}
use Rattle.axis_laws.specs.NoticeOps.{behind_all, dropped, has_notice, rest}
use Rattle.axis_laws.specs.NoticeLaws.{ins_in, rest_drop, drop_none, drop_old}
use Rattle.axis_laws.specs.PutLaws.{last_ins, last_sorted}
use Rattle.simulation_laws.specs.NoticesKept.{NoticesKept, some_in, kept_ins, kept_drop, kept_rest}
use Rattle.axis_laws.specs.Notices.{Process}
use Rattle.simulation_laws.specs.AgreeEnds.{Party, party, has_in, has_none}
use Rattle.simulation_laws.specs.Plain.{with_notices, above, leaving, hold, passivate, cancel}
use Rattle.model_laws.specs.Result.{Result, refused, done}
use Rattle.simset_laws.specs.Calls.{or_none}
use Rattle.model.specs.Counts.{is_process}
use Rattle.axis_laws.specs.Groups.{Group, notice, group, spelled_out, members, Above, Rising, members_are}
use Rattle.axis_laws.specs.Leads.{above_less}
use Rattle.axis_laws.specs.Search.{due_own, due_later}
use Rattle.axis_laws.specs.Shifted.{moved_to, shifted, shifted_moves}
use Rattle.axis_laws.specs.Turned.{turned, next_is, turned_groups, turned_out}
use Rattle.axis_laws.specs.Lowered.{lowered, low_behind}
use Rattle.axis_laws.specs.Timeline.{Timeline, SpellsGroups, first_of, idle_at, lone}
use Rattle.axis_laws.specs.Procedures.{drop_on, behind_on}
use Rattle.axis_laws.specs.Peers.{peer_busy}
use Rattle.axis_laws.specs.Ticks.{in_m}
use Rattle.axis_laws.specs.NoticesSpelled.{half, SpellsNotices, place_in, in_place, is_process_lem, notices_dropped, notices_behind}
use Rattle.axis_laws.specs.TimelineReading.{current_is, time_is, lone_one, lone_more, first_leads, first_alone, first_more, first_last, first_not_last}
use Rattle.simulation_laws.specs.TimelineSteps.{Outcome, made, turned_down, settled, held_at, held, passivated, cancelled}

-- tables and lists of a model, as far as the sequencing calls go
pub record SpellsModel (c : Counts) (M : Lists) (a : Timeline) (marks : List ℕ) : Type 0 where
  pub notices : SpellsNotices c M.notices a
  pub kept : NoticesKept M.terminated M.notices
  pub marks_are : marks ≡ 0 ∷ listed (λ p. bit (has (c.heads + p) M.terminated)) 1 c.processes

-- refused: the number, and the tables as they were; done: the tables spell the machine's next
abbrev pub Agrees : Counts → Timeline → List ℕ → Result Lists → Outcome → Type 0
Agrees c a marks (refused n) o = (o.answer ≡ Err n) × (o.left ≡ a)
Agrees c a marks (done M) o = (o.answer ≡ (Ok Done)) × SpellsModel c M o.left marks

-- ---- what a list of notices says of its tables

module _ (c : Counts) (ns : List Notice) (a : Timeline) (sp : SpellsNotices c ns a) where
  pub once : Dist (whos ns)
  once = go ns (subst (λ (l : List Notice). Dist (whos l)) sp.out (subst (λ (l : List ℕ). Dist l) (sym (members_are sp.groups)) sp.spelled.once))
    where
      low : (x : ℕ) (l : List Notice) → In x (whos l) → In (x - c.heads) (whos (lowered c.heads l))
      low x [] i = i
      low x (n ∷ l) i = ⊎_elim (λ e. inl (ap (λ (j : ℕ). j - c.heads) e)) (λ j. inr (low x l j)) i

      go : (l : List Notice) → Dist (whos (lowered c.heads l)) → Dist (whos l)
      go [] d = tt
      go (n ∷ l) d = (λ i. d.0 (low n.who l i), go l d.1)

  peer_of : (x : ℕ) → Process c x → get_or a.peers (x - c.heads) 0 ≡ sucs (half c) a.peers (x - c.heads)
  peer_of x p = sym (suc_at (half c) a.peers (x - c.heads) (omega (arith, p)))

  -- idle is: no notice
  pub idle_has : (x : ℕ) → Party c x → idle_at a (x - c.heads) ≡ not (has_notice x ns)
  idle_has x (Party.none q) =
      let z : x - c.heads ≡ 0 = omega arith in
      test (has_notice x ns)
      (λ h. absurd (omega (arith, is_process_lem c ns a sp x (has_in x ns h))))
      (λ h. rw (h, z) (eq-eqb (get_or a.peers 0 0) 0
      (sym (suc_at (half c) a.peers 0 (omega arith)) ∙ (sp.spelled.peers.off 0 (λ i. omega (arith, sp.spelled.place 0 i))).0)))
  idle_has x (Party.proc p) =
      let H = c.heads in
      test (has_notice x ns)
      (λ h. rw h (ne_eqb (get_or a.peers (x - H) 0) 0
      (λ q. peer_busy (half c) sp.groups a.peers sp.spelled.peers sp.spelled.once (in_m (half c) sp.groups a sp.spelled) (x - H)
      (place_in c ns a sp x (has_in x ns h)) (sym (peer_of x p) ∙ q))))
      (λ h. rw h (eq-eqb (get_or a.peers (x - H) 0) 0
      (peer_of x p ∙ (sp.spelled.peers.off (x - H) (λ i. has_none x ns h (in_place c ns a sp x p.over i))).0)))

-- the first notice out
pub rest_notices : (c : Counts) (n : Notice) (ns : List Notice) (a : Timeline) → SpellsNotices c (n ∷ ns) a → SpellsNotices c ns (drop_on (half c) (first_of (half c) a) a)
rest_notices c n ns a sp =
    let p : Process c n.who = is_process_lem c (n ∷ ns) a sp n.who (inl refl) in
    subst (λ (j : ℕ). SpellsNotices c ns (drop_on (half c) j a)) (sym (current_is c n ns a sp))
    (subst (λ (l : List Notice). SpellsNotices c l (drop_on (half c) (n.who - c.heads) a)) (sym (rest_drop n ns (once c (n ∷ ns) a sp)))
    (notices_dropped c (n ∷ ns) a sp n.who p))

-- ---- hold

-- the first, alone at its time, may be due anywhere before the next time
settled_groups : (m : ℕ) (g : Group) (gs : List Group) (a : Timeline) (u : ℕ) → SpellsGroups m (g ∷ gs) a → g.others ≡ [] → Above u gs
    → SpellsGroups m (group u g.leader [] ∷ gs) (settled g.leader u a)
unfolding settled
settled_groups m g gs a u sp e up =
    let x = g.leader in
    let b = sp.place x (inl refl) in
    let same : members (group u x [] ∷ gs) ≡ members (g ∷ gs) = ap (λ (l : List ℕ). x ∷ (l ++ members gs)) (sym e) in
    let h : g ≡ group g.due x [] = λ i. group g.due x (e i) in
    record {
      ticks = sp.ticks;
      peers =
          record {
            two = sp.peers.two;
            loops = (rw e at sp.peers.loops.0, sp.peers.loops.1);
            off = λ y o. sp.peers.off y (λ i. o (subst (λ (l : List ℕ). In y l) (sym same) i));
          };
      rising = (up, sp.rising.1);
      once = subst (λ (l : List ℕ). Dist l) (sym same) sp.once;
      place = λ y i. sp.place y (subst (λ (l : List ℕ). In y l) same i);
      full = simp length-set sp.full;
      timed = λ y.
          decide y x
          (λ q. rw (q, eq-eqb x x refl) (get_or-set_same a.times x u 0 (omega (arith, sp.full, b.1))))
          (λ n. rw (ne_eqb x y (λ q. n (sym q)))
          (get_or-set_other a.times x y u 0 n ∙ sp.timed y ∙ ap (λ (k : Group). due_of y (spelled_out (k ∷ gs))) h ∙ (rw (ne_eqb x y (λ q. n (sym q))))));
    }

module _ (c : Counts) (n : Notice) (ns : List Notice) (a : Timeline) (u : ℕ) (sp : SpellsNotices c (n ∷ ns) a) where
  abbrev f : Notice
  f = record { who = n.who; due = u }

  abbrev m : ℕ
  m = half c

  p : Process c n.who
  p = is_process_lem c (n ∷ ns) a sp n.who (inl refl)

  moved_notices : SpellsNotices c (behind_all (record { who = n.who; due = u }) ns) (moved_to (half c) (first_of (half c) a) u a)
  unfolding moved_to
  moved_notices =
      let r = rest_notices c n ns a sp in
      let q = notices_behind c ns (drop_on m (first_of m a) a) r f p (once c (n ∷ ns) a sp).0 in
      subst (λ (j : ℕ). SpellsNotices c (behind_all f ns) (behind_on m j u (drop_on m (first_of m a) a))) (sym (current_is c n ns a sp)) q

  -- all others are due after u
  settled_notices : (g : Group) (gs : List Group) → sp.groups ≡ g ∷ gs → g.others ≡ [] → Above u gs
      → SpellsNotices c (behind_all (record { who = n.who; due = u }) ns) (settled (first_of (half c) a) u a)
  settled_notices g gs e o up =
      let s : SpellsGroups m (g ∷ gs) a = subst (λ (k : List Group). SpellsGroups m k a) e sp.spelled in
      let out : spelled_out (g ∷ gs) ≡ lowered c.heads (n ∷ ns) = subst (λ (k : List Group). spelled_out k ≡ lowered c.heads (n ∷ ns)) e sp.out in
      let one : spelled_out (group g.due g.leader [] ∷ gs) ≡ lowered c.heads (n ∷ ns) =
      ap (λ (l : List ℕ). spelled_out (group g.due g.leader l ∷ gs)) (sym o) ∙ out in
      let w : g.leader ≡ n.who - c.heads = ap (λ (l : List Notice). who l) one in
      let t : spelled_out gs ≡ lowered c.heads ns = ap (λ (l : List Notice). tail l) one in
      let b : behind_all f ns ≡ f ∷ ns = alone ns (subst (λ (l : List Notice). From' u l) t (above_all gs up)) in
      subst (λ (l : List Notice). SpellsNotices c l (settled (first_of m a) u a)) (sym b)
      (record {
        groups = group u g.leader [] ∷ gs;
        out = λ i. notice (w i) u ∷ t i;
        over = λ x k. sp.over x k;
        spelled = subst (λ (j : ℕ). SpellsGroups m (group u g.leader [] ∷ gs) (settled j u a)) (sym (first_leads m g gs a s)) (settled_groups m g gs a u s o up);
      })
    where
      who : List Notice → ℕ
      who [] = 0
      who (k ∷ l) = k.who

      tail : List Notice → List Notice
      tail [] = []
      tail (k ∷ l) = l

      From' : ℕ → List Notice → Type 0
      From' v [] = Unit {0}
      From' v (k ∷ l) = v < k.due

      above_all : (ks : List Group) → Above u ks → From' u (spelled_out ks)
      above_all [] v = tt
      above_all (k ∷ ks) v = v.0

      alone : (l : List Notice) → From' u (lowered c.heads l) → behind_all f l ≡ f ∷ l
      alone [] v = refl
      alone (k ∷ l) v = rw (lt-leb k.due u v)

  -- by 0 ticks, among others of its time
  turned_notices : (g : Group) (gs : List Group) (y : ℕ) (l : List ℕ) → sp.groups ≡ g ∷ gs → g.others ≡ y ∷ l → u ≡ n.due
      → SpellsNotices c (behind_all (record { who = n.who; due = u }) ns) (turned (half c) (first_of (half c) a) (get_or a.peers (first_of (half c) a) 0) a)
  turned_notices g gs y l e o eu =
      let s : SpellsGroups m (g ∷ gs) a = subst (λ (k : List Group). SpellsGroups m k a) e sp.spelled in
      let out : spelled_out (g ∷ gs) ≡ lowered c.heads (n ∷ ns) = subst (λ (k : List Group). spelled_out k ≡ lowered c.heads (n ∷ ns)) e sp.out in
      let w : g.leader ≡ n.who - c.heads = ap (λ (k : List Notice). who k) out in
      let d : g.due ≡ n.due = ap (λ (k : List Notice). due k) out in
      let t : spelled_out (group g.due y l ∷ gs) ≡ lowered c.heads ns =
      ap (λ (k : List ℕ). tail (spelled_out (group g.due g.leader k ∷ gs))) (sym o) ∙ ap (λ (k : List Notice). tail k) out in
      let same : notice g.leader g.due ≡ notice (n.who - c.heads) u = λ i. notice (w i) ((d ∙ sym eu) i) in
      let first : first_of m a ≡ g.leader = first_leads m g gs a s in
      let peer : get_or a.peers (first_of m a) 0 ≡ y = ap (λ (j : ℕ). get_or a.peers j 0) first ∙ next_is m g gs a s y l o in
      record {
        groups = group g.due y (l ++ (g.leader ∷ [])) ∷ gs;
        out = turned_out m g gs a s y l o ∙ ap (λ (k : Notice). behind_all k (spelled_out (group g.due y l ∷ gs))) same
            ∙ ap (behind_all (notice (n.who - c.heads) u)) t ∙ sym (low_behind c.heads f ns);
        over = λ z k. ⊎_elim (λ q. rw q p.over) (λ j. sp.over z (inr j)) (ins_in f z (last_ins f ns) k);
        spelled = rw (peer, first) (turned_groups m g gs a s y l o);
      }
    where
      who : List Notice → ℕ
      who [] = 0
      who (k ∷ r) = k.who

      due : List Notice → ℕ
      due [] = 0
      due (k ∷ r) = k.due

      tail : List Notice → List Notice
      tail [] = []
      tail (k ∷ r) = r

  pub held_notices : SpellsNotices c (behind_all (record { who = n.who; due = u }) ns) (held_at (half c) (first_of (half c) a) u a)
  unfolding held_at
  held_notices = go sp.groups refl
    where
      go : (gs : List Group) → sp.groups ≡ gs
          → SpellsNotices c (behind_all (record { who = n.who; due = u }) ns)
          (if eqb (get_or a.peers (first_of m a) 0) (first_of m a) then
          (if eqb (get_or a.ticks (first_of m a) 0) (m - 1) then settled (first_of m a) u a
          else (if ltb u (get_or a.times (get_or a.ticks (first_of m a) 0) 0) then settled (first_of m a) u a else shifted m (first_of m a) u a))
          else (if eqb u (get_or a.times (first_of m a) 0) then turned m (first_of m a) (get_or a.peers (first_of m a) 0) a else moved_to m (first_of m a) u a))
      go [] e = absurd (differ (ap length (sym (ap spelled_out e) ∙ sp.out)))
        where
          differ : ◌≡◌ {A = ℕ} 0 (suc (length (lowered c.heads ns))) → ⊥
          differ z = omega arith
      go (g ∷ gs) e = by g.others gs refl refl
        where
          s : SpellsGroups m (g ∷ gs) a
          s = subst (λ (k : List Group). SpellsGroups m k a) e sp.spelled

          by : (l : List ℕ) (ks : List Group) → g.others ≡ l → gs ≡ ks
              → SpellsNotices c (behind_all (record { who = n.who; due = u }) ns)
              (if eqb (get_or a.peers (first_of m a) 0) (first_of m a) then
              (if eqb (get_or a.ticks (first_of m a) 0) (m - 1) then settled (first_of m a) u a
              else (if ltb u (get_or a.times (get_or a.ticks (first_of m a) 0) 0) then settled (first_of m a) u a else shifted m (first_of m a) u a))
              else (if eqb u (get_or a.times (first_of m a) 0) then turned m (first_of m a) (get_or a.peers (first_of m a) 0) a else moved_to m (first_of m a) u a))
          by (y ∷ l) ks o q =
              rw (ne_eqb (get_or a.peers (first_of m a) 0) (first_of m a) (first_more m g gs a s y l o))
              (test (eqb u (get_or a.times (first_of m a) 0))
              (λ z. rw z (turned_notices g gs y l e o (eqb-true u (get_or a.times (first_of m a) 0) z ∙ time_is c n ns a sp)))
              (λ z. rw z moved_notices))
          by [] [] o q =
              rw (eq-eqb (get_or a.peers (first_of m a) 0) (first_of m a) (first_alone m g gs a s o), eq-eqb (get_or a.ticks (first_of m a) 0) (m - 1) (first_last m g gs a s q))
              (settled_notices g gs e o (subst (λ (k : List Group). Above u k) (sym q) tt))
          by [] (k ∷ ks) o q =
              let fl : get_or a.ticks (first_of m a) 0 ≡ k.leader = first_not_last m g gs a s k ks q in
              let i : In k.leader (members (g ∷ gs)) = rw (o, q) (inr (inl refl)) in
              let b = s.place k.leader i in
              let d : get_or a.times k.leader 0 ≡ k.due = s.timed k.leader ∙ next_due in
              let up : u < k.due → Above u gs = λ l. rw q (l, above_less u k.due ks (omega arith) (subst (λ (j : List Group). Rising j) q s.rising.1).0) in
              rw (
                eq-eqb (get_or a.peers (first_of m a) 0) (first_of m a) (first_alone m g gs a s o),
                fl,
                ne_eqb k.leader (m - 1) (λ z. omega (arith, b.1)),
                d,
              )
              (below u k.due
              (λ l. rw (lt-ltb u k.due l) (settled_notices g gs e o (up l)))
              (λ l. rw (le-ltb u k.due l) (subst (λ (b : Timeline). SpellsNotices c (behind_all f ns) b) (sym same_move) moved_notices)))
            where
              same_move : shifted m (first_of m a) u a ≡ moved_to m (first_of m a) u a
              same_move = subst (λ (j : ℕ). shifted m j u a ≡ moved_to m j u a) (sym (first_leads m g gs a s)) (shifted_moves m g gs a u s o)

              next_due : due_of k.leader (spelled_out (g ∷ gs)) ≡ k.due
              next_due =
                  let j : In k.leader (members gs) = rw q (inl refl) in
                  due_later g gs k.leader s.once j ∙ (rw q (due_own k ks k.leader (inl refl)))

-- ---- the calls

module _ (c : Counts) (M : Lists) (a : Timeline) (marks : List ℕ) (sp : SpellsModel c M a marks) where
  pub respell : (l : List Notice) (b : Timeline) → NoticesKept M.terminated l → SpellsNotices c l b → SpellsModel c (with_notices M l) b marks
  respell l b k s = record { notices = s; kept = k; marks_are = sp.marks_are }

module _ (c : Counts) (M : Lists) (a : Timeline) (marks : List ℕ) (sp : SpellsModel c M a marks) (n : Notice) (ns : List Notice) (e : M.notices ≡ n ∷ ns) where
  pub st : SpellsNotices c (n ∷ ns) a
  st = rw e at sp.notices

  pub kt : NoticesKept M.terminated (n ∷ ns)
  kt = rw e at sp.kept

  held_kept : (u : ℕ) → u ≤ limit → NoticesKept M.terminated (behind_all (record { who = n.who; due = u }) ns)
  held_kept u l =
      let f : Notice = record { who = n.who; due = u } in
      kept_ins M.terminated f ns (behind_all f ns) (last_ins f ns) (last_sorted f ns kt.in_order.1) l kt.within.1
      (λ x i j. kt.idle x i (inr j)) (λ i. kt.idle n.who i (inl refl))

  pub hold_agrees : (z : ℤ) → Agrees c a marks (hold z M) (held (half c) (above z) a)
  unfolding hold held
  hold_agrees z =
      rw (e, time_is c n ns a st)
      (test (leb (n.due + above z) limit)
      (λ l. rw l (refl, respell c M a marks sp _ _ (held_kept (n.due + above z) (leb-true _ _ l)) (held_notices c n ns a (n.due + above z) st)))
      (λ l. rw l (refl, refl)))

  pub passivate_agrees : Agrees c a marks (passivate M) (passivated (half c) a)
  unfolding passivate passivated
  passivate_agrees = subst (λ (l : List Notice). Agrees c a marks (leaving M (rest l)) (passivated (half c) a)) (sym e) (go ns kt st)
    where
      go : (ns : List Notice) → NoticesKept M.terminated (n ∷ ns) → SpellsNotices c (n ∷ ns) a
          → Agrees c a marks (leaving M ns) (if lone (half c) a then turned_down NoNotice a else made (drop_on (half c) (first_of (half c) a) a))
      go [] w s = rw (lone_one c n a s) (refl, refl)
      go (k ∷ ks) w s =
          rw (lone_more c n k ks a s)
          (refl, respell c M a marks sp (k ∷ ks) _ (kept_rest M.terminated n (k ∷ ks) w (omega arith)) (rest_notices c n (k ∷ ks) a s))

  leaving_some : (x : ℕ) (l : List Notice) → In x (whos l) → leaving M l ≡ done (with_notices M l)
  leaving_some x [] i = absurd i
  leaving_some x (k ∷ ks) i = refl

  -- x's notice goes
  pub drop_agrees : (x : ℕ) → Party c x → Agrees c a marks (leaving M (dropped x (n ∷ ns))) (cancelled (half c) (x - c.heads) a)
  unfolding cancelled
  drop_agrees x p =
      test (has_notice x (n ∷ ns))
      (λ h. rw (idle_has c (n ∷ ns) a st x p, h) (some ns kt st (has_in x (n ∷ ns) h)))
      (λ h.
      rw (idle_has c (n ∷ ns) a st x p, h, drop_none x (n ∷ ns) (has_none x (n ∷ ns) h))
      (refl, respell c M a marks sp (n ∷ ns) a kt st))
    where
      some : (ns : List Notice) → NoticesKept M.terminated (n ∷ ns) → SpellsNotices c (n ∷ ns) a → In x (whos (n ∷ ns))
          → Agrees c a marks (leaving M (dropped x (n ∷ ns))) (if lone (half c) a then turned_down NoNotice a else made (drop_on (half c) (x - c.heads) a))
      some [] w s (inl q) = rw (lone_one c n a s, eq-eqb n.who x (sym q)) (refl, refl)
      some [] w s (inr i) = absurd i
      some (k ∷ ks) w s i =
          let r : 0 < length (dropped x (n ∷ k ∷ ks)) → SpellsModel c (with_notices M (dropped x (n ∷ k ∷ ks))) (drop_on (half c) (x - c.heads) a) marks =
          λ l. respell c M a marks sp (dropped x (n ∷ k ∷ ks)) (drop_on (half c) (x - c.heads) a) (kept_drop M.terminated (n ∷ k ∷ ks) w x l)
          (notices_dropped c (n ∷ k ∷ ks) a s x (is_process_lem c (n ∷ k ∷ ks) a s x i)) in
          rw (lone_more c n k ks a s)
          (decide n.who x
          (λ q.
          let o = drop_old x (n ∷ k ∷ ks) k.who (λ g. (once c (n ∷ k ∷ ks) a s).0 (inl (q ∙ sym g))) (inr (inl refl)) in
          rw (leaving_some k.who (dropped x (n ∷ k ∷ ks)) o) (refl, r (some_in k.who (dropped x (n ∷ k ∷ ks)) o)))
          (λ d.
          let o = drop_old x (n ∷ k ∷ ks) n.who d (inl refl) in
          rw (leaving_some n.who (dropped x (n ∷ k ∷ ks)) o) (refl, r (some_in n.who (dropped x (n ∷ k ∷ ks)) o))))

  pub cancel_agrees : (x : ℕ) → or_none (is_process c x) x ≡ true → Agrees c a marks (cancel c x M) (cancelled (half c) (x - c.heads) a)
  unfolding cancel
  cancel_agrees x g =
      rw g (subst (λ (l : List Notice). Agrees c a marks (leaving M (dropped x l)) (cancelled (half c) (x - c.heads) a)) (sym e) (drop_agrees x (party c x g)))
