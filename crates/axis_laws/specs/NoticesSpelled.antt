-- Tables that spell a list of notices, stated by the list alone, and the procedures on them: they do to the list what the one-ring axis's do.
use Rattle.std.specs.Prelude.{ℕ, ◌+◌, ◌-◌, ◌<◌, ◌≡◌, List, ◌∷◌, get_or}
use Rattle.std.proofs.Common.{sym, ap, ◌∙◌, subst, ⊎_elim, arith}
use Rattle.ring_laws.specs.Lists.{In}
use Rattle.ring_laws.specs.Tabulate.{listed, at_table}
use Rattle.model.specs.declared.Counts.{Counts}
use Rattle.axis_laws.specs.Notices.{Notice, whos, due_of, InOrder}
use Rattle.axis_laws.specs.Reading.{due_none}
use Rattle.axis_laws.specs.NoticeOps.{behind_all, front_all, before, after, dropped}
use Rattle.axis_laws.specs.NoticeLaws.{Ins, ins_in, drop_in}
use Rattle.axis_laws.specs.PutLaws.{last_ins, front_ins}
use Rattle.axis_laws.specs.BesideLaws.{before_ins, after_ins}
use Rattle.axis_laws.specs.Notices.{Process}
use Rattle.axis_laws.specs.Groups.{Group, notice, spelled_out, members, members_are, groups_of, out_grouped, out_in_order}
use Rattle.axis_laws.specs.Changes.{left_by, joined_behind, last_at, first_at}
use Rattle.axis_laws.specs.Outs.{out_left, out_behind, out_last, out_first}
use Rattle.axis_laws.specs.Lowered.{lowered, Over, low_in, in_low, low_due, low_dropped, low_behind, low_front, low_before, low_after, order_low}
use Rattle.axis_laws.specs.Timeline.{Timeline, SpellsGroups}
use Rattle.axis_laws.specs.Procedures.{drop_on, behind_on, front_on, before_on, after_on}
use Rattle.axis_laws.specs.Spelling.{drop_spells, after_spells, before_spells, behind_spells, front_spells}

-- P + 2
abbrev pub half : Counts → ℕ
half c = c.processes + 2

-- "Spelled out chain after chain it must be the list that the old axis held"
pub record SpellsNotices (c : Counts) (ns : List Notice) (a : Timeline) : Type 0 where
  pub groups : List Group
  pub out : spelled_out groups ≡ lowered c.heads ns
  pub over : Over c.heads ns
  pub spelled : SpellsGroups (half c) groups a

module _ (c : Counts) (ns : List Notice) (a : Timeline) (sp : SpellsNotices c ns a) where
  abbrev H : ℕ
  H = c.heads

  abbrev gs : List Group
  gs = sp.groups

  -- the groups are those of the list
  pub groups_are : gs ≡ groups_of (lowered c.heads ns)
  groups_are = sym (out_grouped gs sp.spelled.rising) ∙ ap groups_of sp.out

  pub in_order : InOrder ns
  in_order = order_low H ns (subst (λ (l : List Notice). InOrder l) sp.out (out_in_order gs sp.spelled.rising))

  pub place_in : (x : ℕ) → In x (whos ns) → In (x - c.heads) (members gs)
  place_in x i =
      subst (λ (l : List ℕ). In (x - H) l) (members_are gs)
      (subst (λ (l : List Notice). In (x - H) (whos l)) (sym sp.out) (low_in H x ns i))

  pub in_place : (x : ℕ) → c.heads < x → In (x - c.heads) (members gs) → In x (whos ns)
  in_place x h i =
      in_low H x ns sp.over h
      (subst (λ (l : List Notice). In (x - H) (whos l)) sp.out (subst (λ (l : List ℕ). In (x - H) l) (sym (members_are gs)) i))

  pub is_process_lem : (x : ℕ) → In x (whos ns) → Process c x
  is_process_lem x i =
      let b = sp.spelled.place (x - H) (place_in x i) in
      record { over = sp.over x i; upto = omega (arith, b.1, sp.over x i) }

  -- each process's time
  pub times_at : (x : ℕ) → c.heads < x → get_or a.times (x - c.heads) 0 ≡ due_of x ns
  times_at x h = sp.spelled.timed (x - H) ∙ ap (λ (l : List Notice). due_of (x - H) l) sp.out ∙ low_due H x ns sp.over h

  -- the table of times is as it was
  pub times_listed : a.times ≡ 0 ∷ listed (λ p. due_of (c.heads + p) ns) 1 c.processes
  times_listed =
      at_table (λ p. due_of (c.heads + p) ns) c.processes a.times (omega (arith, sp.spelled.full))
      (sp.spelled.timed 0 ∙ due_none (spelled_out gs) 0 (λ i. none (sp.spelled.place 0 (subst (λ (l : List ℕ). In 0 l) (members_are gs) i)).0))
      (λ y p l. let q : y ≡ H + y - H = omega arith in subst (λ (j : ℕ). get_or a.times j 0 ≡ due_of (H + y) ns) (sym q) (times_at (H + y) (omega arith)))
    where
      none : 0 < 0 → ⊥
      none h = omega arith

  -- ---- the procedures

  pub notices_dropped : (x : ℕ) → Process c x → SpellsNotices c (dropped x ns) (drop_on (half c) (x - c.heads) a)
  notices_dropped x p =
      record {
        groups = left_by (x - H) gs;
        out = out_left (x - H) gs sp.spelled.once ∙ ap (dropped (x - H)) sp.out ∙ sym (low_dropped H x ns sp.over p.over);
        over = λ y i. sp.over y (drop_in x ns y i);
        spelled = drop_spells (half c) gs a sp.spelled (x - H) (omega (arith, p)) (omega (arith, p));
      }

  module _ (n : Notice) (p : Process c n.who) (fresh : In n.who (whos ns) → ⊥) where
    abbrev x : ℕ
    x = n.who - c.heads

    fresh_place : In (n.who - c.heads) (members gs) → ⊥
    fresh_place i = fresh (in_place n.who p.over i)

    over_put : (ks : List Notice) → Ins n ns ks → Over c.heads ks
    over_put ks ins y i = ⊎_elim (λ e. rw e p.over) (λ j. sp.over y j) (ins_in n y ins i)

    pub notices_behind : SpellsNotices c (behind_all n ns) (behind_on (half c) (n.who - c.heads) n.due a)
    notices_behind =
        record {
          groups = last_at x n.due gs;
          out = out_last x n.due gs sp.spelled.rising ∙ ap (behind_all (notice x n.due)) sp.out ∙ sym (low_behind H n ns);
          over = over_put (behind_all n ns) (last_ins n ns);
          spelled = behind_spells (half c) gs a sp.spelled x n.due (omega (arith, p)) (omega (arith, p)) fresh_place;
        }

    pub notices_front : SpellsNotices c (front_all n ns) (front_on (half c) (n.who - c.heads) n.due a)
    notices_front =
        record {
          groups = first_at x n.due gs;
          out = out_first x n.due gs ∙ ap (front_all (notice x n.due)) sp.out ∙ sym (low_front H n ns);
          over = over_put (front_all n ns) (front_ins n ns);
          spelled = front_spells (half c) gs a sp.spelled x n.due (omega (arith, p)) (omega (arith, p)) fresh_place;
        }

    same_due : (y : ℕ) → In y (whos ns) → n.due ≡ due_of y ns → n.due ≡ due_of (y - c.heads) (spelled_out gs)
    same_due y i e = e ∙ sym (ap (λ (l : List Notice). due_of (y - H) l) sp.out ∙ low_due H y ns sp.over (sp.over y i))

    pub notices_after : (y : ℕ) → In y (whos ns) → n.due ≡ due_of y ns → SpellsNotices c (after y n ns) (after_on (half c) (n.who - c.heads) (y - c.heads) n.due a)
    notices_after y i e =
        record {
          groups = joined_behind (y - H) x gs;
          out = out_behind x (y - H) n.due gs sp.spelled.once (place_in y i) (same_due y i e) ∙ ap (after (y - H) (notice x n.due)) sp.out
              ∙ sym (low_after H y n ns sp.over (sp.over y i));
          over = over_put (after y n ns) (after_ins y n ns i);
          spelled = after_spells (half c) gs a sp.spelled x n.due (omega (arith, p)) (omega (arith, p)) fresh_place (y - H) (place_in y i) (same_due y i e);
        }

    pub notices_before : (y : ℕ) → In y (whos ns) → n.due ≡ due_of y ns → SpellsNotices c (before y n ns) (before_on (half c) (n.who - c.heads) (y - c.heads) n.due a)
    notices_before y i e =
        let r = before_spells (half c) gs a sp.spelled x n.due (omega (arith, p)) (omega (arith, p)) fresh_place (y - H) (place_in y i) (same_due y i e) in
        record {
          groups = r.0;
          out = r.1 ∙ ap (before (y - H) (notice x n.due)) sp.out ∙ sym (low_before H y n ns sp.over (sp.over y i));
          over = over_put (before y n ns) (before_ins y n ns i);
          spelled = r.2;
        }
