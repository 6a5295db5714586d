-- What notices must keep for a model to stay well formed: at least one, in order, within the limit, and none of a terminated process.
use Rattle.std.specs.Prelude.{ℕ, ◌<◌, ◌≤◌, List, [], ◌∷◌, length}
use Rattle.std.proofs.Common.{subst, inr, ⊎_elim, arith, eq-eqb, ne_eqb}
use Rattle.ring_laws.specs.Lists.{In, decide}
use Rattle.model.specs.Counts.{limit}
use Rattle.axis_laws.specs.Notices.{Notice, whos, InOrder, Within}
use Rattle.axis_laws.specs.NoticeOps.{dropped}
use Rattle.axis_laws.specs.NoticeLaws.{Ins, ins_in, drop_in, drop_sorted}

pub record NoticesKept (terminated : List ℕ) (ns : List Notice) : Type 0 where
  pub some : 0 < length ns
  pub in_order : InOrder ns
  pub within : Within ns
  pub idle : (x : ℕ) → In x terminated → In x (whos ns) → ⊥

pub some_in : (x : ℕ) (ns : List Notice) → In x (whos ns) → 0 < length ns
some_in x [] i = absurd i
some_in x (k ∷ ks) i = omega arith

-- ---- a notice put in

ins_within : (n : Notice) {ns ns' : List Notice} → Ins n ns ns' → n.due ≤ limit → Within ns → Within ns'
ins_within n Ins.here l w = (l, w)
ins_within n (Ins.there i) l w = (w.0, ins_within n i l w.1)

ins_some : (n : Notice) {ns ns' : List Notice} → Ins n ns ns' → 0 < length ns'
ins_some n Ins.here = omega arith
ins_some n (Ins.there i) = omega arith

pub kept_ins : (terminated : List ℕ) (n : Notice) (ns ns' : List Notice) → Ins n ns ns' → InOrder ns' → n.due ≤ limit → Within ns
    → ((x : ℕ) → In x terminated → In x (whos ns) → ⊥) → (In n.who terminated → ⊥) → NoticesKept terminated ns'
kept_ins terminated n ns ns' i o l w f g =
    record {
      some = ins_some n i;
      in_order = o;
      within = ins_within n i l w;
      idle = λ x k j. ⊎_elim (λ e. g (subst (λ (y : ℕ). In y terminated) e k)) (f x k) (ins_in n x i j);
    }

-- ---- x's notice taken out

drop_within : (x : ℕ) (ns : List Notice) → Within ns → Within (dropped x ns)
drop_within x [] w = w
drop_within x (k ∷ ks) w =
    decide k.who x
    (λ e. rw (eq-eqb k.who x e) (drop_within x ks w.1))
    (λ n. rw (ne_eqb k.who x n) (w.0, drop_within x ks w.1))

module _ (terminated : List ℕ) (ns : List Notice) (k : NoticesKept terminated ns) (x : ℕ) where
  pub dropped_within : Within (dropped x ns)
  dropped_within = drop_within x ns k.within

  pub dropped_idle : (y : ℕ) → In y terminated → In y (whos (dropped x ns)) → ⊥
  dropped_idle y i j = k.idle y i (drop_in x ns y j)

  pub kept_drop : 0 < length (dropped x ns) → NoticesKept terminated (dropped x ns)
  kept_drop l = record { some = l; in_order = drop_sorted x ns k.in_order; within = dropped_within; idle = dropped_idle }

-- ---- the first notice taken out

pub kept_rest : (terminated : List ℕ) (n : Notice) (ns : List Notice) → NoticesKept terminated (n ∷ ns) → 0 < length ns
    → NoticesKept terminated ns
kept_rest terminated n ns k l =
    record { some = l; in_order = k.in_order.1; within = k.within.1; idle = λ x i j. k.idle x i (inr j) }
