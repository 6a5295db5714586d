-- The order of ties, for one call: where the placed notice stands to every other of equal time, and that the others keep their order.
use Rattle.std.specs.Prelude.{ℕ, ◌≤◌, ◌<◌, ◌≡◌, ◌≢◌, ◌⊎◌, List}
use Rattle.std.proofs.Common.{inl, inr, arith}
use borrow.Author.Tests.{ne_eqb}
use Rattle.ring_laws.specs.Lists.{In, decide}
use Rattle.ring_laws.specs.Distinct.{Dist}
use Rattle.axis_laws.specs.Notices.{Notice, whos, due_of, InOrder}
use Rattle.axis_laws.specs.NoticeOps.{behind_all, front_all, before, after, dropped}
use Rattle.axis_laws.specs.Orders.{Before, Next}
use Rattle.simulation_laws.specs.Plain.{placed}
use Rattle.axis_laws.specs.NoticeLaws.{Ins, ins_back, drop_old, drop_dist, drop_sorted, drop_back, drop_due}
use Rattle.axis_laws.specs.PutLaws.{last_ins, front_ins, last_stands, front_stands}
use Rattle.axis_laws.specs.BesideLaws.{before_ins, after_ins, before_next, after_next, before_pre, after_pre, before_post}
use Rattle.axis_laws.specs.BesideLaws.{after_post}

-- ---- hold: behind all of equal time

pub record HoldTies (n : Notice) (old new : List Notice) : Type 0 where
  pub behind : (a : ℕ) → In a (whos old) → due_of a old ≤ n.due → Before a n.who (whos new)
  pub others : (a b : ℕ) → Before a b (whos old) → Before a b (whos new)

-- old are the notices behind current's
pub hold_ties : (n : Notice) (old : List Notice) → InOrder old → HoldTies n old (behind_all n old)
hold_ties n old o =
    record {
      behind = λ a i l. last_stands n old a o i l;
      others = λ a b k. ins_back n a b (last_ins n old) k;
    }

-- ---- activate and reactivate

-- at T and delay T stand behind; direct and prior in front; before and after stand next to Y, and to any third notice as Y stood
pub record PlacedTies (k y : ℕ) (n : Notice) (old new : List Notice) : Type 0 where
  pub behind : (k ≡ 1) ⊎ (k ≡ 2) → (a : ℕ) → a ≢ n.who → In a (whos old) → due_of a old ≤ n.due → Before a n.who (whos new)
  pub front : k ≢ 1 → k ≢ 2 → k < 5 → (a : ℕ) → a ≢ n.who → In a (whos old) → n.due ≤ due_of a old → Before n.who a (whos new)
  pub before_y : k ≡ 5 → Next n.who y (whos new)
  pub after_y : k ≡ 6 → Next y n.who (whos new)
  pub third_pre : 5 ≤ k → k ≤ 6 → (a : ℕ) → a ≢ n.who → Before a y (whos old) → Before a n.who (whos new)
  pub third_post : 5 ≤ k → k ≤ 6 → (a : ℕ) → a ≢ n.who → Before y a (whos old) → Before n.who a (whos new)
  pub others : k ≤ 6 → (a b : ℕ) → a ≢ n.who → b ≢ n.who → Before a b (whos old) → Before a b (whos new)

-- the four ways of placing
module _ (y : ℕ) (n : Notice) (ns : List Notice) where
  pub is_behind : (k : ℕ) → (k ≡ 1) ⊎ (k ≡ 2) → placed k y n ns ≡ behind_all n ns
  unfolding placed
  is_behind k (inl e) = rw e
  is_behind k (inr e) = rw e

  is_front : (k : ℕ) → k ≢ 1 → k ≢ 2 → k < 5 → placed k y n ns ≡ front_all n ns
  unfolding placed
  is_front k n1 n2 l = rw (ne_eqb k 5 (λ e. omega arith), ne_eqb k 6 (λ e. omega arith), ne_eqb k 1 n1, ne_eqb k 2 n2)

  is_before : (k : ℕ) → k ≡ 5 → placed k y n ns ≡ before y n ns
  unfolding placed
  is_before k e = rw e

  is_after : (k : ℕ) → k ≡ 6 → placed k y n ns ≡ after y n ns
  unfolding placed
  is_after k e = rw e

module _ (k y : ℕ) (n : Notice) (old : List Notice) (o : InOrder old) (d : Dist (whos old))
    (g : 5 ≤ k → In y (whos old) × (y ≢ n.who)) where
  abbrev ns : List Notice
  ns = dropped n.who old

  there : (a : ℕ) → a ≢ n.who → In a (whos old) → In a (whos ns)
  there a f i = drop_old n.who old a f i

  y_on : 5 ≤ k → In y (whos ns)
  y_on l = there y (g l).1 (g l).0

  pub placed_ins : k ≤ 6 → Ins n ns (placed k y n ns)
  placed_ins l =
      decide k 5
      (λ e. rw (is_before y n ns k e) (before_ins y n ns (y_on (omega arith))))
      (λ n5. decide k 6
      (λ e. rw (is_after y n ns k e) (after_ins y n ns (y_on (omega arith))))
      (λ n6. decide k 1
      (λ e. rw (is_behind y n ns k (inl e)) (last_ins n ns))
      (λ n1. decide k 2
      (λ e. rw (is_behind y n ns k (inr e)) (last_ins n ns))
      (λ n2. rw (is_front y n ns k n1 n2 (omega arith)) (front_ins n ns)))))

  pub placed_ties : PlacedTies k y n old (placed k y n (dropped n.who old))
  placed_ties =
      record {
        behind = λ e a f i l.
            rw (is_behind y n ns k e)
            (last_stands n ns a (drop_sorted n.who old o) (there a f i) (rw (drop_due n.who old a f) l));
        front = λ n1 n2 l a f i h. rw (is_front y n ns k n1 n2 l) (front_stands n ns a (there a f i) (rw (drop_due n.who old a f) h));
        before_y = λ e. rw (is_before y n ns k e) (before_next y n ns (y_on (omega arith)));
        after_y = λ e. rw (is_after y n ns k e) (after_next y n ns (y_on (omega arith)));
        third_pre = λ l h a f b.
            let r : Before a y (whos ns) = drop_back n.who old a y f (g l).1 b in
            decide k 5
            (λ e. rw (is_before y n ns k e) (before_pre y n ns a (drop_dist n.who old d) r))
            (λ n5. rw (is_after y n ns k (omega arith)) (after_pre y n ns a (drop_dist n.who old d) r));
        third_post = λ l h a f b.
            let r : Before y a (whos ns) = drop_back n.who old y a (g l).1 f b in
            decide k 5
            (λ e. rw (is_before y n ns k e) (before_post y n ns a r))
            (λ n5. rw (is_after y n ns k (omega arith)) (after_post y n ns a r));
        others = λ l a b f h q. ins_back n a b (placed_ins l) (drop_back n.who old a b f h q);
      }
