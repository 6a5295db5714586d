-- What a call does to the notices: where the one it places stands, and that the others keep their times and their order.
use Rattle.std.specs.Prelude.{ℕ, ◌≤◌, ◌≡◌, refl, ◌≢◌, ◌⊎◌, false, ◌||◌, List, [], ◌∷◌}
use Rattle.std.proofs.Common.{sym, ◌∙◌, ⊎_elim, arith}
use Rattle.std.proofs.Math.Logic.{inl, inr}
use Rattle.std.proofs.Math.Bool.{true}
use Rattle.std.proofs.Math.Dec.{eqb}
use borrow.Author.Tests.{eq-eqb, ne_eqb, eqb-true, eqb-false}
use Rattle.ring_laws.specs.Lists.{In, decide, test, clash}
use Rattle.ring_laws.specs.Distinct.{Dist}
use Rattle.axis_laws.specs.Notices.{Notice, whos, due_of, InOrder}
use Rattle.axis_laws.specs.NoticeOps.{dropped}
use Rattle.axis_laws.specs.Orders.{Before, Next}
use Rattle.axis_laws.specs.NoticeLaws.{Ins, ins_new, ins_in, ins_due, ins_own, drop_in, drop_gone, drop_due, drop_back}
use Rattle.simulation_laws.specs.Plain.{placed}
use Rattle.simulation_laws.specs.Ties.{PlacedTies, placed_ins, placed_ties}
use Rattle.machine.specs.History.{How, nothing, places, how_of, Placed, is_placed, Others, Stepwise}

-- ---- calls that place nothing

others_same : (ns : List Notice) → Others nothing ns ns
others_same ns = record { there = λ a q i. i; due = λ a q i. refl; order = λ a b q r i j k. k }

pub stepwise_same : (ns : List Notice) → Stepwise nothing ns ns
stepwise_same ns = record { placed = tt; others = others_same ns }

pub stepwise_drop : (x : ℕ) (ns : List Notice) → Stepwise nothing ns (dropped x ns)
stepwise_drop x ns =
    record {
      placed = tt;
      others =
          record {
            there = λ a q i. drop_in x ns a i;
            due = λ a q i. drop_due x ns a (drop_gone x ns a i);
            order = λ a b q r i j k. drop_back x ns a b (drop_gone x ns a i) (drop_gone x ns b j) k;
          };
    }

-- ---- calls that place x's notice: taken out where it was, and put in by its clause

next_before : (a b : ℕ) (l : List ℕ) → Next a b l → Before a b l
next_before a b [] k = absurd k
next_before a b (z ∷ []) k = absurd k
next_before a b (z ∷ w ∷ l) (inl e) = inl (e.0, inl (sym e.1))
next_before a b (z ∷ w ∷ l) (inr k) = inr (next_before a b (w ∷ l) k)

module _ (k y : ℕ) (n : Notice) (old : List Notice) (o : InOrder old) (d : Dist (whos old)) (k6 : k ≤ 6)
    (g : 5 ≤ k → In y (whos old) × (y ≢ n.who) × (n.due ≡ due_of y old)) where
  abbrev x : ℕ
  x = n.who

  abbrev new : List Notice
  new = placed k y n (dropped n.who old)

  on : 5 ≤ k → In y (whos old) × (y ≢ n.who)
  on l = ((g l).0, (g l).1)

  ins : Ins n (dropped n.who old) (placed k y n (dropped n.who old))
  ins = placed_ins k y n old o d on k6

  its : PlacedTies k y n old (placed k y n (dropped n.who old))
  its = placed_ties k y n old o d on

  -- every other that is there was there, with its time
  was : (a : ℕ) → a ≢ x → In a (whos new) → In a (whos old)
  was a f i = ⊎_elim (λ e. absurd (f e)) (λ j. drop_in x old a j) (ins_in n a ins i)

  same_due : (a : ℕ) → a ≢ x → due_of a new ≡ due_of a old
  same_due a f = ins_due n a f ins ∙ drop_due x old a f

  own_due : due_of x new ≡ n.due
  own_due = ins_own n ins (λ j. drop_gone x old x j refl)

  others : (h : How) → Others (places x h) old new
  others h =
      record {
        there = λ a q i. was a (off a q) i;
        due = λ a q i. same_due a (off a q);
        order = λ a b q r i j u. its.others k6 a b (off a q) (off b r) u;
      }
    where
      off : (a : ℕ) → is_placed a (places x h) ≡ false → a ≢ x
      off a q e = eqb-false x a q (sym e)

  -- at equal times, against the notices that were there
  equal_due : (a : ℕ) → a ≢ x → due_of a new ≡ due_of x new → due_of a old ≡ n.due
  equal_due a f e = sym (same_due a f) ∙ e ∙ own_due

  y_due : 5 ≤ k → due_of x new ≡ due_of y new
  y_due l = own_due ∙ (g l).2 ∙ sym (same_due y (g l).1)

  its_place : Placed (how_of k y) x old new
  unfolding how_of
  its_place =
      decide k 5
      (λ e. rw (eq-eqb k 5 e)
      (record {
        present = ins_new n ins;
        y_there = (g (omega arith)).0;
        beside = (y_due (omega arith), its.before_y e);
        stands = λ a f i. (
          λ q. rw q (next_before x y (whos new) (its.before_y e)),
          λ b. its.third_pre (omega arith) k6 a f b,
          λ b. its.third_post (omega arith) k6 a f b,
        );
      }))
      (λ n5. decide k 6
      (λ e. rw (ne_eqb k 5 n5, eq-eqb k 6 e)
      (record {
        present = ins_new n ins;
        y_there = (g (omega arith)).0;
        beside = (y_due (omega arith), its.after_y e);
        stands = λ a f i. (
          λ q. rw q (next_before y x (whos new) (its.after_y e)),
          λ b. its.third_pre (omega arith) k6 a f b,
          λ b. its.third_post (omega arith) k6 a f b,
        );
      }))
      (λ n6. test (eqb k 1 || eqb k 2)
      (λ e. rw (ne_eqb k 5 n5, ne_eqb k 6 n6, e)
      (record {
        present = ins_new n ins;
        y_there = tt;
        beside = tt;
        stands = λ a f i q. its.behind (which k e) a f (was a f i) (omega (arith, equal_due a f q));
      }))
      (λ e. let c = neither k e in
      rw (ne_eqb k 5 n5, ne_eqb k 6 n6, e)
      (record {
        present = ins_new n ins;
        y_there = tt;
        beside = tt;
        stands = λ a f i q. its.front c.0 c.1 (omega arith) a f (was a f i) (omega (arith, equal_due a f q));
      }))))
    where
      which : (k : ℕ) → (eqb k 1 || eqb k 2) ≡ true → (k ≡ 1) ⊎ (k ≡ 2)
      which k e = test (eqb k 1) (λ q. inl (eqb-true k 1 q)) (λ q. inr (eqb-true k 2 (rw q at e)))

      neither : (k : ℕ) → (eqb k 1 || eqb k 2) ≡ false → (k ≢ 1) × (k ≢ 2)
      neither k e = test (eqb k 1) (λ q. clash (sym (rw q at e))) (λ q. (eqb-false k 1 q, eqb-false k 2 (rw q at e)))

  pub stepwise_placed : Stepwise (places n.who (how_of k y)) old (placed k y n (dropped n.who old))
  stepwise_placed = record { placed = its_place; others = others (how_of k y) }
