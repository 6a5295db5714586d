-- What a chain of calls makes.
use Rattle.std.specs.Prelude.{Ok, Err}
use Prim.Native.Nat.{ℕ, ◌+◌, ◌-◌, ◌<◌, ◌≤◌}
use mathlib.Core.Path.{◌≡◌, sym, ap, ap₂, ◌∙◌}
use mathlib.Core.Logic.{◌≢◌, ◌⊎◌, inl, inr}
use mathlib.Core.Bool.{Bool, true, false}
use mathlib.Core.List.{List}
use native.Mathlib.Numerals.{add-one}
use lib.ListN.{get_or}
use borrow.Author.Tests.{eq-eqb, ne_eqb, le-leb, lt-leb, lt-ltb, le-ltb}
use Rattle.ring_laws.specs.Table.{Made, unlinked, linked_behind}
use Rattle.model.specs.Counts.{limit}
use Rattle.model.specs.declared.Refusal.TheVariants.{NoNotice, TimeLimit}
use Rattle.model.specs.Answers.{Answered}
use Rattle.model.specs.declared.answer.Answer.TheVariants.{Done}
use Rattle.model_laws.specs.Now.{AxisSound, first_of, next_place, prev_place, idle_on, time_of}
use Rattle.simulation_laws.specs.Procedures.{Sqs, made, found, drop_on, put_on, held_at, held, passivated, cancelled, finished_marks, due_at, place_for, put_by_clause, activated}
use Rattle.simulation_laws.specs.Promise.{sqs, Left, Answers, AnswersMarked, Place, Stored, Read, Lone, Vain, BesideIdle, Due, capped_in, capped_out}

pub dropped_by : (m x : ℕ) (a a' t t' : List ℕ) → Made m (unlinked m x a) a' → Stored x 0 t t' → Left m (drop_on m x (sqs a t)) a' t'
unfolding drop_on
dropped_by m x a a' t t' u e = record { is = ap₂ (λ (p q : List ℕ). sqs p q) u.is e.is; sound = u.sound }

pub put_by : (m x q u : ℕ) (a a' t t' : List ℕ) → Made m (linked_behind m x q a) a' → Stored x u t t' → Left m (put_on m x q u (sqs a t)) a' t'
unfolding put_on
put_by m x q u a a' t t' k e = record { is = ap₂ (λ (p q : List ℕ). sqs p q) k.is e.is; sound = k.sound }

module _ (m : ℕ) (a t : List ℕ) where
  -- drop, find, put
  pub moved_by : (x w u q : ℕ) (a₁ t₁ a₂ t₂ : List ℕ) → Left m (drop_on m x (sqs a t)) a₁ t₁ → Place m (found m w (sqs a₁ t₁)) q
      → Left m (put_on m x q u (sqs a₁ t₁)) a₂ t₂ → Left m (put_on m x (found m w (drop_on m x (sqs a t))) u (drop_on m x (sqs a t))) a₂ t₂
  moved_by x w u q a₁ t₁ a₂ t₂ d p s =
      record {
        is = s.is ∙ ap (λ (j : ℕ). put_on m x j u (sqs a₁ t₁)) p.is ∙ ap (λ (b : Sqs). put_on m x (found m w b) u b) d.is;
        sound = s.sound;
      }

  pub scheduled_by : (k x y now u q : ℕ) (a₁ t₁ a₂ t₂ : List ℕ) → Left m (drop_on m x (sqs a t)) a₁ t₁ → Place m (place_for m k y now u (sqs a₁ t₁)) q
      → Left m (put_on m x q u (sqs a₁ t₁)) a₂ t₂ → Left m (put_by_clause m k x y now u (sqs a t)) a₂ t₂
  unfolding put_by_clause
  scheduled_by k x y now u q a₁ t₁ a₂ t₂ d p s =
      record {
        is = s.is ∙ ap (λ (j : ℕ). put_on m x j u (sqs a₁ t₁)) p.is ∙ ap (λ (b : Sqs). put_on m x (place_for m k y now u b) u b) d.is;
        sound = s.sound;
      }

  -- hold
  module _ (x u s : ℕ) (pf : Place m (next_place a x) s) where
    pub held_last : (t' : List ℕ) → AxisSound m a → s ≡ m - 1 → Stored x u t t' → Left m (held_at m x u (sqs a t)) a t'
    unfolding held_at
    held_last t' so e st =
        record { is = rw (← pf.is, eq-eqb s (m - 1) e) (ap (λ (j : List ℕ). sqs a j) st.is); sound = so }

    pub held_soon : (y : ℕ) (t' : List ℕ) → AxisSound m a → s ≢ m - 1 → Read s t y → u < y → Stored x u t t' → Left m (held_at m x u (sqs a t)) a t'
    unfolding held_at
    held_soon y t' so n r l st =
        record { is = rw (← pf.is, ne_eqb s (m - 1) n, lt-ltb u (get_or t s 0) (rw r.is at l)) (ap (λ (j : List ℕ). sqs a j) st.is); sound = so }

    pub held_moved : (y : ℕ) (a' t' : List ℕ) → s ≢ m - 1 → Read s t y → y ≤ u
        → Left m (put_on m x (found m (u + 1) (drop_on m x (sqs a t))) u (drop_on m x (sqs a t))) a' t' → Left m (held_at m x u (sqs a t)) a' t'
    unfolding held_at
    held_moved y a' t' n r l k =
        record {
          is =
              rw (← pf.is, ne_eqb s (m - 1) n, le-ltb u (get_or t s 0) (rw r.is at l))
              (k.is ∙ ap (λ (j : ℕ). put_on m x (found m j (drop_on m x (sqs a t))) u (drop_on m x (sqs a t))) (add-one u));
          sound = k.sound;
        }

  module _ (d x y : ℕ) (px : Place m (first_of m a) x) (r : Read x t y) where
    the_time : time_of m a t ≡ y
    the_time = sym (r.is ∙ ap (λ (j : ℕ). get_or t j 0) px.is)

    pub hold_5 : AxisSound m a → limit < y + d → Answers m (held m d (sqs a t)) a t (Err TimeLimit)
    unfolding held
    hold_5 so l = record { is = rw (the_time, lt-leb (y + d) limit l); sound = so }

    pub hold_0 : (a' t' : List ℕ) → y + d ≤ limit → Left m (held_at m x (y + d) (sqs a t)) a' t' → Answers m (held m d (sqs a t)) a' t' (Ok Done)
    unfolding held
    hold_0 a' t' l k = record { is = rw (the_time, le-leb (y + d) limit l, ← px.is) (ap made k.is); sound = k.sound }

  -- passivate, cancel, finish
  module _ (r : Bool) (lo : Lone m a r) where
    pub passive_4 : AxisSound m a → r ≡ true → Answers m (passivated m (sqs a t)) a t (Err NoNotice)
    unfolding passivated
    passive_4 so e = record { is = rw (sym lo.is ∙ e); sound = so }

    pub passive_0 : (x : ℕ) (a' t' : List ℕ) → r ≡ false → Place m (first_of m a) x → Left m (drop_on m x (sqs a t)) a' t'
        → Answers m (passivated m (sqs a t)) a' t' (Ok Done)
    unfolding passivated
    passive_0 x a' t' e p k = record { is = rw (sym lo.is ∙ e, ← p.is) (ap made k.is); sound = k.sound }

    pub finish_4 : (marks : List ℕ) → AxisSound m a → r ≡ true → AnswersMarked m (passivated m (sqs a t)) (finished_marks m marks (sqs a t)) a t marks (Err NoNotice)
    unfolding finished_marks
    finish_4 marks so e = record { is = (passive_4 so e).is; sound = so; marked = rw (sym lo.is ∙ e) }

    pub finish_0 : (x : ℕ) (marks marks' a' t' : List ℕ) → r ≡ false → Place m (first_of m a) x → Stored x 1 marks marks'
        → Left m (drop_on m x (sqs a t)) a' t' → AnswersMarked m (passivated m (sqs a t)) (finished_marks m marks (sqs a t)) a' t' marks' (Ok Done)
    unfolding finished_marks
    finish_0 x marks marks' a' t' e p s k =
        record {
          is = (passive_0 x a' t' e p k).is;
          sound = k.sound;
          marked = rw (sym lo.is ∙ e, ← p.is) s.is;
        }

  module _ (x : ℕ) (b : Bool) (is : b ≡ idle_on a x) where
    pub cancel_idle : AxisSound m a → b ≡ true → Answers m (cancelled m x (sqs a t)) a t (Ok Done)
    unfolding cancelled
    cancel_idle so e = record { is = rw (sym is ∙ e); sound = so }

    pub cancel_4 : (r : Bool) → AxisSound m a → b ≡ false → Lone m a r → r ≡ true → Answers m (cancelled m x (sqs a t)) a t (Err NoNotice)
    unfolding cancelled
    cancel_4 r so n lo e = record { is = rw (sym is ∙ n, sym lo.is ∙ e); sound = so }

    pub cancel_0 : (r : Bool) (a' t' : List ℕ) → b ≡ false → Lone m a r → r ≡ false → Left m (drop_on m x (sqs a t)) a' t'
        → Answers m (cancelled m x (sqs a t)) a' t' (Ok Done)
    unfolding cancelled
    cancel_0 r a' t' n lo e k = record { is = rw (sym is ∙ n, sym lo.is ∙ e) (ap made k.is); sound = k.sound }

  -- where the new notice stands
  module _ (k y now u : ℕ) where
    pub place_5 : (q : ℕ) → k ≡ 5 → Place m (prev_place m a y) q → Place m (place_for m k y now u (sqs a t)) q
    unfolding place_for
    place_5 q e p = record { is = rw (eq-eqb k 5 e) p.is; within = p.within }

    pub place_6 : y < m → k ≡ 6 → Place m (place_for m k y now u (sqs a t)) y
    unfolding place_for
    place_6 l e = record { is = rw e; within = l }

    pub place_behind : (q : ℕ) → k ≡ 1 ⊎ ((k ≡ 1 → ⊥) × k ≡ 2) → Place m (found m (u + 1) (sqs a t)) q → Place m (place_for m k y now u (sqs a t)) q
    unfolding place_for
    place_behind q (inl e) p = record { is = rw e (p.is ∙ ap (λ (j : ℕ). found m j (sqs a t)) (add-one u)); within = p.within }
    place_behind q (inr e) p = record { is = rw e.1 (p.is ∙ ap (λ (j : ℕ). found m j (sqs a t)) (add-one u)); within = p.within }

    module _ (n5 : k ≢ 5) (n6 : k ≢ 6) (n1 : k ≢ 1) (n2 : k ≢ 2) where
      pub place_now : m - 1 < m → u ≡ now → Place m (place_for m k y now u (sqs a t)) (m - 1)
      unfolding place_for
      place_now l e = record { is = rw (ne_eqb k 5 n5, ne_eqb k 6 n6, ne_eqb k 1 n1, ne_eqb k 2 n2, eq-eqb u now e); within = l }

      pub place_front : (q : ℕ) → u ≢ now → Place m (found m u (sqs a t)) q → Place m (place_for m k y now u (sqs a t)) q
      unfolding place_for
      place_front q n p = record { is = rw (ne_eqb k 5 n5, ne_eqb k 6 n6, ne_eqb k 1 n1, ne_eqb k 2 n2, ne_eqb u now n) p.is; within = p.within }

  -- ACTIVATE
  module _ (again : Bool) (k x y d : ℕ) (marks : List ℕ) (v : Bool) (va : Vain again k x y marks a v) where
    pub vain_0 : AxisSound m a → v ≡ true → Answers m (activated m again k x y d marks (sqs a t)) a t (Ok Done)
    unfolding activated
    vain_0 so e = record { is = rw (sym va.is ∙ e); sound = so }

    module _ (e : v ≡ false) (p w u : ℕ) (px : Place m (first_of m a) p) (r : Read p t w) (du : Due k y d w t u) where
      now_is : time_of m a t ≡ w
      now_is = sym (r.is ∙ ap (λ (j : ℕ). get_or t j 0) px.is)

      pub active_5 : AxisSound m a → limit < u → Answers m (activated m again k x y d marks (sqs a t)) a t (Err TimeLimit)
      unfolding activated
      active_5 so l = record { is = rw (sym va.is ∙ e, now_is, lt-leb (due_at k y d w t) limit (capped_out (due_at k y d w t) u du.is l)); sound = so }

      module _ (l : u ≤ limit) (b : Bool) (be : BesideIdle k y a b) where
        due_u : due_at k y d w t ≡ u
        due_u = capped_in (due_at k y d w t) u du.is l

        pub active_idle : (a' t' : List ℕ) (i : Answered) → b ≡ true → Answers m (cancelled m x (sqs a t)) a' t' i → Answers m (activated m again k x y d marks (sqs a t)) a' t' i
        unfolding activated
        active_idle a' t' i f c =
            record { is = rw (sym va.is ∙ e, now_is, due_u, le-leb u limit l, sym be.is ∙ f) c.is; sound = c.sound }

        pub active_0 : (a' t' : List ℕ) → b ≡ false → Left m (put_by_clause m k x y w u (sqs a t)) a' t' → Answers m (activated m again k x y d marks (sqs a t)) a' t' (Ok Done)
        unfolding activated
        active_0 a' t' f c =
            record { is = rw (sym va.is ∙ e, now_is, due_u, le-leb u limit l, sym be.is ∙ f) (ap made c.is); sound = c.sound }
