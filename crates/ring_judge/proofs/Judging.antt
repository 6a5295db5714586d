-- The laws that the judge's code cites: the invariants of its loops, and what each return answers.
use Prim.Native.Nat.{ℕ, suc, ◌+◌, ◌-◌, ◌<◌, ◌≤◌}
use mathlib.Core.Path.{◌≡◌, sym, ap, ap₂, ◌∙◌}
use mathlib.Core.Logic.{◌≢◌}
use mathlib.Core.Bool.{Bool, true, false, not}
use mathlib.Core.List.{List}
use mir.Val.{bool_byte}
use native.Mathlib.Omega.{arith}
use native.Mathlib.Numerals.{add-one}
use lib.Dec.{eqb}
use lib.ListN.{length, get_or}
use borrow.Author.Tests.{ne_eqb}
use Rattle.ring_laws.specs.Lists.{decide, test}
use Rattle.ring_laws.specs.Stores.{sucs, pres, suc_at}
use Rattle.ring_laws.specs.Judge.{Space, WalkStep, Bounded, allowed, step, walk, closed, idle, busy, rings_fine}
use Rattle.ring_laws.specs.RingWalk.{allowed_mean, step_not, step_one_way, step_is, walk_broken, walk_back, walk_short, walk_on}
use Rattle.ring_laws.proofs.Busy.{idle_not, idle_last, busy_none, busy_idle, busy_more}
use Rattle.ring_laws.specs.Rows.{closed_none, closed_broken, closed_long, closed_on}
use Rattle.ring_laws.specs.Fine.{fine_not, fine_is}

module _ (m : ℕ) (t : List ℕ) where
  pub not_idle : (x : ℕ) → x < m → get_or t x 0 ≢ 0 → eqb (get_or t x 0) 0 ≡ idle (sucs m t) (pres m t) x
  not_idle x l n = ne_eqb _ _ n ∙ sym (idle_not (sucs m t) (pres m t) x (λ e. n (sym (suc_at m t x l) ∙ e)))

  pub half_idle : (x : ℕ) → x < m → get_or t x 0 ≡ 0 → eqb (get_or t (m + x) 0) 0 ≡ idle (sucs m t) (pres m t) x
  half_idle x l e = sym (idle_last (sucs m t) (pres m t) x (suc_at m t x l ∙ e))

  module _ (lo hi h a : ℕ) where
    pub next_not : (s : ℕ) (ok : Bool) → a < m → s ≡ get_or t a 0 → ok ≡ allowed lo hi h s → ok ≡ false → WalkStep m (step (sucs m t) (pres m t) lo hi h a) 0
    next_not s ok l e f g =
        record {
          is = sym (step_not (sucs m t) (pres m t) lo hi h a (ap (allowed lo hi h) (suc_at m t a l ∙ sym e) ∙ sym f ∙ g));
          at = omega arith;
        }

    pub next_in_table : (s : ℕ) (ok : Bool) → h < m → hi ≤ m → ok ≡ allowed lo hi h s → ok ≡ true → s < m
    next_in_table s ok l u f g =
        decide s h (λ e. omega arith) (λ n. omega (arith, allowed_mean lo hi h s n (sym f ∙ g)))

    pub next_one_way : (s p : ℕ) → a < m → s ≡ get_or t a 0 → p ≡ get_or t (m + s) 0 → p ≢ a → WalkStep m (step (sucs m t) (pres m t) lo hi h a) 0
    next_one_way s p l e f n =
        record {
          is = sym (step_one_way (sucs m t) (pres m t) lo hi h a (λ z. n (f ∙ ap (pres m t) (e ∙ sym (suc_at m t a l)) ∙ z)));
          at = omega arith;
        }

    pub next_is : (s p : ℕ) (ok : Bool) → Space m hi t → h < m → a < m → s ≡ get_or t a 0 → ok ≡ allowed lo hi h s → ok ≡ true → p ≡ get_or t (m + s) 0 → p ≡ a
        → WalkStep m (step (sucs m t) (pres m t) lo hi h a) s
    next_is s p ok sp hm l e f g q n =
        let s_is : sucs m t a ≡ s = suc_at m t a l ∙ sym e in
        record {
          is =
              sym (step_is (sucs m t) (pres m t) lo hi h a (ap (allowed lo hi h) s_is ∙ sym f ∙ g) (ap (pres m t) s_is ∙ sym q ∙ n) ∙ s_is);
          at = next_in_table s ok hm sp.top f g;
        }

-- ---- round one ring

-- k places passed, the walk stands at a: what is left to walk is walked from there, and past all of them it has failed
pub record Rounds (m : ℕ) (t : List ℕ) (lo hi h left a k : ℕ) : Type 0 where
  pub at : a < m
  pub rest : (j : ℕ) → k + j ≡ left → walk (sucs m t) (pres m t) lo hi h j a ≡ walk (sucs m t) (pres m t) lo hi h left h
  pub over : left < k → walk (sucs m t) (pres m t) lo hi h left h ≡ 0

module _ (m : ℕ) (t : List ℕ) (lo hi h left : ℕ) where
  pub rounds_start : h < m → Rounds m t lo hi h left h 0
  rounds_start l =
      record {
        at = l;
        rest = λ j e. ap (λ (i : ℕ). walk (sucs m t) (pres m t) lo hi h i h) (omega (arith, e));
        over = λ e. absurd (none e);
      }
    where
      none : left < 0 → ⊥
      none e = omega arith

  pub rounds_over : (a k : ℕ) → Rounds m t lo hi h left a k → left + 1 ≤ k → Bounded (left + 1) (walk (sucs m t) (pres m t) lo hi h left h) 0
  rounds_over a k r l = record { is = sym (r.over (omega arith)); few = omega arith }

  module _ (a k s : ℕ) (r : Rounds m t lo hi h left a k) (u : k < left + 1) (st : WalkStep m (step (sucs m t) (pres m t) lo hi h a) s) where
    pub rounds_broken : s ≡ 0 → Bounded (left + 1) (walk (sucs m t) (pres m t) lo hi h left h) 0
    rounds_broken e =
        record {
          is = sym (walk_broken (sucs m t) (pres m t) lo hi h (left - k) a (sym st.is ∙ e)) ∙ r.rest (left - k) (omega arith);
          few = omega arith;
        }

    pub rounds_back : s ≢ 0 → s ≡ h → Bounded (left + 1) (walk (sucs m t) (pres m t) lo hi h left h) (left - k + 1)
    rounds_back n e =
        record {
          is =
              add-one (left - k)
              ∙ sym (walk_back (sucs m t) (pres m t) lo hi h (left - k) a (λ z. n (st.is ∙ z)) (sym st.is ∙ e))
              ∙ r.rest (left - k) (omega arith);
          few = omega arith;
        }

    pub rounds_turn : s ≢ 0 → s ≢ h → Rounds m t lo hi h left s (k + 1)
    rounds_turn n o =
        record {
          at = st.at;
          rest =
              λ j e. ap (walk (sucs m t) (pres m t) lo hi h j) st.is
              ∙ sym (walk_on (sucs m t) (pres m t) lo hi h j a (λ z. n (st.is ∙ z)) (λ z. o (st.is ∙ z)))
              ∙ r.rest (suc j) (omega (arith, e));
          over =
              λ l. sym (r.rest 0 (omega (arith, l, u)))
              ∙ walk_short (sucs m t) (pres m t) lo hi h a (λ z. n (st.is ∙ z)) (λ z. o (st.is ∙ z));
        }

-- ---- the heads one by one

pub record Heads (m : ℕ) (t : List ℕ) (lo hi most n g links left i : ℕ) : Type 0 where
  pub few : left < m
  pub rest : (j : ℕ) → i + j ≡ n → closed (sucs m t) (pres m t) lo hi most j (g + i) left ≡ closed (sucs m t) (pres m t) lo hi most n g links

module _ (m : ℕ) (t : List ℕ) (lo hi most n g links : ℕ) where
  pub heads_start : links < m → Heads m t lo hi most n g links links 0
  heads_start k =
      record {
        few = k;
        rest = λ j e. ap₂ (λ (a b : ℕ). closed (sucs m t) (pres m t) lo hi most a b links) (omega (arith, e)) (omega arith);
      }

  module _ (left i w : ℕ) (v : Heads m t lo hi most n g links left i) (u : i < n)
      (b : Bounded (left + 1) (walk (sucs m t) (pres m t) lo hi (g + i) left (g + i)) w) where
    pub heads_broken : w ≡ 0 → false ≡ closed (sucs m t) (pres m t) lo hi most n g links
    heads_broken z =
        sym (closed_broken (sucs m t) (pres m t) lo hi most (n - i - 1) (g + i) left (sym b.is ∙ z)) ∙ v.rest (suc (n - i - 1)) (omega arith)

    pub heads_long : w ≢ 0 → most < left - (w - 1) → false ≡ closed (sucs m t) (pres m t) lo hi most n g links
    heads_long z l =
        let f : w ≡ suc (w - 1) = omega arith in
        sym (closed_long (sucs m t) (pres m t) lo hi most (n - i - 1) (g + i) left (w - 1) (sym b.is ∙ f) l)
        ∙ v.rest (suc (n - i - 1)) (omega arith)

    pub heads_turn : w ≢ 0 → left - (w - 1) ≤ most → Heads m t lo hi most n g links (w - 1) (i + 1)
    heads_turn z l =
        let f : w ≡ suc (w - 1) = omega arith in
        record {
          few = omega (arith, v.few, b.few);
          rest =
              λ j e. ap (λ (h : ℕ). closed (sucs m t) (pres m t) lo hi most j h (w - 1)) (next g i)
              ∙ sym (closed_on (sucs m t) (pres m t) lo hi most j (g + i) left (w - 1) (sym b.is ∙ f) l)
              ∙ v.rest (suc j) (omega (arith, e));
        }
      where
        next : (g i : ℕ) → g + (i + 1) ≡ suc (g + i)
        next g i = omega arith

  pub heads_out : (left i : ℕ) → Heads m t lo hi most n g links left i → i ≤ n → n ≤ i → eqb left 0 ≡ closed (sucs m t) (pres m t) lo hi most n g links
  heads_out left i v o p = sym (closed_none (sucs m t) (pres m t) lo hi most (g + i) left) ∙ v.rest 0 (omega arith)

-- ---- those that are not idle

pub record Weighs (m : ℕ) (t : List ℕ) (lo n j : ℕ) : Type 0 where
  pub is : n ≡ length (busy (sucs m t) (pres m t) lo j)
  pub few : n ≤ j

pub weighs_start : (m : ℕ) (t : List ℕ) (lo : ℕ) → Weighs m t lo 0 0
weighs_start m t lo = record { is = sym (ap length (busy_none (sucs m t) (pres m t) lo)); few = omega arith }

pub weighs_turn : (m : ℕ) (t : List ℕ) (lo n j w : ℕ) (b : Bool) → Weighs m t lo n j → b ≡ idle (sucs m t) (pres m t) (lo + j)
    → w ≡ bool_byte (not b) → Weighs m t lo (n + w) (j + 1)
weighs_turn m t lo n j w b v e q =
    record {
      is = more ∙ ap (λ (i : ℕ). length (busy (sucs m t) (pres m t) lo i)) (sym (add-one j));
      few = omega (arith, v.few, test b (λ f. few1 (rw f at q)) (λ f. few0 (rw f at q)));
    }
  where
    few1 : w ≡ 0 → w ≤ 1
    few1 z = omega arith

    few0 : w ≡ 1 → w ≤ 1
    few0 z = omega arith

    more : n + w ≡ length (busy (sucs m t) (pres m t) lo (suc j))
    more =
        test b
        (λ f. omega (arith, v.is, rw f at q, ap length (busy_idle (sucs m t) (pres m t) lo j (sym e ∙ f))))
        (λ f. omega (arith, v.is, rw f at q, ap length (busy_more (sucs m t) (pres m t) lo j (sym e ∙ f))))

pub weighs_out : (m : ℕ) (t : List ℕ) (lo n j end : ℕ) → Weighs m t lo n j → j ≡ end → Bounded end (length (busy (sucs m t) (pres m t) lo end)) n
weighs_out m t lo n j end v e =
    record { is = v.is ∙ ap (λ (i : ℕ). length (busy (sucs m t) (pres m t) lo i)) e; few = omega (arith, v.few) }

-- ---- the whole

module _ (S P : ℕ → ℕ) (lo hi most n g : ℕ) (zeros : Bool) (e : zeros ≡ idle S P 0) where
  pub not_fine : zeros ≡ false → zeros ≡ rings_fine S P lo hi most n g
  not_fine f = f ∙ sym (fine_not S P lo hi most n g (sym e ∙ f))

  pub is_fine_lem : (k : ℕ) (r : Bool) → zeros ≡ true → Bounded (hi - lo) (length (busy S P lo (hi - lo))) k
      → r ≡ closed S P lo hi most n g k → r ≡ rings_fine S P lo hi most n g
  is_fine_lem k r f b q = q ∙ ap (closed S P lo hi most n g) b.is ∙ sym (fine_is S P lo hi most n g (sym e ∙ f))
