-- A table of 2 × m words as two functions, and what the published stores do to them.
use Rattle.std.specs.Prelude.{ℕ, ◌+◌, ◌*◌, ◌<◌, ◌≡◌, ◌≢◌, List, length, get_or, set, take}
use Rattle.std.proofs.Common.{sym, ap, ◌∙◌, arith, length-set, get_or-take, get_or-set_same, get_or-set_other}
use Rattle.std.proofs.lemmas.List.{take-set-le}
use Rattle.std.proofs.Math.Seq.{take-set-lt}
use Rattle.ring_laws.specs.Table.{cut, join, join_before}
use Rattle.ring_laws.specs.Chain.{Cut, Put}

-- the two halves: the successor of i, and its predecessor
abbrev pub sucs : ℕ → List ℕ → ℕ → ℕ
sucs m t i = get_or (take m t) i 0

abbrev pub pres : ℕ → List ℕ → ℕ → ℕ
pres m t i = get_or t (m + i) 0

pub suc_at : (m : ℕ) (t : List ℕ) (x : ℕ) → x < m → sucs m t x ≡ get_or t x 0
suc_at m t x h = get_or-take m t x 0 h

-- ---- one store

module _ (m : ℕ) (t : List ℕ) (i v : ℕ) where
  pub s_same : i < m → length t ≡ 2 * m → sucs m (set t i v) i ≡ v
  s_same h e = get_or-take m (set t i v) i 0 h ∙ get_or-set_same t i v 0 (omega arith)

  pub s_other : (u : ℕ) → i < m → u ≢ i → sucs m (set t i v) u ≡ sucs m t u
  s_other u h n = ap (λ (l : List ℕ). get_or l u 0) (take-set-lt m t i v h) ∙ get_or-set_other (take m t) i u v 0 n

  pub s_high : (u : ℕ) → sucs m (set t (m + i) v) u ≡ sucs m t u
  s_high u = ap (λ (l : List ℕ). get_or l u 0) (take-set-le m t (m + i) v (omega arith))

  pub p_same : i < m → length t ≡ 2 * m → pres m (set t (m + i) v) i ≡ v
  p_same h e = get_or-set_same t (m + i) v 0 (omega arith)

  pub p_other : (u : ℕ) → u ≢ i → pres m (set t (m + i) v) u ≡ pres m t u
  p_other u n = get_or-set_other t (m + i) (m + u) v 0 (omega arith)

  pub p_low : (u : ℕ) → i < m → pres m (set t i v) u ≡ pres m t u
  p_low u h = get_or-set_other t i (m + u) v 0 (omega arith)

pub ruleset stores = (s_same, s_other, s_high, p_same, p_other, p_low, length-set)

-- ---- the statements

module _ (m : ℕ) (t : List ℕ) (two : length t ≡ 2 * m) where
  pub cut_is : (x s p : ℕ) → x < m → s < m → p < m → sucs m t x ≡ s → pres m t x ≡ p
      → sucs m t p ≡ x → pres m t s ≡ x → s ≢ x → p ≢ x
      → Cut (sucs m t) (pres m t) (sucs m (cut m x s p t)) (pres m (cut m x s p t)) x
  cut_is x s p xm sm pm es ep sp ps sx px =
      record {
        sp = rw ep sp;
        ps = rw es ps;
        ne = rw es sx;
        s_at = rw (ep, es) (simp (stores, two));
        p_at = rw (ep, es) (simp (stores, two));
        s_else = λ u n₁ n₂. let n₃ : u ≢ p = rw ep at n₂ in simp stores;
        p_else = λ u n₁ n₂. let n₃ : u ≢ s = rw es at n₂ in simp stores;
      }

  pub cut_x : (x s p : ℕ) → x < m → s < m → p < m → (sucs m (cut m x s p t) x ≡ 0) × (pres m (cut m x s p t) x ≡ 0)
  cut_x x s p xm sm pm = (simp (stores, two), simp (stores, two))

  pub join_is : (x y s : ℕ) → x < m → y < m → s < m → sucs m t y ≡ s → pres m t s ≡ y → x ≢ y → s ≢ x
      → Put (sucs m t) (pres m t) (sucs m (join m x y s t)) (pres m (join m x y s t)) x y
  join_is x y s xm ym sm es ps xy sx =
      let xs : x ≢ s = λ e. sx (sym e) in
      record {
        ps = rw es ps;
        s_y = simp (stores, two);
        p_x = simp (stores, two);
        s_x = rw es (simp (stores, two));
        p_s = rw es (simp (stores, two));
        s_else = λ u n₁ n₂. simp stores;
        p_else = λ u n₁ n₂. let n₃ : u ≢ s = rw es at n₂ in simp stores;
      }

  -- in front of y is behind its predecessor p
  pub before_is : (x y p : ℕ) → x < m → y < m → p < m → sucs m t p ≡ y → pres m t y ≡ p → x ≢ y → x ≢ p
      → Put (sucs m t) (pres m t) (sucs m (join_before m x y p t)) (pres m (join_before m x y p t)) x p
  before_is x y p xm ym pm es ep xy xp =
      record {
        ps = rw es ep;
        s_y = simp (stores, two);
        p_x = simp (stores, two);
        s_x = rw es (simp (stores, two));
        p_s = rw es (simp (stores, two));
        s_else = λ u n₁ n₂. simp stores;
        p_else = λ u n₁ n₂. let n₃ : u ≢ y = rw es at n₂ in simp stores;
      }
