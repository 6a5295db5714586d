-- The rings of heads that follow each other, as a list of lists; together their members are distinct.
use Prim.Native.Nat.{ℕ, zero, suc, ◌+◌, ◌-◌, ◌<◌, ◌≤◌}
use Rattle.std.specs.Prelude.{◌≡◌, ◌≢◌, Bool, true, false, List, [], ◌∷◌, length, get_or}
use Rattle.std.proofs.Math.Path.{refl}
use Rattle.std.proofs.Common.{sym, ap, ◌∙◌, subst, inr, ⊎_elim, not-suc-le-zero, length-append}
use native.Mathlib.Omega.{arith}
use borrow.Author.Tests.{eq-eqb, eqb-true}
use Rattle.ring_laws.specs.Lists.{In, below, clash}
use Rattle.ring_laws.specs.Chain.{next_in_lem}
use Rattle.ring_laws.specs.Unique.{suffix, same_end, dist_chain}
use Rattle.ring_laws.specs.Rings.{Head, Link, apart}
use Rattle.ring_laws.specs.Judge.{walk, closed, idle}
use Rattle.ring_laws.specs.Distinct.{Dist, joined, in_either, dist_append}
use Rattle.ring_laws.proofs.Busy.{idle_not}
use Rattle.ring_laws.specs.RingWalk.{WalkPassed}
use Rattle.ring_laws.proofs.RingWalk.{walk_chain, chain_walk}
use Rattle.ring_laws.specs.Rows.{Row, Rows, AtMost, at_most_more, closed_none, closed_broken, closed_long, closed_on, Closed}

module _ (m : ℕ) (is_head : ℕ → Bool) (S P : ℕ → ℕ) where
  pub row_at : (ls : List (List ℕ)) (g i : ℕ) → i < length ls → Rows m is_head S P g ls → Row m is_head S P (g + i) (get_or ls i [])
  row_at [] g i h r = absurd (not-suc-le-zero h)
  row_at (l ∷ ls) g zero h r = let e : g ≡ g + 0 = omega arith in subst (λ (j : ℕ). Row m is_head S P j l) e r.0
  row_at (l ∷ ls) g (suc i) h r =
      let e : suc g + i ≡ g + suc i = omega arith in
      subst (λ (j : ℕ). Row m is_head S P j (get_or ls i [])) e (row_at ls (suc g) i (omega arith) r.1)

  pub rows_of : (ls : List (List ℕ)) (g : ℕ) → ((i : ℕ) → i < length ls → Row m is_head S P (g + i) (get_or ls i [])) → Rows m is_head S P g ls
  rows_of [] g f = tt
  rows_of (l ∷ ls) g f =
      let e : g + 0 ≡ g = omega arith in (
        subst (λ (j : ℕ). Row m is_head S P j l) e (f 0 (omega arith)),
        rows_of ls (suc g)
            (λ i h. let q : g + suc i ≡ suc g + i = omega arith in subst (λ (j : ℕ). Row m is_head S P j (get_or ls i [])) q
            (f (suc i) (omega arith))),
      )

  -- ---- distinct

  own : (g : ℕ) (l : List ℕ) → Row m is_head S P g l → (h : ℕ) → Head m is_head h → In h l → ⊥
  own g l r h a k = apart m is_head h h a (r.links h k) refl

  one_row : (g h : ℕ) (l k : List ℕ) (y : ℕ) → Row m is_head S P g l → Row m is_head S P h k → In y l → In y k → g ≡ h
  one_row g h l k y r s i j =
      let a = suffix S P g l g y r.chain i in
      let b = suffix S P h k h y s.chain j in
      same_end S P y a.0 b.0 g h a.1 b.1 (λ w. own g l r h s.head (a.3 h w)) (λ w. own h k s g r.head (b.3 g w))

  no_row : (g h : ℕ) (l : List ℕ) (ls : List (List ℕ)) (y : ℕ) → g < h → Row m is_head S P g l → Rows m is_head S P h ls → In y l
      → In y (joined ls) → ⊥
  no_row g h l [] y b r s i j = j
  no_row g h l (k ∷ ls) y b r s i j =
      ⊎_elim
      (λ w. let e : g ≡ h = one_row g h l k y r s.0 i w in omega arith)
      (λ w. no_row g (suc h) l ls y (omega arith) r s.1 i w)
      (in_either y k (joined ls) j)

  pub rows_dist : (g : ℕ) (ls : List (List ℕ)) → Rows m is_head S P g ls → Dist (joined ls)
  rows_dist g [] r = tt
  rows_dist g (l ∷ ls) r =
      dist_append l (joined ls)
      (dist_chain S P g l g r.0.chain (own g l r.0 g r.0.head))
      (rows_dist (suc g) ls r.1)
      (λ y i j. no_row g (suc g) l ls y (omega arith) r.0 r.1 i j)

  -- a member has a successor
  row_busy : (g : ℕ) (l : List ℕ) (y : ℕ) → Row m is_head S P g l → In y l → idle S P y ≡ false
  row_busy g l y r k =
      idle_not S P y
      (λ z. ⊎_elim (λ i. omega (arith, r.links (S y) i)) (λ e. omega (arith, r.head)) (next_in_lem S P g l g y r.chain (inr k)))

  pub rows_busy : (g : ℕ) (ls : List (List ℕ)) (y : ℕ) → Rows m is_head S P g ls → In y (joined ls) → (idle S P y ≡ false) × Link m is_head y
  rows_busy g [] y r k = absurd k
  rows_busy g (l ∷ ls) y r k =
      ⊎_elim (λ i. (row_busy g l y r.0 i, r.0.links y i)) (λ i. rows_busy (suc g) ls y r.1 i) (in_either y l (joined ls) k)

module _ (m : ℕ) (is_head : ℕ → Bool) (S P : ℕ → ℕ) (lo hi most : ℕ) where
  pub closed_rows : (n g k : ℕ) → ((h : ℕ) → g ≤ h → h < g + n → Head m is_head h) → ((x : ℕ) → lo ≤ x → x < hi → Link m is_head x)
      → closed S P lo hi most n g k ≡ true → Closed m is_head S P most n g k
  closed_rows zero g k hs ls e =
      record {
        lists = [];
        all = refl;
        rows = tt;
        limited = λ i. omega arith;
        count = sym (eqb-true k 0 (sym (closed_none S P lo hi most g k) ∙ e));
      }
  closed_rows (suc n) g k hs ls e =
      go (λ r c. closed_rows n (suc g) r (λ h a b. hs h (omega arith) (omega arith)) ls c) (walk S P lo hi g k g) refl
    where
      go : ((r : ℕ) → closed S P lo hi most n (suc g) r ≡ true → Closed m is_head S P most n (suc g) r) → (w : ℕ)
          → walk S P lo hi g k g ≡ w → Closed m is_head S P most (suc n) g k
      go rec zero q = clash (sym (closed_broken S P lo hi most n g k q) ∙ e)
      go rec (suc r) q =
          let p : WalkPassed S P lo hi g g k r = walk_chain S P lo hi g k g r q in
          let few : k - r ≤ most = below most (k - r) (λ l. clash (sym (closed_long S P lo hi most n g k r q l) ∙ e)) (λ l. l) in
          let c : Closed m is_head S P most n (suc g) r = rec r (sym (closed_on S P lo hi most n g k r q few) ∙ e) in
          record {
            lists = p.members ∷ c.lists;
            all = ap suc c.all;
            rows = (
              record {
                head = hs g (omega arith) (omega arith);
                chain = p.chain;
                links = λ y i. ls y (p.links y i).0 (p.links y i).1;
              },
              c.rows,
            );
            limited = at_most_more most p.members c.lists (omega (arith, p.count, few)) c.limited;
            count = omega (arith, length-append p.members (joined c.lists), c.count, p.count);
          }

  pub rows_closed : (ls : List (List ℕ)) (g k : ℕ) → lo ≢ 0 → ((x : ℕ) → Link m is_head x → (lo ≤ x) × (x < hi))
      → ((x : ℕ) → lo ≤ x → x < hi → Link m is_head x)
      → Rows m is_head S P g ls → AtMost most ls → length (joined ls) ≡ k → closed S P lo hi most (length ls) g k ≡ true
  rows_closed [] g k l0 f b r a e = closed_none S P lo hi most g k ∙ eq-eqb k 0 (sym e)
  rows_closed (l ∷ ls) g k l0 f b r a e =
      closed_on S P lo hi most (length ls) g k (length (joined ls))
      (chain_walk S P lo hi g k g (length (joined ls)) l
      (λ z. omega (arith, r.0.head))
      l0
      (λ u v. apart m is_head g g r.0.head (b g u v) refl)
      r.0.chain
      (λ y i. f y (r.0.links y i))
      (sym e ∙ length-append l (joined ls)))
      (omega (arith, a 0, e, length-append l (joined ls)))
      ∙ rows_closed ls (suc g) (length (joined ls)) l0 f b r.1 (λ i. a (suc i)) refl
