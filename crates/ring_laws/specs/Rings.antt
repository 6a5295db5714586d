-- Rings over m places and a set of heads: each head h is followed by the members L h, and then by itself; a link is a member of
-- a ring or has no successor and no predecessor.
use Rattle.std.specs.Prelude.{ℕ, ◌<◌, ◌≤◌, ◌≡◌, refl, ◌≢◌, ◌⊎◌, Bool, true, false, List, ◌∷◌, length}
use Rattle.std.proofs.Common.{sym, ap, ◌∙◌, inl, inr, ⊎_elim, arith}
use Rattle.ring_laws.specs.Lists.{In, without, behind, decide, clash, in_without, without_in, without_none, in_behind, behind_old}
use Rattle.ring_laws.specs.Lists.{behind_new}
use Rattle.ring_laws.specs.Distinct.{Dist, pigeon}
use Rattle.ring_laws.specs.Chain.{Chain, next_in_lem, prev_in_lem, Cut, cut_chain, Put, put_chain}
use Rattle.ring_laws.specs.Unique.{same_chain, suffix, same_end, dist_chain}

pub record Head (m : ℕ) (is_head : ℕ → Bool) (h : ℕ) : Type 0 where
  pub some : 0 < h
  pub within : h < m
  pub is : is_head h ≡ true

pub record Link (m : ℕ) (is_head : ℕ → Bool) (x : ℕ) : Type 0 where
  pub some : 0 < x
  pub within : x < m
  pub isn't : is_head x ≡ false

-- "every head lies on its own ring; a link has two zeros or lies on exactly one head's ring; predecessor undoes successor";
-- place 0 holds 0
pub record Rings (m : ℕ) (is_head : ℕ → Bool) (L : ℕ → List ℕ) (S P : ℕ → ℕ) : Type 0 where
  pub ring : (h : ℕ) → Head m is_head h → Chain S P h (L h) h
  pub only : (h x : ℕ) → Head m is_head h → In x (L h) → Link m is_head x
  pub whole : (x : ℕ) → Link m is_head x → ((h : ℕ) × Head m is_head h × In x (L h)) ⊎ ((S x ≡ 0) × (P x ≡ 0))
  pub zero_s : S 0 ≡ 0
  pub zero_p : P 0 ≡ 0

module _ (m : ℕ) (is_head : ℕ → Bool) where
  -- a head is no link
  pub apart : (h x : ℕ) → Head m is_head h → Link m is_head x → h ≢ x
  apart h x a b e = clash (sym b.isn't ∙ ap is_head (sym e) ∙ a.is)

  -- every place is none, a head or a link
  pub kind : (i : ℕ) → i < m → (i ≡ 0) ⊎ (Head m is_head i ⊎ Link m is_head i)
  kind i l = decide i 0 (λ e. inl e) (λ n. inr (go n (is_head i) refl))
    where
      go : i ≢ 0 → (b : Bool) → is_head i ≡ b → Head m is_head i ⊎ Link m is_head i
      go n true e = inl (record { some = omega arith; within = l; is = e })
      go n false e = inr (record { some = omega arith; within = l; isn't = e })

  -- the lists matter at the heads alone
  pub rings_cong : (L L' : ℕ → List ℕ) (S P : ℕ → ℕ) → ((h : ℕ) → Head m is_head h → L h ≡ L' h) → Rings m is_head L S P
      → Rings m is_head L' S P
  rings_cong L L' S P e r =
      record {
        ring = λ h a. rw (e h a) at (r.ring h a);
        only = λ h x a i. r.only h x a (rw (← (e h a)) at i);
        whole = λ x l. ⊎_elim (λ w. inl (w.0, w.1, rw (e w.0 w.1) at w.2)) (λ z. inr z) (r.whole x l);
        zero_s = r.zero_s;
        zero_p = r.zero_p;
      }

  module _ (L : ℕ → List ℕ) (S P : ℕ → ℕ) (r : Rings m is_head L S P) where
    -- ---- places on a ring, and their neighbours

    pub on_place : (h y : ℕ) → Head m is_head h → In y (h ∷ L h) → (0 < y) × (y < m)
    on_place h y a (inl e) = omega (arith, a)
    on_place h y a (inr k) = omega (arith, r.only h y a k)

    pub next_on_lem : (h y : ℕ) → Head m is_head h → In y (h ∷ L h) → In (S y) (h ∷ L h)
    next_on_lem h y a k = ⊎_elim (λ i. inr i) (λ e. inl e) (next_in_lem S P h (L h) h y (r.ring h a) k)

    pub next_place_lem : (h y : ℕ) → Head m is_head h → In y (h ∷ L h) → (0 < S y) × (S y < m)
    next_place_lem h y a k = on_place h (S y) a (next_on_lem h y a k)

    pub prev_place_lem : (h y : ℕ) → Head m is_head h → In y (L h) ⊎ (y ≡ h) → (0 < P y) × (P y < m)
    prev_place_lem h y a k = on_place h (P y) a (prev_in_lem S P h (L h) h y (r.ring h a) k)

    -- a link with no successor is a member of no ring
    pub free : (x : ℕ) → S x ≡ 0 → (h : ℕ) → Head m is_head h → In x (L h) → ⊥
    free x z h a k = omega (arith, next_place_lem h x a (inr k))

    -- ---- members are distinct, rings are disjoint

    pub not_own : (h : ℕ) → Head m is_head h → In h (L h) → ⊥
    not_own h a k = apart h h a (r.only h h a k) refl

    pub rings_dist : (h : ℕ) → Head m is_head h → Dist (h ∷ L h)
    rings_dist h a = (not_own h a, dist_chain S P h (L h) h (r.ring h a) (not_own h a))

    pub rings_apart : (g h x : ℕ) → Head m is_head g → Head m is_head h → In x (L g) → In x (L h) → g ≡ h
    rings_apart g h x a b i k =
        let u = suffix S P g (L g) g x (r.ring g a) i in
        let v = suffix S P h (L h) h x (r.ring h b) k in
        same_end S P x u.0 v.0 g h u.1 v.1
        (λ w. apart h h b (r.only g h a (u.3 h w)) refl)
        (λ w. apart g g a (r.only h g b (v.3 g w)) refl)

    pub rings_few : (h : ℕ) → Head m is_head h → length (L h) ≤ m
    rings_few h a = pigeon m (L h) (rings_dist h a).1 (λ y i. (r.only h y a i).within)

    -- ---- x is taken out

    pub idle_rings : (x : ℕ) → S x ≡ 0 → Rings m is_head (λ h. without x (L h)) S P
    idle_rings x z = rings_cong L (λ h. without x (L h)) S P (λ h a. without_none x (L h) (free x z h a)) r

    pub cut_rings : (S' P' : ℕ → ℕ) (x : ℕ) → Link m is_head x → Cut S P S' P' x → S' x ≡ 0 → P' x ≡ 0
        → Rings m is_head (λ h. without x (L h)) S' P'
    cut_rings S' P' x lx k sx px =
        record {
          ring = λ h a. cut_chain S P S' P' x k h (L h) h (r.ring h a) (apart h x a lx) (apart h x a lx);
          only = λ h y a i. r.only h y a (in_without y x (L h) i);
          whole = λ y ly.
              decide y x
              (λ e. inr (ap S' e ∙ sx, ap P' e ∙ px))
              (λ n. ⊎_elim
              (λ w. inl (w.0, w.1, without_in y x (L w.0) n w.2))
              (λ z. inr (s_kept y n z.0 ∙ z.0, p_kept y n z.1 ∙ z.1))
              (r.whole y ly));
          zero_s = s_kept 0 (omega (arith, lx)) r.zero_s ∙ r.zero_s;
          zero_p = p_kept 0 (omega (arith, lx)) r.zero_p ∙ r.zero_p;
        }
      where
        s_kept : (y : ℕ) → y ≢ x → S y ≡ 0 → S' y ≡ S y
        s_kept y n z = k.s_else y n (λ e. let w : x ≡ 0 = sym k.sp ∙ ap S (sym e) ∙ z in omega (arith, lx))

        p_kept : (y : ℕ) → y ≢ x → P y ≡ 0 → P' y ≡ P y
        p_kept y n z = k.p_else y n (λ e. let w : x ≡ 0 = sym k.ps ∙ ap P (sym e) ∙ z in omega (arith, lx))

    -- ---- x, a member of no ring, is put behind y, which is on the ring of h

    pub put_rings : (S' P' : ℕ → ℕ) (x y h : ℕ) → Link m is_head x → S x ≡ 0 → Head m is_head h → In y (h ∷ L h) → Put S P S' P' x y
        → Rings m is_head (λ g. behind y x g (L g)) S' P'
    put_rings S' P' x y h lx zx hh on k =
        record {
          ring = λ g a.
              put_chain S P S' P' x y k g (L g) g (r.ring g a) (rings_dist g a) (apart g x a lx)
              (⊎_elim (λ e. apart g x a lx (sym e)) (free x zx g a));
          only = λ g z a i. ⊎_elim (λ e. rw e lx) (λ j. r.only g z a j) (in_behind y x g (L g) z i);
          whole = λ z lz.
              decide z x
              (λ e. inl (h, hh, rw e (behind_new y x h (L h) on)))
              (λ n. ⊎_elim
              (λ w. inl (w.0, w.1, behind_old y x w.0 (L w.0) z w.2))
              (λ o. inr (s_kept z n o.0 ∙ o.0, p_kept z n o.1 ∙ o.1))
              (r.whole z lz));
          zero_s = s_kept 0 (omega (arith, lx)) r.zero_s ∙ r.zero_s;
          zero_p = p_kept 0 (omega (arith, lx)) r.zero_p ∙ r.zero_p;
        }
      where
        s_kept : (z : ℕ) → z ≢ x → S z ≡ 0 → S' z ≡ S z
        s_kept z n o = k.s_else z n (λ e. let w : S y ≡ 0 = sym (ap S e) ∙ o in omega (arith, next_place_lem h y hh on))

        p_kept : (z : ℕ) → z ≢ x → P z ≡ 0 → P' z ≡ P z
        p_kept z n o = k.p_else z n (λ e. let w : y ≡ 0 = sym k.ps ∙ ap P (sym e) ∙ o in omega (arith, on_place h y hh on))

-- two families of lists on the same successors and predecessors are one
pub rings_one : (m : ℕ) (is_head : ℕ → Bool) (L L' : ℕ → List ℕ) (S P : ℕ → ℕ) → Rings m is_head L S P → Rings m is_head L' S P
    → (h : ℕ) → Head m is_head h → L h ≡ L' h
rings_one m is_head L L' S P r r' h a =
    same_chain S P h (L h) (L' h) h (r.ring h a) (r'.ring h a) (not_own m is_head L S P r h a) (not_own m is_head L' S P r' h a)
