-- A link's place on its ring is given to another: in lists, on chains, on rings, and by stores in a table.
use Rattle.std.specs.Prelude.{ℕ, ◌+◌, ◌*◌, ◌<◌, ◌≡◌, ◌≢◌, ◌⊎◌, Bool, List, [], ◌∷◌, length, set}
use Rattle.std.proofs.Math.Path.{refl, sym, ap}
use Rattle.std.proofs.Common.{◌∙◌, inl, inr, ⊎_elim, arith, eq-eqb, ne_eqb}
use Rattle.std.proofs.Math.ListN.{get_or, length-set}
use Rattle.ring_laws.specs.Lists.{In, decide}
use Rattle.ring_laws.specs.Distinct.{Dist}
use Rattle.ring_laws.specs.Chain.{Edge, Chain, forth, back, no_self}
use Rattle.ring_laws.specs.Rings.{Head, Link, Rings, apart, next_place_lem, prev_place_lem, next_on_lem, free, rings_dist}
use Rattle.ring_laws.specs.Stores.{sucs, pres, suc_at, stores}
use Rattle.ring_laws.specs.Spell.{Spells}
use Rattle.axis_laws.specs.Leads.{swapped}

-- ---- in lists

in_swapped : (x y z : ℕ) (l : List ℕ) → In z (swapped x y l) → (z ≡ y) ⊎ In z l
in_swapped x y z [] k = absurd k
in_swapped x y z (w ∷ l) k =
    decide w x
    (λ e. ⊎_elim (λ q. inl q) (λ i. inr (inr i)) (rw (eq-eqb w x e) at k))
    (λ n. ⊎_elim (λ q. inr (inl q)) (λ i. ⊎_elim (λ q. inl q) (λ j. inr (inr j)) (in_swapped x y z l i)) (rw (ne_eqb w x n) at k))

swapped_new : (x y : ℕ) (l : List ℕ) → In x l → In y (swapped x y l)
swapped_new x y [] k = absurd k
swapped_new x y (w ∷ l) k =
    decide w x
    (λ e. rw (eq-eqb w x e) (inl refl))
    (λ n. rw (ne_eqb w x n) (inr (swapped_new x y l (⊎_elim (λ q. absurd (n (sym q))) (λ i. i) k))))

swapped_old : (x y z : ℕ) (l : List ℕ) → z ≢ x → In z l → In z (swapped x y l)
swapped_old x y z [] n k = absurd k
swapped_old x y z (w ∷ l) n k =
    decide w x
    (λ e. rw (eq-eqb w x e) (⊎_elim (λ q. absurd (n (q ∙ e))) (λ i. inr i) k))
    (λ d. rw (ne_eqb w x d) (⊎_elim (λ q. inl q) (λ i. inr (swapped_old x y z l n i)) k))

-- ---- on chains

-- what the stores do to the two functions: y stands where x stood
pub record Swap (S P S' P' : ℕ → ℕ) (x y : ℕ) : Type 0 where
  pub sp : S (P x) ≡ x
  pub ps : P (S x) ≡ x
  pub s_at : S' (P x) ≡ y
  pub p_at : P' (S x) ≡ y
  pub s_y : S' y ≡ S x
  pub p_y : P' y ≡ P x
  pub s_else : (u : ℕ) → u ≢ x → u ≢ y → u ≢ P x → S' u ≡ S u
  pub p_else : (u : ℕ) → u ≢ x → u ≢ y → u ≢ S x → P' u ≡ P u

module _ (S P S' P' : ℕ → ℕ) (x y : ℕ) (k : Swap S P S' P' x y) where
  -- neither x nor y
  record Off (a : ℕ) : Type 0 where
    pub x_not : a ≢ x
    pub y_not : a ≢ y

  swap_edge : (a b : ℕ) → Edge S P a b → Off a → Off b → Edge S' P' a b
  swap_edge a b e oa ob =
      record {
        next = k.s_else a oa.x_not oa.y_not (λ f. ob.x_not (sym e.next ∙ ap S f ∙ k.sp)) ∙ e.next;
        prev = k.p_else b ob.x_not ob.y_not (λ f. oa.x_not (sym e.prev ∙ ap P f ∙ k.ps)) ∙ e.prev;
      }

  swap_kept : (a : ℕ) (l : List ℕ) (b : ℕ) → Chain S P a l b → Off a → ((z : ℕ) → In z l → Off z) → Off b → Chain S' P' a l b
  swap_kept a [] b c oa f ob = swap_edge a b c oa ob
  swap_kept a (z ∷ l) b c oa f ob = (swap_edge a z c.0 oa (f z (inl refl)), swap_kept z l b c.1 (f z (inl refl)) (λ w i. f w (inr i)) ob)

  swap_on : (a b : ℕ) → a ≡ x → Edge S P a b → Edge S' P' y b
  swap_on a b e f = record { next = cc k.s_y; prev = cc k.p_at }

  swap_to : (a b : ℕ) → b ≡ x → Edge S P a b → Edge S' P' a y
  swap_to a b e f = record { next = cc k.s_at; prev = cc k.p_y }

  swap_rest : (a : ℕ) (l : List ℕ) (b : ℕ) → a ≡ x → Chain S P a l b → ((z : ℕ) → In z l → Off z) → Off b → Chain S' P' y l b
  swap_rest a [] b e c f ob = swap_on a b e c
  swap_rest a (z ∷ l) b e c f ob = (swap_on a z e c.0, swap_kept z l b c.1 (f z (inl refl)) (λ w i. f w (inr i)) ob)

  swap_chain : (a : ℕ) (l : List ℕ) (b : ℕ) → Chain S P a l b → Off a → Off b → Dist l → (In y l → ⊥) → Chain S' P' a (swapped x y l) b
  swap_chain a [] b c oa ob d f = swap_edge a b c oa ob
  swap_chain a (z ∷ l) b c oa ob d f =
      decide z x
      (λ e. rw (eq-eqb z x e) (
        swap_to a z e c.0,
        swap_rest z l b e c.1
            (λ w i. record { x_not = λ q. d.0 (rw (q ∙ sym e) at i); y_not = λ q. f (inr (rw q at i)) }) ob,
      ))
      (λ n.
      let oz : Off z = record { x_not = n; y_not = λ q. f (inl (sym q)) } in
      rw (ne_eqb z x n) (swap_edge a z c.0 oa oz, swap_chain z l b c.1 oz ob d.1 (λ i. f (inr i))))

-- ---- on rings: y, a member of no ring, stands where x stood

module _ (m : ℕ) (is_head : ℕ → Bool) (L : ℕ → List ℕ) (S P : ℕ → ℕ) (r : Rings m is_head L S P) where
  pub swap_rings : (S' P' : ℕ → ℕ) (x y h : ℕ) → Link m is_head x → Link m is_head y → S y ≡ 0 → Head m is_head h → In x (L h) → Swap S P S' P' x y
      → S' x ≡ 0 → P' x ≡ 0 → Rings m is_head (λ g. swapped x y (L g)) S' P'
  swap_rings S' P' x y h lx ly zy a on k sx px =
      record {
        ring = λ g b.
            let o : Off S P S' P' x y k g = record { x_not = apart m is_head g x b lx; y_not = apart m is_head g y b ly } in
            swap_chain S P S' P' x y k g (L g) g (r.ring g b) o o (rings_dist m is_head L S P r g b).1 (free m is_head L S P r y zy g b);
        only = λ g z b i. ⊎_elim (λ e. rw e ly) (λ j. r.only g z b j) (in_swapped x y z (L g) i);
        whole = λ z lz.
            decide z x
            (λ e. inr (ap S' e ∙ sx, ap P' e ∙ px))
            (λ n. decide z y
            (λ e. inl (h, a, rw e (swapped_new x y (L h) on)))
            (λ d. ⊎_elim
            (λ w. inl (w.0, w.1, swapped_old x y z (L w.0) n w.2))
            (λ o. inr (s_kept z n d o.0 ∙ o.0, p_kept z n d o.1 ∙ o.1))
            (r.whole z lz)));
        zero_s = s_kept 0 (omega (arith, lx)) (omega (arith, ly)) r.zero_s ∙ r.zero_s;
        zero_p = p_kept 0 (omega (arith, lx)) (omega (arith, ly)) r.zero_p ∙ r.zero_p;
      }
    where
      s_kept : (z : ℕ) → z ≢ x → z ≢ y → S z ≡ 0 → S' z ≡ S z
      s_kept z n d o = k.s_else z n d (λ e. let w : x ≡ 0 = sym k.sp ∙ ap S (sym e) ∙ o in omega (arith, lx))

      p_kept : (z : ℕ) → z ≢ x → z ≢ y → P z ≡ 0 → P' z ≡ P z
      p_kept z n d o = k.p_else z n d (λ e. let w : x ≡ 0 = sym k.ps ∙ ap P (sym e) ∙ o in omega (arith, lx))

-- ---- by stores: s and p are x's neighbours

abbrev pub handed : ℕ → ℕ → ℕ → ℕ → ℕ → List ℕ → List ℕ
handed m x y s p t = set (set (set (set (set (set t (m + s) y) p y) y s) (m + y) p) x 0) (m + x) 0

-- y takes x's place on its ring, and x is on none
unfoldable pub handed_over : ℕ → ℕ → ℕ → List ℕ → List ℕ
handed_over m x y t = handed m x y (get_or t x 0) (get_or t (m + x) 0) t

module _ (m : ℕ) (t : List ℕ) (two : length t ≡ 2 * m) where
  swap_is : (x y s p : ℕ) → x < m → y < m → s < m → p < m → sucs m t x ≡ s → pres m t x ≡ p
      → sucs m t p ≡ x → pres m t s ≡ x → x ≢ y → s ≢ x → s ≢ y → p ≢ x → p ≢ y
      → Swap (sucs m t) (pres m t) (sucs m (handed m x y s p t)) (pres m (handed m x y s p t)) x y
  swap_is x y s p xm ym sm pm es ep sp ps xy sx sy px py =
      let yx : y ≢ x = λ e. xy (sym e) in
      record {
        sp = rw ep sp;
        ps = rw es ps;
        s_at = rw ep (simp (stores, two));
        p_at = rw es (simp (stores, two));
        s_y = rw es (simp (stores, two));
        p_y = rw ep (simp (stores, two));
        s_else = λ u n₁ n₂ n₃. let n₄ : u ≢ p = rw ep at n₃ in simp stores;
        p_else = λ u n₁ n₂ n₃. let n₄ : u ≢ s = rw es at n₃ in simp stores;
      }

  swap_x : (x y s p : ℕ) → x < m → y < m → s < m → p < m → (sucs m (handed m x y s p t) x ≡ 0) × (pres m (handed m x y s p t) x ≡ 0)
  swap_x x y s p xm ym sm pm = (simp (stores, two), simp (stores, two))

module _ (m : ℕ) (is_head : ℕ → Bool) (L : ℕ → List ℕ) (t : List ℕ) (sp : Spells m is_head L t) where
  abbrev S : ℕ → ℕ
  S = sucs m t

  abbrev P : ℕ → ℕ
  P = pres m t

  pub spells_handed : (x y h : ℕ) → Link m is_head x → Link m is_head y → sucs m t y ≡ 0 → Head m is_head h → In x (L h)
      → Spells m is_head (λ g. swapped x y (L g)) (handed_over m x y t)
  unfolding handed_over
  spells_handed x y h lx ly zy a i =
      let r : Rings m is_head L S P = sp.rings in
      let c : Chain S P h (L h) h = r.ring h a in
      let s = get_or t x 0 in
      let p = get_or t (m + x) 0 in
      let es : S x ≡ s = suc_at m t x lx.within in
      let sm : s < m = rw es at (next_place_lem m is_head L S P r h x a (inr i)).1 in
      let pm : p < m = (prev_place_lem m is_head L S P r h x a (inl i)).1 in
      let sp_x : S p ≡ x = back S P h (L h) h x c (inl i) in
      let ps_x : P s ≡ x = rw es at (forth S P h (L h) h x c (inr i)) in
      let sx : s ≢ x = rw es at (no_self S P h (L h) h x c (λ e. apart m is_head h x a lx (sym e)) i) in
      let px : p ≢ x = λ e. sx (sym es ∙ ap S (sym e) ∙ sp_x) in
      let busy : 0 < S x = (next_place_lem m is_head L S P r h x a (inr i)).0 in
      let busy_s : 0 < S (S x) = (next_place_lem m is_head L S P r h (S x) a (next_on_lem m is_head L S P r h x a (inr i))).0 in
      let xy : x ≢ y = λ e. omega (arith, ap S e) in
      let sy : s ≢ y = λ e. omega (arith, ap S (es ∙ e)) in
      let py : p ≢ y = λ e. omega (arith, sym (ap S e) ∙ sp_x, lx.some) in
      let z = swap_x m t sp.two x y s p lx.within ly.within sm pm in
      record {
        two = simp length-set sp.two;
        rings =
            swap_rings m is_head L S P r (sucs m (handed m x y s p t)) (pres m (handed m x y s p t)) x y h lx ly zy a i
            (swap_is m t sp.two x y s p lx.within ly.within sm pm es refl sp_x ps_x xy sx sy px py) z.0 z.1;
      }
