-- What a table spells: for each head the list of its ring. Unlinking and linking do to the lists what their names say.
use Rattle.std.specs.Prelude.{ℕ, ◌+◌, ◌-◌, ◌<◌, ◌≤◌, ◌≡◌, ◌≢◌, ◌⊎◌, Bool, List, ◌∷◌, length}
use Rattle.std.proofs.Math.Path.{refl, ap}
use Rattle.std.proofs.Common.{sym, ◌∙◌, arith, eq-eqb, ne_eqb}
use Rattle.std.proofs.Math.Logic.{inl, inr, ⊎_elim}
use Rattle.std.proofs.Math.ListN.{get_or, length-set, get_or-eq_default}
use Rattle.ring_laws.specs.Lists.{In, without, behind, ahead, decide, below}
use Rattle.ring_laws.specs.Distinct.{Dist}
use Rattle.ring_laws.specs.Chain.{Chain, forth, back, prev_in_lem, no_self, behind_ahead}
use Rattle.ring_laws.specs.Rings.{Head, Link, Rings, apart, kind, on_place, next_on_lem, next_place_lem, prev_place_lem, not_own}
use Rattle.ring_laws.specs.Rings.{rings_dist, rings_apart, rings_few, idle_rings, cut_rings, put_rings}
use Rattle.ring_laws.specs.Table.{Sound, cut, join, join_before, unlinked, linked_behind, linked_before, counted}
use Rattle.ring_laws.specs.Stores.{sucs, pres, suc_at, cut_is, cut_x, join_is, before_is}
use Rattle.ring_laws.specs.Spell.{Spells, spells_cong, chain_steps}

module _ (m : ℕ) (is_head : ℕ → Bool) (L : ℕ → List ℕ) (t : List ℕ) (sp : Spells m is_head L t) where
  abbrev S : ℕ → ℕ
  S = sucs m t

  abbrev P : ℕ → ℕ
  P = pres m t

  r : Rings m is_head L (sucs m t) (pres m t)
  r = sp.rings

  -- ---- members are distinct, rings are disjoint, a walk counts

  pub spells_dist : (h : ℕ) → Head m is_head h → Dist (h ∷ L h)
  spells_dist h a = rings_dist m is_head L S P r h a

  pub spells_apart : (g h x : ℕ) → Head m is_head g → Head m is_head h → In x (L g) → In x (L h) → g ≡ h
  spells_apart g h x a b i k = rings_apart m is_head L S P r g h x a b i k

  pub spells_few : (h : ℕ) → Head m is_head h → length (L h) ≤ m
  spells_few h a = rings_few m is_head L S P r h a

  pub spells_counted : (h : ℕ) → Head m is_head h → counted m h t ≡ length (L h)
  spells_counted h a =
      chain_steps m t h h (L h) m (r.ring h a) (λ y i. (on_place m is_head L S P r h y a i).1) (not_own m is_head L S P r h a)
      (spells_few h a)

  -- ---- unlinking takes x out of every list

  cut_spells : (x s p h : ℕ) → Link m is_head x → Head m is_head h → In x (L h) → sucs m t x ≡ s → pres m t x ≡ p
      → Spells m is_head (λ g. without x (L g)) (cut m x s p t)
  cut_spells x s p h lx a k es ep =
      let c : Chain S P h (L h) h = r.ring h a in
      let sm : s < m = rw es at (next_place_lem m is_head L S P r h x a (inr k)).1 in
      let pm : p < m = rw ep at (prev_place_lem m is_head L S P r h x a (inl k)).1 in
      let sp_x : S p ≡ x = rw ep at (back S P h (L h) h x c (inl k)) in
      let ps_x : P s ≡ x = rw es at (forth S P h (L h) h x c (inr k)) in
      let sx : s ≢ x = rw es at (no_self S P h (L h) h x c (λ e. apart m is_head h x a lx (sym e)) k) in
      let px : p ≢ x = λ e. sx (sym es ∙ ap S (sym e) ∙ sp_x) in
      let z = cut_x m t sp.two x s p lx.within sm pm in
      record {
        two = simp length-set sp.two;
        rings =
            cut_rings m is_head L S P r (sucs m (cut m x s p t)) (pres m (cut m x s p t)) x lx
            (cut_is m t sp.two x s p lx.within sm pm es ep sp_x ps_x sx px) z.0 z.1;
      }

  pub spells_unlinked : (x : ℕ) → Link m is_head x → Spells m is_head (λ h. without x (L h)) (unlinked m x t)
  unfolding unlinked
  spells_unlinked x lx =
      decide (get_or t x 0) 0
      (λ e. rw (eq-eqb _ _ e) (record { two = sp.two; rings = idle_rings m is_head L S P r x (suc_at m t x lx.within ∙ e) }))
      (λ n. rw (ne_eqb _ _ n) (⊎_elim
      (λ w. cut_spells x (get_or t x 0) (get_or t (m + x) 0) w.0 lx w.1 w.2 (suc_at m t x lx.within) refl)
      (λ z. absurd (n (sym (suc_at m t x lx.within) ∙ z.0)))
      (r.whole x lx)))

  -- ---- linking puts x, a member of no ring, beside y

  pub spells_behind : (x y h : ℕ) → Link m is_head x → sucs m t x ≡ 0 → Head m is_head h → In y (h ∷ L h)
      → Spells m is_head (λ g. behind y x g (L g)) (linked_behind m x y t)
  unfolding linked_behind
  spells_behind x y h lx zx a on =
      let c : Chain S P h (L h) h = r.ring h a in
      let ym : y < m = (on_place m is_head L S P r h y a on).1 in
      let s = get_or t y 0 in
      let es : S y ≡ s = suc_at m t y ym in
      let s_ok : (0 < S y) × (S y < m) = next_place_lem m is_head L S P r h y a on in
      let sm : s < m = rw es at s_ok.1 in
      let ps : P (S y) ≡ y = forth S P h (L h) h y c on in
      let xy : x ≢ y = λ e. omega (arith, s_ok, ap S e) in
      let two_on : 0 < S (S y) = (next_place_lem m is_head L S P r h (S y) a (next_on_lem m is_head L S P r h y a on)).0 in
      let sx : s ≢ x = λ e. omega (arith, ap S (es ∙ e)) in
      record {
        two = simp length-set sp.two;
        rings =
            put_rings m is_head L S P r (sucs m (join m x y s t)) (pres m (join m x y s t)) x y h lx zx a on
            (join_is m t sp.two x y s lx.within ym sm es (rw es at ps) xy sx);
      }

  pub spells_before : (x y h : ℕ) → Link m is_head x → sucs m t x ≡ 0 → Head m is_head h → In y (L h) ⊎ (y ≡ h)
      → Spells m is_head (λ g. ahead y x (L g) g) (linked_before m x y t)
  unfolding linked_before
  spells_before x y h lx zx a on =
      let c : Chain S P h (L h) h = r.ring h a in
      let e : S (P y) ≡ y = back S P h (L h) h y c on in
      let y_on : In y (h ∷ L h) = ⊎_elim (λ i. inr i) (λ f. inl f) on in
      let p_on : In (P y) (h ∷ L h) = prev_in_lem S P h (L h) h y c on in
      let ym : y < m = (on_place m is_head L S P r h y a y_on).1 in
      let pm : P y < m = (on_place m is_head L S P r h (P y) a p_on).1 in
      let xy : x ≢ y = λ f. omega (arith, next_place_lem m is_head L S P r h y a y_on, ap S f) in
      let xp : x ≢ P y = λ f. omega (arith, next_place_lem m is_head L S P r h (P y) a p_on, ap S f) in
      spells_cong m is_head (λ g. behind (P y) x g (L g)) (λ g. ahead y x (L g) g) (join_before m x y (P y) t)
      (λ g b. behind_ahead S P y x e g (L g) g (r.ring g b))
      (record {
        two = simp length-set sp.two;
        rings =
            put_rings m is_head L S P r (sucs m (join_before m x y (P y) t)) (pres m (join_before m x y (P y) t)) x (P y) h lx zx a p_on
            (before_is m t sp.two x y (P y) lx.within ym pm e refl xy xp);
      })

  -- ---- every word names a place, so the code is safe on it

  s_in : (i : ℕ) → i < m → S i < m
  s_in i l =
      ⊎_elim (λ e. omega (arith, ap S e, r.zero_s))
      (⊎_elim
      (λ a. (next_place_lem m is_head L S P r i i a (inl refl)).1)
      (λ x. ⊎_elim (λ w. (next_place_lem m is_head L S P r w.0 i w.1 (inr w.2)).1) (λ z. omega (arith, z)) (r.whole i x)))
      (kind m is_head i l)

  p_in : (i : ℕ) → i < m → P i < m
  p_in i l =
      ⊎_elim (λ e. omega (arith, ap P e, r.zero_p))
      (⊎_elim
      (λ a. (prev_place_lem m is_head L S P r i i a (inr refl)).1)
      (λ x. ⊎_elim (λ w. (prev_place_lem m is_head L S P r w.0 i w.1 (inl w.2)).1) (λ z. omega (arith, z)) (r.whole i x)))
      (kind m is_head i l)

  pub spells_sound : 0 < m → Sound m t
  spells_sound pos =
      record {
        two = sp.two;
        inside = λ i.
            below i m
            (λ l. rw (suc_at m t i l) at (s_in i l))
            (λ g. below (i - m) m
            (λ l. let e : m + (i - m) ≡ i = omega arith in rw e at (p_in (i - m) l))
            (λ o. omega (arith, get_or-eq_default t 0 {n = i} (omega (arith, sp.two)))));
      }
