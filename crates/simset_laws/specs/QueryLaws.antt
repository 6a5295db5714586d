-- The queries tell what the lists say.
use Rattle.std.specs.Prelude.{ℕ, ◌+◌, ◌-◌, ◌<◌, ◌≤◌, ◌≡◌, refl, ◌≢◌, ◌⊎◌, List, [], ◌∷◌, ◌++◌, length, get_or}
use Rattle.std.proofs.Common.{sym, ap, ◌∙◌, subst, inl, inr, ⊎_elim, arith, eq-eqb, ne_eqb, le-leb, leb-true, leb-false}
use Rattle.std.proofs.lemmas.Bool.{lt-leb}
use Rattle.ring_laws.specs.Lists.{In, decide}
use Rattle.ring_laws.specs.Distinct.{Dist}
use Rattle.ring_laws.specs.Chain.{Chain, prev_in_lem}
use Rattle.ring_laws.specs.Rings.{Head, Rings, kind, rings_dist, rings_apart, not_own, apart}
use Rattle.ring_laws.specs.Stores.{sucs, pres, suc_at}
use Rattle.ring_laws.proofs.Spell.{spells_counted}
use Rattle.model_laws.specs.Tables.{set_head, members_of, SpellsSets}
use Rattle.simset_laws.specs.Sets.{next_in, prev_in, where_in, suc_sets, pred_sets, no_links}
use Rattle.simset_laws.specs.Procedures.{link_or, suc_of, pred_of, empty_of, cardinal_of}
use Rattle.simset_laws.specs.EachSet.{where_none, where_at}
use Rattle.simset_laws.specs.Laws.{set_head_lem, stands, nowhere}

pub or_link : (H v : ℕ) → H < v → link_or H v ≡ v
unfolding link_or
or_link H v l = rw (lt-leb v H l)

pub or_none_lem : (H v : ℕ) → v ≤ H → link_or H v ≡ 0
unfolding link_or
or_none_lem H v l = rw (le-leb v H l)

-- ---- along one ring: b is a head, the members are links

module _ (S P : ℕ → ℕ) (H b : ℕ) (hb : b ≤ H) where
  chain_next : (a : ℕ) (l : List ℕ) (x : ℕ) → Chain S P a l b → Dist (a ∷ l) → ((y : ℕ) → In y l → H < y) → In x (a ∷ l)
      → link_or H (S x) ≡ next_in x (a ∷ l)
  chain_next a [] x c d f (inl e) = ap (λ (v : ℕ). link_or H v) (ap S e ∙ c.next) ∙ or_none_lem H b hb
  chain_next a [] x c d f (inr k) = absurd k
  chain_next a (z ∷ l) x c d f (inl e) =
      rw (eq-eqb a x (sym e)) (ap (λ (v : ℕ). link_or H v) (ap S e ∙ c.0.next) ∙ or_link H z (f z (inl refl)))
  chain_next a (z ∷ l) x c d f (inr k) =
      rw (ne_eqb a x (λ e. d.0 (subst (λ (v : ℕ). In v (z ∷ l)) (sym e) k))) (chain_next z l x c.1 d.1 (λ y i. f y (inr i)) k)

-- the place before x, from the start of a chain on
chain_prev : (S P : ℕ → ℕ) (a : ℕ) (l : List ℕ) (b x : ℕ) → Chain S P a l b → In x l ⊎ (x ≡ b) → prev_in x (a ∷ (l ++ (b ∷ []))) ≡ P x
chain_prev S P a [] b x c (inl k) = absurd k
chain_prev S P a [] b x c (inr e) = rw (eq-eqb b x (sym e)) (sym c.prev ∙ ap P (sym e))
chain_prev S P a (z ∷ l) b x c k =
    decide z x
    (λ e. rw (eq-eqb z x e) (sym c.0.prev ∙ ap P e))
    (λ n. rw (ne_eqb z x n)
    (chain_prev S P z l b x c.1 (⊎_elim (λ i. ⊎_elim (λ e. absurd (n (sym e))) (λ j. inl j) i) (λ e. inr e) k)))

-- x is before none of a list that does not go on to it
prev_none : (x y : ℕ) (l : List ℕ) → (In x l → ⊥) → prev_in x (y ∷ l) ≡ 0
prev_none x y [] f = refl
prev_none x y (z ∷ l) f = rw (ne_eqb z x (λ e. f (inl (sym e)))) (prev_none x z l (λ i. f (inr i)))

in_end : (x : ℕ) (l : List ℕ) (b : ℕ) → In x (l ++ (b ∷ [])) → In x l ⊎ (x ≡ b)
in_end x [] b (inl e) = inr e
in_end x [] b (inr k) = absurd k
in_end x (z ∷ l) b (inl e) = inl (inl e)
in_end x (z ∷ l) b (inr k) = ⊎_elim (λ i. inl (inr i)) (λ e. inr e) (in_end x l b k)

module _ (S P : ℕ → ℕ) (H h : ℕ) (hh : h ≤ H) where
  ring_prev : (l : List ℕ) (x : ℕ) → Chain S P h l h → Dist (h ∷ l) → ((y : ℕ) → In y l → H < y) → In x l ⊎ (x ≡ h)
      → link_or H (P x) ≡ prev_in x (l ++ (h ∷ []))
  ring_prev [] x c d f (inl k) = absurd k
  ring_prev [] x c d f (inr e) = ap (λ (v : ℕ). link_or H v) (ap P e ∙ c.prev) ∙ or_none_lem H h hh
  ring_prev (z ∷ l) x c d f k =
      decide z x
      (λ e.
      ap (λ (v : ℕ). link_or H v) (ap P (sym e) ∙ c.0.prev)
      ∙ or_none_lem H h hh
      ∙ sym (prev_none x z (l ++ (h ∷ []))
      (λ i. ⊎_elim (λ j. d.1.0 (rw (← e) at j)) (λ j. d.0 (inl (sym j ∙ sym e))) (in_end x l h i))))
      (λ n.
      let rest : In x l ⊎ (x ≡ h) = ⊎_elim (λ i. ⊎_elim (λ e. absurd (n (sym e))) (λ j. inl j) i) (λ e. inr e) k in
      let on : In (P x) (z ∷ l) = prev_in_lem S P z l h x c.1 rest in
      or_link H (P x) (f (P x) on) ∙ sym (chain_prev S P z l h x c.1 rest))

-- ---- of the sets

module _ (m H : ℕ) (sets : List (List ℕ)) (t : List ℕ) (s : SpellsSets m H sets t) (b : H < m) where
  abbrev S : ℕ → ℕ
  S = sucs m t

  abbrev P : ℕ → ℕ
  P = pres m t

  r : Rings m (set_head H) (members_of sets) (sucs m t) (pres m t)
  r = s.spelled.rings

  above : (h y : ℕ) → Head m (set_head H) h → In y (members_of sets h) → H < y
  above h y a i = leb-false y H (r.only h y a i).isn't

  -- x is on the ring of h alone, so the search by lists finds that list
  pub found : (f : ℕ → List ℕ → ℕ) (x h : ℕ) → Head m (set_head H) h → In x (h ∷ members_of sets h)
      → where_in f x 1 sets ≡ f h (members_of sets h)
  found f x h a on =
      let e : 1 + (h - 1) ≡ h = omega (arith, a.some) in
      let hl : h ≤ H = leb-true h H a.is in
      where_at f x 1 sets (h - 1) (omega (arith, s.all, a.some)) (subst (λ (j : ℕ). In x (j ∷ members_of sets h)) (sym e) on)
      (λ j l i.
      let q : 1 + j - 1 ≡ j = omega arith in
      let g : Head m (set_head H) (1 + j) = set_head_lem m H (1 + j) (omega arith) (omega arith) b in
      one (1 + j) h g a (subst (λ (k : ℕ). In x ((1 + j) ∷ get_or sets k [])) (sym q) i) on (λ z. omega arith))
      ∙ ap (λ (j : ℕ). f j (members_of sets h)) e
    where
      one : (g k : ℕ) → Head m (set_head H) g → Head m (set_head H) k → In x (g ∷ members_of sets g) → In x (k ∷ members_of sets k) → g ≢ k → ⊥
      one g k p q (inl e) (inl f) n = n (sym e ∙ f)
      one g k p q (inl e) (inr j) n = apart m (set_head H) g x p (r.only k x q j) (sym e)
      one g k p q (inr i) (inl f) n = apart m (set_head H) k x q (r.only g x p i) (sym f)
      one g k p q (inr i) (inr j) n = n (rings_apart m (set_head H) (members_of sets) S P r g k x p q i j)

  pub lost : (f : ℕ → List ℕ → ℕ) (x : ℕ) → S x ≡ 0 → where_in f x 1 sets ≡ 0
  lost f x z =
      where_none f x 1 sets
      (λ j l i.
      let q : 1 + j - 1 ≡ j = omega arith in
      nowhere m H sets t s x (1 + j) z (set_head_lem m H (1 + j) (omega arith) (omega (arith, s.all)) b)
      (subst (λ (k : ℕ). In x ((1 + j) ∷ get_or sets k [])) (sym q) i))

  -- suc and pred of a linkage; first and last are those of a head
  pub suc_says : (x : ℕ) → x < m → suc_of H x t ≡ suc_sets x sets
  suc_says x l =
      decide (S x) 0
      (λ z. ap (λ (v : ℕ). link_or H v) (sym (suc_at m t x l) ∙ z) ∙ or_none_lem H 0 (omega arith) ∙ sym (lost (λ h k. next_in x (h ∷ k)) x z))
      (λ n.
      let w = stands m H sets t s x l n in
      ap (λ (v : ℕ). link_or H v) (sym (suc_at m t x l))
      ∙ chain_next S P H w.0 (leb-true w.0 H w.1.is) w.0 (members_of sets w.0) x (r.ring w.0 w.1)
      (rings_dist m (set_head H) (members_of sets) S P r w.0 w.1) (λ y i. above w.0 y w.1 i) w.2
      ∙ sym (found (λ h k. next_in x (h ∷ k)) x w.0 w.1 w.2))

  pred_zero : (x : ℕ) → x < m → S x ≡ 0 → P x ≡ 0
  pred_zero x l z =
      ⊎_elim (λ e. ap P e ∙ r.zero_p)
      (⊎_elim
      (λ a. absurd (nowhere m H sets t s x x z a (inl refl)))
      (λ k. ⊎_elim (λ w. absurd (nowhere m H sets t s x w.0 z w.1 (inr w.2))) (λ e. e.1) (r.whole x k)))
      (kind m (set_head H) x l)

  pub pred_says : (x : ℕ) → x < m → pred_of H m x t ≡ pred_sets x sets
  pred_says x l =
      decide (S x) 0
      (λ z. ap (λ (v : ℕ). link_or H v) (pred_zero x l z) ∙ or_none_lem H 0 (omega arith) ∙ sym (lost (λ h k. prev_in x (k ++ (h ∷ []))) x z))
      (λ n.
      let w = stands m H sets t s x l n in
      ring_prev S P H w.0 (leb-true w.0 H w.1.is) (members_of sets w.0) x (r.ring w.0 w.1)
      (rings_dist m (set_head H) (members_of sets) S P r w.0 w.1) (λ y i. above w.0 y w.1 i)
      (⊎_elim (λ e. inr e) (λ i. inl i) w.2)
      ∙ sym (found (λ h k. prev_in x (k ++ (h ∷ []))) x w.0 w.1 w.2))

  pub empty_says : (h : ℕ) → Head m (set_head H) h → empty_of h t ≡ no_links (members_of sets h)
  empty_says h a = go (members_of sets h) (r.ring h a) (not_own m (set_head H) (members_of sets) S P r h a)
    where
      go : (l : List ℕ) → Chain S P h l h → (In h l → ⊥) → empty_of h t ≡ no_links l
      go [] c f = eq-eqb (get_or t h 0) h (sym (suc_at m t h a.within) ∙ c.next)
      go (z ∷ l) c f = ne_eqb (get_or t h 0) h (λ e. f (inl (sym e ∙ sym (suc_at m t h a.within) ∙ c.0.next)))

  pub cardinal_says : (h : ℕ) → Head m (set_head H) h → cardinal_of m h t ≡ length (members_of sets h)
  cardinal_says h a = spells_counted m (set_head H) (members_of sets) t s.spelled h a
