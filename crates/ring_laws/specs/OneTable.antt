-- Lists have one table: two tables that spell the same lists are equal, word for word.
use Rattle.std.specs.Prelude.{ℕ, ◌+◌, ◌-◌, ◌<◌, ◌≡◌, refl, ◌⊎◌, Bool, List, [], ◌∷◌}
use Rattle.std.proofs.Common.{sym, ap, ◌∙◌, inl, inr, ⊎_elim, arith, ext_get_or}
use Rattle.ring_laws.specs.Lists.{In, below}
use Rattle.ring_laws.specs.Chain.{Chain}
use Rattle.ring_laws.specs.Rings.{Head, Link, Rings, kind}
use Rattle.ring_laws.specs.Stores.{sucs, pres, suc_at}
use Rattle.ring_laws.specs.Spell.{Spells}

module _ (S P S' P' : ℕ → ℕ) where
  -- a chain's list tells what follows each of its places, and what comes before
  same_next : (a : ℕ) (l : List ℕ) (b y : ℕ) → Chain S P a l b → Chain S' P' a l b → In y (a ∷ l) → S y ≡ S' y
  same_next a [] b y c c' (inl e) = ap S e ∙ c.next ∙ sym c'.next ∙ ap S' (sym e)
  same_next a [] b y c c' (inr k) = absurd k
  same_next a (z ∷ l) b y c c' (inl e) = ap S e ∙ c.0.next ∙ sym c'.0.next ∙ ap S' (sym e)
  same_next a (z ∷ l) b y c c' (inr k) = same_next z l b y c.1 c'.1 k

  same_prev : (a : ℕ) (l : List ℕ) (b y : ℕ) → Chain S P a l b → Chain S' P' a l b → In y l ⊎ (y ≡ b) → P y ≡ P' y
  same_prev a [] b y c c' (inl k) = absurd k
  same_prev a [] b y c c' (inr e) = ap P e ∙ c.prev ∙ sym c'.prev ∙ ap P' (sym e)
  same_prev a (z ∷ l) b y c c' (inl (inl e)) = ap P e ∙ c.0.prev ∙ sym c'.0.prev ∙ ap P' (sym e)
  same_prev a (z ∷ l) b y c c' (inl (inr k)) = same_prev z l b y c.1 c'.1 (inl k)
  same_prev a (z ∷ l) b y c c' (inr e) = same_prev z l b y c.1 c'.1 (inr e)

  -- so do rings, for every place
  module _ (m : ℕ) (is_head : ℕ → Bool) (L : ℕ → List ℕ) (r : Rings m is_head L S P) (r' : Rings m is_head L S' P') where
    abbrev Same : ℕ → Type 0
    Same y = (S y ≡ S' y) × (P y ≡ P' y)

    on_ring : (h y : ℕ) → Head m is_head h → In y (h ∷ L h) → Same y
    on_ring h y a k = (
      same_next h (L h) h y (r.ring h a) (r'.ring h a) k,
      same_prev h (L h) h y (r.ring h a) (r'.ring h a) (⊎_elim (λ e. inr e) (λ i. inl i) k),
    )

    -- a link that one table has idle is on no ring, so the other has it idle too
    off_ring : (y : ℕ) → Link m is_head y → (S y ≡ 0) × (P y ≡ 0) → Same y
    off_ring y x z =
        ⊎_elim (λ w. on_ring w.0 y w.1 (inr w.2)) (λ z'. (z.0 ∙ sym z'.0, z.1 ∙ sym z'.1)) (r'.whole y x)

    pub same_rings : (y : ℕ) → y < m → Same y
    same_rings y l =
        ⊎_elim
        (λ e. (ap S e ∙ r.zero_s ∙ sym (ap S' e ∙ r'.zero_s), ap P e ∙ r.zero_p ∙ sym (ap P' e ∙ r'.zero_p)))
        (⊎_elim
        (λ a. on_ring y y a (inl refl))
        (λ x. ⊎_elim (λ w. on_ring w.0 y w.1 (inr w.2)) (off_ring y x) (r.whole y x)))
        (kind m is_head y l)

pub one_table : (m : ℕ) (is_head : ℕ → Bool) (L : ℕ → List ℕ) (t u : List ℕ) → Spells m is_head L t → Spells m is_head L u → t ≡ u
one_table m is_head L t u s w =
    ext_get_or 0 t u (s.two ∙ sym w.two)
    (λ i l. below i m
    (λ b. sym (suc_at m t i b) ∙ (at i b).0 ∙ suc_at m u i b)
    (λ b. let q : m + (i - m) ≡ i = omega arith in rw q at (at (i - m) (omega (arith, s.two))).1))
  where
    at : (i : ℕ) → i < m → (sucs m t i ≡ sucs m u i) × (pres m t i ≡ pres m u i)
    at i b = same_rings (sucs m t) (pres m t) (sucs m u) (pres m u) m is_head L s.rings w.rings i b
