-- The tests of one place of the axis: their clauses, and what they mean.
use Rattle.std.specs.Prelude.{ℕ, ◌+◌, ◌*◌, ◌≤◌, ◌≡◌, ◌≢◌, List, [], ◌∷◌, length, get_or}
use Rattle.std.proofs.Math.Path.{refl}
use Rattle.std.proofs.Common.{sym, ap, ◌∙◌, inl, inr, ⊎_elim, arith}
use Rattle.ring_laws.specs.Lists.{In}
use Rattle.ring_laws.specs.Chain.{Chain}
use Rattle.axis_laws.specs.Reading.{NeverFall}

-- the lengths of the axis's three tables
pub record Three (p : ℕ) (axis times marks : List ℕ) : Type 0 where
  pub axis_is : length axis ≡ 2 * (p + 2)
  pub times_is : length times ≡ p + 1
  pub marks_is : length marks ≡ p + 1

-- ---- times along a chain

module _ (S P : ℕ → ℕ) (h : ℕ) (times : List ℕ) where
  first_least : (a : ℕ) (l : List ℕ) → Chain S P a l h → (In h l → ⊥)
      → ((y : ℕ) → In y (a ∷ l) → S y ≢ h → get_or times y 0 ≤ get_or times (S y) 0)
      → (y : ℕ) → In y l → get_or times a 0 ≤ get_or times y 0
  first_least a [] c out f y k = absurd k
  first_least a (z ∷ l) c out f y k =
      let e : S a ≡ z = c.0.next in
      let le : get_or times a 0 ≤ get_or times z 0 = rw e at (f a (inl refl) (λ q. out (inl (sym q ∙ e)))) in
      ⊎_elim
      (λ q. omega (arith, ap (λ (j : ℕ). get_or times j 0) q))
      (λ i. omega (arith, first_least z l c.1 (λ w. out (inr w)) (λ w j. f w (inr j)) y i))
      k

  -- times that never fall from place to place are in order
  pub never_fall : (a : ℕ) (l : List ℕ) → Chain S P a l h → (In h l → ⊥)
      → ((y : ℕ) → In y l → S y ≢ h → get_or times y 0 ≤ get_or times (S y) 0)
      → NeverFall times l
  never_fall a [] c out f = tt
  never_fall a (z ∷ l) c out f =
      (first_least z l c.1 (λ w. out (inr w)) f, never_fall z l c.1 (λ w. out (inr w)) (λ y i. f y (inr i)))

  pub order_next : (a : ℕ) (l : List ℕ) → Chain S P a l h → NeverFall times l → (y : ℕ) → In y l → S y ≢ h
      → get_or times y 0 ≤ get_or times (S y) 0
  order_next a [] c o y k n = absurd k
  order_next a (z ∷ []) c o y (inl e) n = absurd (n (ap S e ∙ c.1.next))
  order_next a (z ∷ x ∷ l) c o y (inl e) n =
      let q : S y ≡ x = ap S e ∙ c.1.0.next in
      rw (q, e) (o.0 x (inl refl))
  order_next a (z ∷ l) c o y (inr k) n = order_next z l c.1 o.1 y k n
