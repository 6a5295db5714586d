-- What follows from a chain alone: its members are distinct, its list is the only one, and two chains through a place have one end.
use Rattle.std.specs.Prelude.{ℕ, ◌<◌, ◌≡◌, refl, List, [], ◌∷◌, length}
use Rattle.std.proofs.Common.{sym, ap, ap₂, ◌∙◌, subst, inl, inr, arith}
use Rattle.ring_laws.specs.Lists.{In}
use Rattle.ring_laws.specs.Distinct.{Dist}
use Rattle.ring_laws.specs.Chain.{Chain}

module _ (S P : ℕ → ℕ) where
  -- two chains from a to b are one
  pub same_chain : (a : ℕ) (l l' : List ℕ) (b : ℕ) → Chain S P a l b → Chain S P a l' b → (In b l → ⊥) → (In b l' → ⊥) → l ≡ l'
  same_chain a [] [] b c c' f f' = refl
  same_chain a [] (z ∷ l') b c c' f f' = absurd (f' (inl (sym c.next ∙ c'.0.next)))
  same_chain a (z ∷ l) [] b c c' f f' = absurd (f (inl (sym c'.next ∙ c.0.next)))
  same_chain a (z ∷ l) (z' ∷ l') b c c' f f' =
      let e : z' ≡ z = cc in
      ap₂ (λ (x : ℕ) (r : List ℕ). x ∷ r) (sym e)
      (same_chain z l l' b c.1 (subst (λ (x : ℕ). Chain S P x l' b) e c'.1) (λ i. f (inr i)) (λ i. f' (inr i)))

  -- what follows a member
  pub suffix : (a : ℕ) (l : List ℕ) (b y : ℕ) → Chain S P a l b → In y l
      → (l' : List ℕ) × Chain S P y l' b × (length l' < length l) × ((w : ℕ) → In w l' → In w l)
  suffix a [] b y c k = absurd k
  suffix a (z ∷ l) b y c (inl e) = (l, subst (λ (x : ℕ). Chain S P x l b) (sym e) c.1, omega arith, λ w i. inr i)
  suffix a (z ∷ l) b y c (inr k) =
      let r = suffix z l b y c.1 k in
      (r.0, r.1, omega (arith, r.2), λ w i. inr (r.3 w i))

  -- two chains from a come to one end, if neither passes the other's
  pub same_end : (a : ℕ) (l l' : List ℕ) (b b' : ℕ) → Chain S P a l b → Chain S P a l' b' → (In b' l → ⊥) → (In b l' → ⊥) → b ≡ b'
  same_end a [] [] b b' c c' f f' = cc
  same_end a [] (z ∷ l') b b' c c' f f' = absurd (f' (inl (sym c.next ∙ c'.0.next)))
  same_end a (z ∷ l) [] b b' c c' f f' = absurd (f (inl (sym c'.next ∙ c.0.next)))
  same_end a (z ∷ l) (z' ∷ l') b b' c c' f f' =
      let e : z' ≡ z = cc in
      same_end z l l' b b' c.1 (subst (λ (x : ℕ). Chain S P x l' b') e c'.1) (λ i. f (inr i)) (λ i. f' (inr i))

  pub dist_chain : (a : ℕ) (l : List ℕ) (b : ℕ) → Chain S P a l b → (In b l → ⊥) → Dist l
  dist_chain a [] b c f = tt
  dist_chain a (z ∷ l) b c f = (
    λ k.
        let r = suffix z l b z c.1 k in
        omega (arith, r.2, ap length (same_chain z l r.0 b c.1 r.1 (λ i. f (inr i)) (λ i. f (inr (r.3 b i))))),
    dist_chain z l b c.1 (λ i. f (inr i)),
  )
