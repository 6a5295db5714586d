-- What a table spells: for each head the list of its ring. Unlinking and linking do to the lists what their names say.
use Rattle.std.specs.Prelude.{ℕ, zero, suc, ◌*◌, ◌<◌, ◌≤◌, ◌≡◌, Bool, List, [], ◌∷◌, length}
use Rattle.std.proofs.Math.Path.{refl, ap}
use Rattle.std.proofs.Common.{sym, ◌∙◌, arith}
use Rattle.std.proofs.Math.Logic.{inl, inr}
use Rattle.std.proofs.Math.ListN.{get_or}
use Rattle.ring_laws.specs.Lists.{In}
use Rattle.ring_laws.specs.Chain.{Chain}
use Rattle.ring_laws.specs.Rings.{Head, Rings, rings_cong}
use Rattle.ring_laws.specs.Rings.{rings_one}
use Rattle.ring_laws.specs.Table.{steps, steps_here}
use Rattle.ring_laws.specs.Table.{steps_on}
use Rattle.ring_laws.specs.Stores.{sucs, pres, suc_at}

pub record Spells (m : ℕ) (is_head : ℕ → Bool) (L : ℕ → List ℕ) (t : List ℕ) : Type 0 where
  pub two : length t ≡ 2 * m
  pub rings : Rings m is_head L (sucs m t) (pres m t)

pub spells_cong : (m : ℕ) (is_head : ℕ → Bool) (L L' : ℕ → List ℕ) (t : List ℕ) → ((h : ℕ) → Head m is_head h → L h ≡ L' h)
    → Spells m is_head L t → Spells m is_head L' t
spells_cong m is_head L L' t e sp = record { two = sp.two; rings = rings_cong m is_head L L' (sucs m t) (pres m t) e sp.rings }

-- a table spells one family of lists
pub spells_one : (m : ℕ) (is_head : ℕ → Bool) (L L' : ℕ → List ℕ) (t : List ℕ) → Spells m is_head L t → Spells m is_head L' t
    → (h : ℕ) → Head m is_head h → L h ≡ L' h
spells_one m is_head L L' t sp sp' h a = rings_one m is_head L L' (sucs m t) (pres m t) sp.rings sp'.rings h a

-- on a chain that comes back to h the walk counts the members
pub chain_steps : (m : ℕ) (t : List ℕ) (h a : ℕ) (l : List ℕ) (k : ℕ) → Chain (sucs m t) (pres m t) a l h → ((y : ℕ) → In y (a ∷ l) → y < m)
    → (In h l → ⊥) → length l ≤ k → steps t h k (get_or t a 0) ≡ length l
chain_steps m t h a [] k c b f le = steps_here t h k (get_or t a 0) (sym (suc_at m t a (b a (inl refl))) ∙ c.next)
chain_steps m t h a (z ∷ l) zero c b f le = omega arith
chain_steps m t h a (z ∷ l) (suc k) c b f le =
    let e : get_or t a 0 ≡ z = sym (suc_at m t a (b a (inl refl))) ∙ c.0.next in
    rw e (steps_on t h k z (λ g. f (inl (sym g))) ∙ ap suc (chain_steps m t h z l k c.1 (λ y i. b y (inr i)) (λ i. f (inr i))
    (omega arith)))
