-- The laws that the proofs of the axis's code cite.
use Rattle.std.specs.Prelude.{ℕ, suc, ◌+◌, ◌-◌, ◌<◌, ◌≤◌, ◌≡◌, refl, Bool, true, false, not, ◌&&◌, List}
use Rattle.std.proofs.Math.Path.{sym, ap}
use Rattle.std.proofs.Common.{◌∙◌, arith}
use borrow.Author.Tests.{not-true, not-false}
use Rattle.ring_laws.specs.Stores.{sucs, pres}
use Rattle.model_laws.specs.Judge.{time_fine, places_fine}
use Rattle.axis_laws.specs.Marks.{mark_fine}

off : (a b r : Bool) → false ≡ (a && b) → false ≡ (a && (b && r))
off true true r e = cc
off true false r e = refl
off false b r e = refl

on : (a b r : Bool) → true ≡ (a && b) → r ≡ (a && (b && r))
on true true r e = refl
on true false r e = cc
on false b r e = cc

-- the invariant of the loop over the places: those up to i are still to be judged
pub record Places (p : ℕ) (axis times marks : List ℕ) (i : ℕ) : Type 0 where
  pub few : i ≤ p
  pub rest :
      places_fine (sucs (p + 2) axis) (pres (p + 2) axis) (p + 1) times marks i
      ≡ places_fine (sucs (p + 2) axis) (pres (p + 2) axis) (p + 1) times marks p

module _ (p : ℕ) (axis times marks : List ℕ) where
  abbrev one_fine : ℕ → Bool × Bool
  one_fine y =
      (time_fine (sucs (p + 2) axis) (pres (p + 2) axis) (p + 1) times y, mark_fine (sucs (p + 2) axis) (pres (p + 2) axis) marks y)

  abbrev all_fine : ℕ → Bool
  all_fine i = places_fine (sucs (p + 2) axis) (pres (p + 2) axis) (p + 1) times marks i

  pub places_start : (i : ℕ) → i ≡ p → Places p axis times marks i
  places_start i e = record { few = omega (arith, e); rest = ap all_fine e }

  module _ (i : ℕ) (v : Places p axis times marks i) where
    pub places_out : i ≡ 0 → true ≡ places_fine (sucs (p + 2) axis) (pres (p + 2) axis) (p + 1) times marks p
    unfolding places_fine
    places_out z = ap all_fine (sym z) ∙ v.rest

    module _ (some : 0 < i) (f : Bool)
        (e : f ≡ (time_fine (sucs (p + 2) axis) (pres (p + 2) axis) (p + 1) times i && mark_fine (sucs (p + 2) axis) (pres (p + 2) axis) marks i)) where
      back : i ≡ suc (i - 1)
      back = omega (arith, some)

      one : f ≡ ((one_fine (suc (i - 1))).0 && (one_fine (suc (i - 1))).1)
      one = e ∙ ap (λ (k : ℕ). (one_fine k).0 && (one_fine k).1) back

      next : all_fine (suc (i - 1)) ≡ all_fine p
      next = ap all_fine (sym back) ∙ v.rest

      pub places_late : not f ≡ true → false ≡ places_fine (sucs (p + 2) axis) (pres (p + 2) axis) (p + 1) times marks p
      unfolding places_fine
      places_late n =
          off (one_fine (suc (i - 1))).0 (one_fine (suc (i - 1))).1 (all_fine (i - 1)) (sym (not-true f n) ∙ one) ∙ next

      pub places_turn : not f ≡ false → Places p axis times marks (i - 1)
      unfolding places_fine
      places_turn n =
          record {
            few = omega (arith, v.few);
            rest = on (one_fine (suc (i - 1))).0 (one_fine (suc (i - 1))).1 (all_fine (i - 1)) (sym (not-false f n) ∙ one) ∙ next;
          }
