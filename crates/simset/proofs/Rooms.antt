-- What the tests of a set's room return, from their calls.
use Prim.Native.Nat.{ℕ, ◌+◌, ◌<◌, ◌≤◌}
use mathlib.Core.Path.{◌≡◌, sym, ap, ◌∙◌, subst}
use mathlib.Core.Logic.{◌≢◌}
use mathlib.Core.Bool.{Bool, true, false, not}
use mathlib.Core.List.{List}
use native.Mathlib.Omega.{arith}
use lib.Dec.{eqb, leb}
use lib.ListN.{get_or, set, replicate}
use borrow.Author.Tests.{eq-eqb, ne_eqb, le-leb, lt-leb, leb-true, le-ltb, lt-ltb, ltb-true}
use Rattle.ring_laws.specs.Lists.{test}
use Rattle.ring_laws.specs.Table.{steps, counted, steps_few, steps_most}
use Rattle.model.specs.declared.Counts.{Counts}
use Rattle.model.specs.Counts.{total, most_members}
use Rattle.simset_laws.specs.Walk.{head_at, head_found}
use Rattle.simset_laws.specs.Full.{set_at, full_at, many, full_for, free_to, unknown}
use Rattle.simset_laws.specs.BoundLaws.{Covers, covers_few, covers_none}
use Rattle.simset_laws.proofs.BoundLaws.{covers_one, covers_same}
use Rattle.simset_laws.specs.Entering.{Tested}

module _ (m H y : ℕ) (t : List ℕ) where
  pub own_set : y ≤ H → y ≡ set_at m H y t
  unfolding set_at
  own_set l = rw (le-leb y H l)

  pub link's_set : H < y → (h : ℕ) → h ≡ head_at m H y t → h ≡ set_at m H y t
  unfolding set_at
  link's_set l h is = rw (lt-leb y H l) is

  pub set_in : (h : ℕ) → h ≡ set_at m H y t → h ≤ H
  unfolding set_at
  set_in h is =
      test (leb y H)
      (λ e. omega (arith, rw e at is, leb-true y H e))
      (λ e. omega (arith, rw e at is, head_found H t m (get_or t y 0)))

module _ (c : Counts) (x h : ℕ) (links bounds : List ℕ) (v : Covers c 0 links bounds) (some : 0 < h) (in-heads : h ≤ c.heads)
    (lots : many c ≡ true) where
  abbrev m : ℕ
  m = total c + 1

  abbrev full : Bool
  full = full_at m c.heads x h links

  not_full : counted m h links < most_members → false ≡ full
  unfolding full_at
  not_full l = rw (lt-ltb (counted m h links) most_members l)

  -- the bound says enough
  pub by_bound : get_or bounds h 0 < most_members → Tested c h links full (set bounds h (get_or bounds h 0 + 1)) false
  by_bound l =
      let few : counted m h links ≤ get_or bounds h 0 = omega (arith, v.most lots h some in-heads l) in
      record { is = not_full (omega arith); covers = covers_one c links bounds v h some in-heads (get_or bounds h 0) (λ e. few) }

  module _ (n : ℕ) (least : n ≡ steps links h most_members (get_or links h 0)) where
    all : most_members ≤ m
    all = omega (arith, ltb-true most_members (c.processes + c.plains) lots)

    -- the count does
    pub by_count : n < most_members → Tested c h links full (set bounds h (n + 1)) false
    by_count l =
        let size = steps_few links h most_members m (get_or links h 0) all (omega (arith, least)) in
        record {
          is = not_full (omega (arith, size, least));
          covers = covers_one c links bounds v h some in-heads n (λ e. omega (arith, size, least));
        }

    -- the set has 512: x may be one of them
    pub by_head : most_members ≤ get_or bounds h 0 → most_members ≤ n → (j g : ℕ) → j ≡ m → g ≡ head_at j c.heads x links
        → Tested c h links full bounds (not (eqb g h))
    unfolding full_at
    by_head b l j g ej eg =
        let size = steps_most links h most_members m (get_or links h 0) all (omega (arith, least)) in
        record {
          is =
              rw (le-ltb (counted m h links) most_members size)
              (ap (λ (q : ℕ). not (eqb q h)) (eg ∙ ap (λ (q : ℕ). head_at q c.heads x links) ej));
          covers = covers_same c links bounds v h some in-heads b;
        }

module _ (c : Counts) (x y : ℕ) (links bounds : List ℕ) (v : Covers c 0 links bounds) where
  abbrev k : ℕ
  k = set_at (total c + 1) c.heads y links

  pub not_many : many c ≡ false → Tested c k links (full_for c x y links) bounds false
  unfolding full_for
  not_many e = record { is = rw e; covers = covers_few c 0 k links links bounds e v }

  module _ (lots : many c ≡ true) (h : ℕ) (is : h ≡ k) where
    pub beside_none : h ≡ 0 → Tested c k links (full_for c x y links) bounds (not (eqb h 0))
    unfolding full_for
    beside_none z =
        record {
          is = rw (lots, eq-eqb k 0 (sym is ∙ z), eq-eqb h 0 z);
          covers = covers_none c k links bounds (sym is ∙ z) v;
        }

    pub beside_some : h ≢ 0 → (b : List ℕ) (r : Bool) → Tested c h links (full_at (total c + 1) c.heads x h links) b r
        → Tested c k links (full_for c x y links) b r
    unfolding full_for
    beside_some n b r t =
        record {
          is = rw (lots, ne_eqb k 0 (λ z. n (is ∙ z))) (t.is ∙ ap (λ (j : ℕ). full_at (total c + 1) c.heads x j links) is);
          covers = subst (λ (j : ℕ). Covers c j links b) is t.covers;
        }

-- the bounds as a call begins with them, from the two numbers that are written
pub unknown_is : (c : Counts) (n a b : ℕ) → n ≡ total c → a ≡ free_to c c.heads → b ≡ free_to c n
    → set (set (replicate 66 most_members) 0 a) 65 b ≡ unknown c
unfolding unknown
unknown_is c n a b e f g = rw (f, g, e)
