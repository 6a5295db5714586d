-- Request 2.5 in so many words: refusal 10 means that some set would have just 513 members; and who never meets it.
use Rattle.std.specs.Prelude.{ℕ, suc, ◌+◌, ◌-◌, ◌<◌, ◌≤◌, ◌≡◌, true, false, List, [], ◌∷◌, length, get_or}
use Rattle.std.proofs.Common.{sym, ap, ◌∙◌, subst, arith}
use Rattle.std.proofs.lemmas.List.{length-map}
use Rattle.std.proofs.Math.ListN.{get_or-map, get_or-eq_default}
use Rattle.ring_laws.specs.Lists.{In, without, inside, below}
use Rattle.ring_laws.specs.Distinct.{without_le}
use Rattle.ring_laws.specs.Rings.{Head, Link}
use Rattle.ring_laws.specs.Stores.{sucs}
use Rattle.ring_laws.specs.Table.{unlinked}
use Rattle.model.specs.Counts.{most_members}
use Rattle.model_laws.specs.Tables.{set_head, members_of, SpellsSets, Limited}
use Rattle.simset_laws.specs.Sets.{each_set, out_sets, follow_sets, precede_sets, exceeds}
use Rattle.simset_laws.specs.EachSet.{length_on, get_or_on}
use Rattle.simset_laws.specs.SizeLaws.{Puts, puts_behind, puts_ahead, exceeds_not, out_limited}
use Rattle.simset_laws.specs.QueryLaws.{found}
use Rattle.simset_laws.proofs.FullLaws.{elsewhere, within_its_own, none_exceeds}
use Rattle.simset_laws.specs.Laws.{sets_out, behind_nowhere, ahead_nowhere}
use Rattle.simset_laws.proofs.Laws.{follows_itself, precedes_itself}
-- ---- "after which some set would have 513 members"
use Rattle.simset_laws.specs.LimitLaws.{exceeding}

module _ (x y : ℕ) (f : ℕ → List ℕ → List ℕ) (p : Puts y f) (sets : List (List ℕ)) (few : Limited sets) where
  abbrev after : List (List ℕ)
  after = each_set f 1 (out_sets x sets)

  one_put : (g : ℕ) (l : List ℕ) → length (f g l) ≤ suc (length l)
  one_put g l = inside y (g ∷ l) (λ k. omega (arith, p.more g l k)) (λ n. omega (arith, p.same g l n))

  grown : (i : ℕ) → length (get_or after i []) ≤ suc most_members
  grown i =
      below i (length sets)
      (λ b. omega (
        arith,
        ap length (get_or_on f 1 (out_sets x sets) i (omega (arith, length-map sets (without x)))),
        one_put (1 + i) (get_or (out_sets x sets) i []),
        ap length (get_or-map (without x) sets i []),
        without_le x (get_or sets i []),
        limit_at i,
      ))
      (λ b. omega (
        arith,
        ap length (get_or-eq_default after [] {n = i} (omega (arith, length_on f 1 (out_sets x sets), length-map sets (without x)))),
      ))
    where
      limit_at : (j : ℕ) → length (get_or sets j []) ≤ most_members
      limit_at j = let e : suc j - 1 ≡ j = omega arith in omega (arith, few (suc j), ap (λ (n : ℕ). length (get_or sets n [])) e)

  pub just_513 : exceeds after ≡ true → (h : ℕ) × (length (members_of after h) ≡ 513)
  just_513 e =
      let w = exceeding after e in
      let q : suc w.0 - 1 ≡ w.0 = omega arith in
      (suc w.0, omega (arith, w.1, grown w.0, ap (λ (n : ℕ). length (get_or after n [])) q))

pub follow_513 : (x y : ℕ) (sets : List (List ℕ)) → Limited sets → exceeds (follow_sets x y sets) ≡ true
    → (h : ℕ) × (length (members_of (follow_sets x y sets) h) ≡ 513)
follow_513 x y = just_513 x y _ (puts_behind x y)

pub precede_513 : (x y : ℕ) (sets : List (List ℕ)) → Limited sets → exceeds (precede_sets x y sets) ≡ true
    → (h : ℕ) × (length (members_of (precede_sets x y sets) h) ≡ 513)
precede_513 x y = just_513 x y _ (puts_ahead x y)

-- ---- no refusal 10 for a link moved within its set or beside itself, nor beside a y that stands in no set, none among them

limited_fine : (sets : List (List ℕ)) → Limited sets → exceeds sets ≡ false
limited_fine sets few =
    exceeds_not sets (λ i. let e : suc i - 1 ≡ i = omega arith in omega (arith, few (suc i), ap (λ (n : ℕ). length (get_or sets n [])) e))

module _ (m H : ℕ) (sets : List (List ℕ)) (t : List ℕ) (s : SpellsSets m H sets t) (b : H < m) (few : Limited sets) (x : ℕ)
    (lx : Link m (set_head H) x) where
  out_fine : exceeds (out_sets x sets) ≡ false
  out_fine = limited_fine (out_sets x sets) (out_limited x sets few)

  -- "A link moved within its own set does not count twice", whichever way f puts it beside y
  module _ (y h : ℕ) (ly : y < m) (a : Head m (set_head H) h) (within : In x (members_of sets h)) (on : In y (h ∷ members_of sets h)) where
    moved_within : (f : ℕ → List ℕ → List ℕ) → Puts y f → exceeds (each_set f 1 (out_sets x sets)) ≡ false
    moved_within f p =
        none_exceeds m H sets t s b x lx y ly f p
        (λ g ag. inside y (g ∷ members_of sets g)
        (λ i.
        let e : h ≡ g = sym (found m H sets t s b (λ k l. k) y h a on) ∙ found m H sets t s b (λ k l. k) y g ag i in
        subst (λ (j : ℕ). length (members_of (each_set f 1 (out_sets x sets)) j) ≤ most_members) e
        (omega (arith, within_its_own m H sets t s b x lx y ly f p h a within, few h)))
        (λ n. omega (arith, elsewhere m H sets t s b x lx y ly f p g ag n, few g)))

    pub own_set_fine : (exceeds (follow_sets x y sets) ≡ false) × (exceeds (precede_sets x y sets) ≡ false)
    own_set_fine = (moved_within _ (puts_behind x y), moved_within _ (puts_ahead x y))

  pub itself_fine : (exceeds (follow_sets x x sets) ≡ false) × (exceeds (precede_sets x x sets) ≡ false)
  itself_fine =
      (ap exceeds (follows_itself m H sets t s b x lx) ∙ out_fine, ap exceeds (precedes_itself m H sets t s b x lx) ∙ out_fine)

  pub nowhere_fine : (y : ℕ) → sucs m (unlinked m x t) y ≡ 0
      → (exceeds (follow_sets x y sets) ≡ false) × (exceeds (precede_sets x y sets) ≡ false)
  nowhere_fine y z =
      let o : SpellsSets m H (out_sets x sets) (unlinked m x t) = sets_out m H sets t s x lx in (
        ap exceeds (behind_nowhere m H (out_sets x sets) (unlinked m x t) o x y b z) ∙ out_fine,
        ap exceeds (ahead_nowhere m H (out_sets x sets) (unlinked m x t) o x y b z) ∙ out_fine,
      )
