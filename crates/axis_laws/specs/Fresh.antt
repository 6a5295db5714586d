-- The fresh axis: main alone, at 0.
use Rattle.std.specs.Prelude.{ℕ, ◌+◌, ◌*◌, ◌-◌, ◌<◌, ◌≤◌, ◌≡◌, refl, ◌≢◌, [], ◌∷◌, length, take}
use Rattle.std.proofs.Common.{◌∙◌, subst, arith, get_or-take, length-take-le, eqb-true}
use Rattle.std.proofs.Math.ListN.{get_or-eq_default}
use Rattle.std.proofs.lemmas.Bool.{eqb-false}
use Rattle.ring_laws.specs.Lists.{below, zeros}
use Rattle.ring_laws.specs.Table.{self_linked}
use Rattle.ring_laws.specs.Stores.{sucs, pres}
use Rattle.ring_laws.specs.Empty.{spells_empty, length_zeros, get_or_zeros, self_length, self_s, self_p, other_s, other_p}
use Rattle.model.specs.declared.Counts.{Counts}
use Rattle.model.specs.Counts.{main}
use Rattle.axis_laws.specs.AxisRing.{axis_head}
use Rattle.axis_laws.specs.Groups.{notice}
use Rattle.axis_laws.specs.Timeline.{Timeline, SpellsGroups}
use Rattle.axis_laws.specs.Procedures.{behind_on}
use Rattle.axis_laws.specs.NoticesSpelled.{half, SpellsNotices, notices_behind}

-- no notice: the head follows itself, all else is 0
abbrev pub empty_timeline : ℕ → Timeline
empty_timeline m = record { ticks = self_linked m (m - 1) (zeros (2 * m)); peers = zeros (2 * m); times = zeros (m - 1) }

-- main's notice, at 0
abbrev pub fresh_line : ℕ → Timeline
fresh_line m = behind_on m 1 0 (empty_timeline m)

zero_s : (m y : ℕ) → sucs m (zeros (2 * m)) y ≡ 0
zero_s m y =
    below y m
    (λ l. get_or-take m (zeros (2 * m)) y 0 l ∙ get_or_zeros (2 * m) y)
    (λ l. get_or-eq_default (take m (zeros (2 * m))) 0 {n = y} (omega (arith, length-take-le m (zeros (2 * m)) (omega (arith, length_zeros (2 * m))))))

zero_p : (m y : ℕ) → pres m (zeros (2 * m)) y ≡ 0
zero_p m y = get_or_zeros (2 * m) (m + y)

empty_spells : (m : ℕ) → 1 < m → SpellsGroups m [] (empty_timeline m)
empty_spells m big =
    let two : length (zeros (2 * m)) ≡ 2 * m = length_zeros (2 * m) in
    let in_t : m - 1 < m = omega arith in
    let t = self_linked m (m - 1) (zeros (2 * m)) in
    let self : (h : ℕ) → h ≡ m - 1 → (sucs m t h ≡ h) × (pres m t h ≡ h) =
    λ h e. rw e (self_s m (zeros (2 * m)) (m - 1) two in_t, self_p m (zeros (2 * m)) (m - 1) two in_t) in
    let else : (y : ℕ) → y ≢ m - 1 → (sucs m t y ≡ 0) × (pres m t y ≡ 0) =
    λ y n. (
      other_s m (zeros (2 * m)) (m - 1) two in_t y n ∙ zero_s m y,
      other_p m (zeros (2 * m)) (m - 1) two in_t y n ∙ zero_p m y,
    ) in
    record {
      ticks =
          spells_empty m (axis_head m) t (self_length m (zeros (2 * m)) (m - 1) two in_t)
          (λ h a. self h (eqb-true h (m - 1) a.is))
          (λ x l. else x (eqb-false x (m - 1) l.isn't))
          (else 0 (λ e. omega arith)).0 (else 0 (λ e. omega arith)).1;
      peers = record { two = two; loops = tt; off = λ y o. (zero_s m y, zero_p m y) };
      rising = tt;
      once = tt;
      place = λ y i. absurd i;
      full = omega (arith, length_zeros (m - 1));
      timed = λ y. get_or_zeros (m - 1) y;
    }

pub fresh_spells : (c : Counts) → 1 ≤ c.processes → SpellsNotices c (notice (main c) 0 ∷ []) (fresh_line (half c))
fresh_spells c some =
    let e : main c - c.heads ≡ 1 = omega arith in
    subst (λ (j : ℕ). SpellsNotices c (notice (main c) 0 ∷ []) (behind_on (half c) j 0 (empty_timeline (half c)))) e
    (notices_behind c [] (empty_timeline (half c))
    (record { groups = []; out = refl; over = λ x i. absurd i; spelled = empty_spells (half c) (omega arith) })
    (notice (main c) 0) (record { over = omega arith; upto = omega arith }) (λ i. i))
