-- What the core functions need of tables that were judged fine: ranges, and a first notice that stands behind its head.
use Rattle.std.specs.Prelude.{ℕ, ◌+◌, ◌-◌, ◌<◌, ◌≤◌, ◌≡◌, refl, List, [], ◌∷◌, length, get_or}
use Rattle.std.proofs.Common.{ap, ◌∙◌, subst, inl, arith, not-suc-le-zero}
use Rattle.std.proofs.Math.ListN.{get_or-eq_default}
use Rattle.ring_laws.specs.Lists.{In, below, inside}
use Rattle.ring_laws.specs.Chain.{Chain, forth}
use Rattle.ring_laws.specs.Table.{Sound}
use Rattle.ring_laws.specs.Stores.{sucs, pres, suc_at}
use Rattle.ring_laws.proofs.Spell.{spells_sound}
use Rattle.model.specs.declared.Counts.{Counts}
use Rattle.model.specs.Counts.{Allowed, total, limit}
use Rattle.axis_laws.specs.Notices.{places}
use Rattle.model_laws.specs.Tables.{Tables, Lengths, Lists, Sized, set_head, members_of, Spells}
use Rattle.axis_laws.specs.AxisRing.{axis_head}
use Rattle.model_laws.specs.Now.{AxisSound, half, first_of, next_place, prev_place}
use Rattle.axis_laws.specs.AxisRing.{axis_head_lem, axis_event}
use Rattle.model_laws.specs.Formed.{axis_spelled}

pub record Ready (c : Counts) (t : Tables) : Type 0 where
  pub allowed : Allowed c
  pub lengths : Lengths c t
  pub links_sound : Sound (total c + 1) t.links
  pub axis_sound : AxisSound (half c) t.axis
  pub times_in : (y : ℕ) → get_or t.times y 0 ≤ limit
  pub first_some : 0 < first_of (half c) t.axis
  pub first_in_lem : first_of (half c) t.axis ≤ c.processes
  -- the first notice stands behind the axis's own head
  pub first_led : prev_place (half c) t.axis (first_of (half c) t.axis) ≡ half c - 1

pub formed_ready : (c : Counts) (l : Lists) (t : Tables) → Sized c t → Spells c l t → Ready c t
formed_ready c l t z w =
    let s = axis_spelled c l t w in
    let f = first (places c l.notices) s.some (s.ring.rings.ring (c.processes + 1) (axis_head_lem c.processes))
    (axis_event c.processes t.axis (places c l.notices) s.ring) in
    let head : c.processes + 1 ≡ half c - 1 = omega arith in
    let at : sucs (half c) t.axis (c.processes + 1) ≡ first_of (half c) t.axis =
    suc_at (half c) t.axis (c.processes + 1) (omega arith) ∙ ap (λ (i : ℕ). next_place t.axis i) head in
    record {
      allowed = z.allowed;
      lengths = z.lengths;
      links_sound = spells_sound (total c + 1) (set_head c.heads) (members_of l.sets) t.links w.links.spelled (omega arith);
      axis_sound = spells_sound (c.processes + 2) (axis_head (c.processes + 2)) (λ h. places c l.notices) t.axis s.ring
          (omega arith);
      times_in = λ y.
          below c.processes y
          (λ b. omega (arith, get_or-eq_default t.times 0 {n = y} (omega (arith, z.lengths.times_is))))
          (λ b. inside y (places c l.notices) (λ k. s.limits y k) (λ out. omega (arith, s.idle_times y b out)));
      first_some = omega (arith, f, at);
      first_in_lem = omega (arith, f, at);
      first_led =
          subst (λ (i : ℕ). pres (half c) t.axis i ≡ half c - 1) at
          (forth
          (sucs (c.processes + 2) t.axis)
          (pres (c.processes + 2) t.axis)
          (c.processes + 1)
          (places c l.notices)
          (c.processes + 1)
          (c.processes + 1)
          (s.ring.rings.ring (c.processes + 1) (axis_head_lem c.processes))
          (inl refl)
          ∙ head);
    }
  where
    first : (k : List ℕ) → 0 < length k → Chain (sucs (c.processes + 2) t.axis) (pres (c.processes + 2) t.axis) (c.processes + 1) k
        (c.processes + 1)
        → ((y : ℕ) → In y k → (0 < y) × (y ≤ c.processes)) → (0 < sucs (c.processes + 2) t.axis (c.processes + 1))
        × (sucs (c.processes + 2) t.axis (c.processes + 1) ≤ c.processes)
    first [] p q g = absurd (not-suc-le-zero p)
    first (z ∷ k) p q g = rw q.0.next (g z (inl refl))
