-- What the core functions need of tables that were judged fine: four parts of m words, every word a place, and a first notice.
use Rattle.std.specs.Prelude.{ℕ, ◌+◌, ◌*◌, ◌-◌, ◌<◌, ◌≤◌, ◌≡◌, refl, List, ◌∷◌, length, get_or, take, drop}
use Rattle.std.proofs.Common.{subst, inl, arith, take-append-drop}
use Rattle.ring_laws.specs.Lists.{In, below, inside}
use Rattle.ring_laws.specs.Table.{Sound}
use Rattle.ring_laws.specs.Stores.{sucs, pres, suc_at}
use Rattle.ring_laws.proofs.Spell.{spells_sound}
use Rattle.model.specs.declared.Counts.{Counts}
use Rattle.axis_laws.specs.Notices.{Notice}
use Rattle.axis_laws.specs.AxisRing.{axis_head}
use Rattle.axis_laws.specs.Groups.{Group, members, leaders}
use Rattle.axis_laws.specs.Loops.{neighbours}
use Rattle.axis_laws.specs.Timeline.{timeline, SpellsPeers, SpellsGroups, first_of}
use Rattle.axis_laws.specs.Ticks.{in_m}
use Rattle.axis_laws.specs.NoticesSpelled.{half, SpellsNotices, is_process_lem}
use Rattle.axis_laws.specs.TimelineReading.{current_is}
use Rattle.axis_laws.specs.Promise.{Whole, both_whole}

peers_sound : (m : ℕ) (gs : List Group) (t : List ℕ) → 0 < m → SpellsPeers m gs t → ((y : ℕ) → In y (members gs) → (0 < y) × (y < m)) → Sound m t
peers_sound m gs t pos sp in_table =
    record {
      two = sp.two;
      inside = λ i.
          below i m
          (λ l. subst (λ (j : ℕ). j < m) (suc_at m t i l) (at i).0)
          (λ l. let e : m + (i - m) ≡ i = omega arith in subst (λ (j : ℕ). get_or t j 0 < m) e (at (i - m)).1);
    }
  where
    at : (y : ℕ) → (sucs m t y < m) × (pres m t y < m)
    at y =
        inside y (members gs)
        (λ i.
        let n = neighbours (sucs m t) (pres m t) gs y sp.loops i in
        ((in_table (sucs m t y) n.next_in_lem).1, (in_table (pres m t y) n.prev_in_lem).1))
        (λ o. let z = sp.off y o in (omega (arith, z.0), omega (arith, z.1)))

pub groups_whole : (m : ℕ) (gs : List Group) (axis times : List ℕ) → 0 < m → SpellsGroups m gs (timeline m axis times) → Whole m axis
groups_whole m gs axis times pos sp =
    subst (λ (l : List ℕ). Whole m l) (take-append-drop (2 * m) axis)
    (both_whole m (take (2 * m) axis) (drop (2 * m) axis)
    (spells_sound m (axis_head m) (λ h. leaders gs) (take (2 * m) axis) sp.ticks pos)
    (peers_sound m gs (drop (2 * m) axis) pos sp.peers (in_m m gs (timeline m axis times) sp)))

pub record Ready (c : Counts) (axis times : List ℕ) : Type 0 where
  pub whole : Whole (half c) axis
  pub full : length times ≡ c.processes + 1
  pub first_some : 0 < first_of (half c) (timeline (half c) axis times)
  pub first_in_lem : first_of (half c) (timeline (half c) axis times) ≤ c.processes

pub notices_ready : (c : Counts) (n : Notice) (ns : List Notice) (axis times : List ℕ) → SpellsNotices c (n ∷ ns) (timeline (half c) axis times) → Ready c axis times
notices_ready c n ns axis times sp =
    let p = is_process_lem c (n ∷ ns) (timeline (half c) axis times) sp n.who (inl refl) in
    let e = current_is c n ns (timeline (half c) axis times) sp in
    record {
      whole = groups_whole (half c) sp.groups axis times (omega arith) sp.spelled;
      full = omega (arith, sp.spelled.full);
      first_some = omega (arith, e, p);
      first_in_lem = omega (arith, e, p);
    }
