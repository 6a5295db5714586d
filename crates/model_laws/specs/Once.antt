-- No link stands twice in the sets, all sets taken together; and what stands in a set is a link.
use Rattle.std.specs.Prelude.{ℕ, ◌+◌, ◌<◌, ◌≤◌}
use Rattle.std.proofs.Common.{arith, leb-false}
use Rattle.ring_laws.specs.Lists.{In}
use Rattle.ring_laws.specs.Distinct.{Dist, joined}
use Rattle.ring_laws.specs.Stores.{sucs, pres}
use Rattle.ring_laws.specs.Rows.{Rows}
use Rattle.ring_laws.proofs.Rows.{rows_dist, rows_busy}
use Rattle.ring_laws.proofs.Fine.{rings_rows}
use Rattle.ring_laws.specs.Tabulate.{length_table, has, bit}
use Rattle.model.specs.declared.Counts.{Counts}
use Rattle.model.specs.Counts.{Allowed, total}
use Rattle.axis_laws.specs.Notices.{due_of}
use Rattle.model_laws.specs.Tables.{Tables, Lists, Sized, set_head, Spells}
use Rattle.model_laws.specs.Formed.{sets_layout}

module _ (c : Counts) (l : Lists) (t : Tables) (s : Spells c l t) where
  abbrev m : ℕ
  m = total c + 1

  rows : Rows m (set_head c.heads) (sucs m t.links) (pres m t.links) 1 l.sets
  rows =
      rings_rows m (set_head c.heads) c.heads 1 (c.heads + 1) m (sets_layout m c.heads (omega arith)) (sucs m t.links)
      (pres m t.links)
      l.sets s.links.all s.links.spelled.rings

  pub links_once : Dist (joined l.sets)
  links_once = rows_dist m (set_head c.heads) (sucs m t.links) (pres m t.links) 1 l.sets rows

  pub set_links : (x : ℕ) → In x (joined l.sets) → (c.heads < x) × (x ≤ total c)
  set_links x k =
      let b = (rows_busy m (set_head c.heads) (sucs m t.links) (pres m t.links) 1 l.sets x rows k).1 in
      (leb-false x c.heads b.isn't, omega (arith, b.within))

  -- tables that spell lists have the lengths that refusal 1 asks for
  pub spelled_sized : Allowed c → Sized c t
  spelled_sized a =
      record {
        allowed = a;
        lengths =
            record {
              links_is = s.links.spelled.two;
              axis_is = s.axis.two;
              times_is = length_table (λ p. due_of (c.heads + p) l.notices) c.processes t.times s.times;
              marks_is = length_table (λ p. bit (has (c.heads + p) l.terminated)) c.processes t.marks s.marks;
            };
      }
