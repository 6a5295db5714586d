-- Demand 2 for the class SIMSET: for every well-formed model each set call does what the plain call does to the lists, refused by 3 or 10
-- on their conditions alone and then with every word as it was, and tells what request 2.1 asks for; a query answers what the lists say,
-- or 3 on its condition.
use Rattle.std.specs.Prelude.{ℕ, ◌+◌, ◌<◌, ◌≡◌, true, leb, ltb}
use Rattle.std.proofs.Common.{arith, leb-true, ltb-true}
use Rattle.std.proofs.lemmas.Bool.{lt-leb}
use Rattle.ring_laws.specs.Rings.{Head, Link}
use Rattle.model.specs.declared.Counts.{Counts}
use Rattle.model.specs.Counts.{total, is_head, is_link, both}
use Rattle.model_laws.specs.Tables.{set_head}
use Rattle.simset_laws.specs.Promise.{link_in, head_in}

-- ---- operands as places of the table

pub link_of : (c : Counts) (x : ℕ) → is_link c x ≡ true → Link (total c + 1) (set_head c.heads) x
link_of c x e =
    let p = both (ltb c.heads x) (leb x (total c)) e in
    let q : c.heads < x = ltb-true c.heads x p.0 in
    record { some = omega arith; within = link_in c x e; isn't = lt-leb x c.heads q }

pub head_of_lem : (c : Counts) (x : ℕ) → is_head c x ≡ true → Head (total c + 1) (set_head c.heads) x
head_of_lem c x e =
    let p = both (leb 1 x) (leb x c.heads) e in
    record { some = leb-true 1 x p.0; within = head_in c x e; is = p.1 }
