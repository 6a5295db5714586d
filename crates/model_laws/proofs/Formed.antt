-- The judge of tables answers yes exactly where they are well formed.
use Rattle.std.specs.Prelude.{◌+◌, ◌≡◌, true}
use Rattle.std.proofs.Common.{sym, arith}
use Rattle.model.specs.declared.Counts.{Counts}
use Rattle.model.specs.Counts.{total, both, and_on}
use Rattle.axis_laws.specs.Notices.{places}
use Rattle.model_laws.specs.Tables.{Tables, Lengths, WellFormed}
use Rattle.model_laws.specs.Judge.{links_fine, axis_fine, tables_fine}
use Rattle.model_laws.proofs.AxisJudged.{axis_sound, axis_complete}
-- ---- the sets: the heads 1 .. H, and the links H + 1 .. m - 1
use Rattle.model_laws.specs.Formed.{links_sound, links_complete, lists_of, events_spelled, axis_spelled}

-- ---- the judge of tables

pub tables_sound : (c : Counts) (t : Tables) → Lengths c t → tables_fine c t ≡ true → WellFormed c t
unfolding tables_fine
tables_sound c t len e =
    let b = both (links_fine (total c + 1) c.heads t.links) (axis_fine c.processes t.axis t.times t.marks) e in
    let l = links_sound (total c + 1) c.heads t.links (omega arith) len.links_is b.0 in
    let a = axis_sound c.processes t.axis t.times t.marks len.axis_is b.1 in
    (lists_of c t len l.0 a.0, events_spelled c t len l.0 a.0 l.1 l.2 a.1)

pub tables_complete : (c : Counts) (t : Tables) → WellFormed c t → tables_fine c t ≡ true
unfolding tables_fine
tables_complete c t (l, s) =
    sym (and_on _ _ _ (links_complete (total c + 1) c.heads t.links l.sets (omega arith) s.links s.limited)
    (sym (axis_complete c.processes t.axis t.times t.marks (places c l.notices) (axis_spelled c l t s))))
