-- Reading tables that spell the machine's lists: current, time, first members and so every operand are the machine's.
use Rattle.std.specs.Prelude.{ℕ, ◌<◌, ◌≡◌, refl, List, [], ◌∷◌}
use Rattle.std.proofs.Common.{sym, ap, ◌∙◌, inl, leb-true, leb-false}
use Rattle.ring_laws.specs.Lists.{In}
use Rattle.ring_laws.specs.Chain.{Chain}
use Rattle.ring_laws.specs.Rings.{Head}
use Rattle.ring_laws.specs.Stores.{sucs, pres, suc_at}
use Rattle.model_laws.specs.Tables.{set_head, members_of, SpellsSets}
use Rattle.simset_laws.specs.Procedures as procedures
use Rattle.simset_laws.specs.QueryLaws.{or_link, or_none_lem}
use Rattle.machine.specs.Operands.{first_in}

-- the successor of a head is its first member, none where it has none
pub first_of : (m H : ℕ) (sets : List (List ℕ)) (t : List ℕ) → SpellsSets m H sets t → (h : ℕ) → Head m (set_head H) h
    → procedures.suc_of H h t ≡ first_in (members_of sets h)
first_of m H sets t s h a = go (members_of sets h) (s.spelled.rings.ring h a)
    (λ y i. leb-false y H (s.spelled.rings.only h y a i).isn't)
  where
    go : (l : List ℕ) → Chain (sucs m t) (pres m t) h l h → ((y : ℕ) → In y l → H < y) → procedures.suc_of H h t ≡ first_in l
    go [] c f = ap (procedures.link_or H) (sym (suc_at m t h a.within) ∙ c.next) ∙ or_none_lem H h (leb-true h H a.is)
    go (z ∷ l) c f = ap (procedures.link_or H) (sym (suc_at m t h a.within) ∙ c.0.next) ∙ or_link H z (f z (inl refl))
