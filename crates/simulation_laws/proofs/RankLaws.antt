-- RANK, as published, puts a notice behind all of equal or smaller time, or in front of all from its time on.
use Rattle.std.specs.Prelude.{ℕ, suc, ◌<◌, ◌≡◌, refl, true, false, List, [], ◌∷◌}
use Rattle.std.proofs.Common.{sym, ap, ◌∙◌, arith, eq-eqb, ne_eqb, le-leb, lt-ltb, le-ltb}
use Rattle.ring_laws.specs.Lists.{decide, below}
use Rattle.axis_laws.specs.Notices.{Notice, From, InOrder}
use Rattle.axis_laws.specs.NoticeOps.{behind_all, front_all}
use Rattle.axis_laws.specs.NoticeLaws.{from_less}
use Rattle.axis_laws.specs.PutLaws.{behind_first, front_first}
use Rattle.simulation_laws.specs.Published.{back_onto, follow_p, while_equal, while_later, RANK}
-- ---- the notices in front of P
use Rattle.simulation_laws.specs.RankLaws.{Upto, upto_more, order_upto, back_back}

module _ (n : Notice) where
  behind_back : (upto l : List Notice) → Upto n.due upto → behind_all n (back_onto upto l) ≡ back_onto upto (behind_all n l)
  behind_back [] l f = refl
  behind_back (p ∷ ps) l f = behind_back ps (p ∷ l) f.1 ∙ ap (back_onto ps) (rw (le-leb p.due n.due f.0))

  front_back : (u : ℕ) (upto l : List Notice) → u < n.due → Upto u upto → front_all n (back_onto upto l) ≡ back_onto upto (front_all n l)
  front_back u [] l b f = refl
  front_back u (p ∷ ps) l b f = front_back u ps (p ∷ l) b f.1 ∙ ap (back_onto ps) (rw (lt-ltb p.due n.due (omega (arith, f.0))))

  -- ---- follow (P)

  follow_behind : (upto passed : List Notice) → Upto n.due upto → From (suc n.due) passed
      → follow_p n upto passed ≡ behind_all n (back_onto upto passed)
  follow_behind upto passed u f = ap (back_onto upto) (sym (behind_first n passed f)) ∙ sym (behind_back upto passed u)

  follow_front : (u : ℕ) (upto passed : List Notice) → u < n.due → Upto u upto → From n.due passed
      → follow_p n upto passed ≡ front_all n (back_onto upto passed)
  follow_front u upto passed b g f = ap (back_onto upto) (sym (front_first n n.due passed (omega arith) f))
      ∙ sym (front_back u upto passed b g)

  -- ---- the loops

  later_behind : (upto passed : List Notice) → InOrder (back_onto upto passed) → From (suc n.due) passed
      → while_later false n upto passed ≡ behind_all n (back_onto upto passed)
  later_behind [] passed o f = sym (behind_first n passed f)
  later_behind (p ∷ ps) passed o f =
      below n.due p.due
      (λ l. rw (lt-ltb n.due p.due l) (later_behind ps (p ∷ passed) o (l, f)))
      (λ l. rw (le-ltb n.due p.due l)
      (follow_behind (p ∷ ps) passed (l, upto_more p.due n.due ps l (order_upto p ps passed o)) f))

  equal_front : (upto passed : List Notice) → InOrder (back_onto upto passed) → Upto n.due upto → From n.due passed
      → while_equal n upto passed ≡ front_all n (back_onto upto passed)
  equal_front [] passed o g f = sym (front_first n n.due passed (omega arith) f)
  equal_front (p ∷ ps) passed o g f =
      decide p.due n.due
      (λ e. rw (eq-eqb p.due n.due e) (equal_front ps (p ∷ passed) o g.1 (omega arith, f)))
      (λ d. rw (ne_eqb p.due n.due d)
      (follow_front p.due (p ∷ ps) passed (omega (arith, g.0, d)) (omega arith, order_upto p ps passed o) f))

  later_front : (upto passed : List Notice) → InOrder (back_onto upto passed) → From (suc n.due) passed
      → while_later true n upto passed ≡ front_all n (back_onto upto passed)
  later_front [] passed o f = sym (front_first n (suc n.due) passed (omega arith) f)
  later_front (p ∷ ps) passed o f =
      below n.due p.due
      (λ l. rw (lt-ltb n.due p.due l) (later_front ps (p ∷ passed) o (l, f)))
      (λ l. rw (le-ltb n.due p.due l)
      (equal_front (p ∷ ps) passed o (l, upto_more p.due n.due ps l (order_upto p ps passed o))
      (from_less n.due (suc n.due) passed (omega arith) f)))

  -- ---- RANK

  module _ (ns : List Notice) (o : InOrder ns) where
    again : back_onto (back_onto ns []) [] ≡ ns
    again = back_back ns []

    -- RANK (false)
    pub rank_behind : RANK false n ns ≡ behind_all n ns
    rank_behind = later_behind (back_onto ns []) [] (rw again o) tt ∙ ap (behind_all n) again

    -- RANK (true)
    pub rank_front : RANK true n ns ≡ front_all n ns
    rank_front = later_front (back_onto ns []) [] (rw again o) tt ∙ ap (front_all n) again
