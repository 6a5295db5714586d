-- RANK, as published, puts a notice behind all of equal or smaller time, or in front of all from its time on.
use Rattle.std.specs.Prelude.{ℕ, ◌≤◌, ◌≡◌, refl, List, [], ◌∷◌}
use Rattle.std.proofs.Common.{arith}
use Rattle.axis_laws.specs.Notices.{Notice, InOrder}
use Rattle.simulation_laws.specs.Published.{back_onto}

-- ---- the notices in front of P

-- all due up to u
abbrev pub Upto : ℕ → List Notice → Type 0
Upto u [] = Unit {0}
Upto u (p ∷ ps) = (p.due ≤ u) × Upto u ps

pub upto_more : (u v : ℕ) (ps : List Notice) → u ≤ v → Upto u ps → Upto v ps
upto_more u v [] l f = tt
upto_more u v (p ∷ ps) l f = (omega (arith, f.0), upto_more u v ps l f.1)

order_rest : (upto l : List Notice) → InOrder (back_onto upto l) → InOrder l
order_rest [] l o = o
order_rest (p ∷ ps) l o = (order_rest ps (p ∷ l) o).1

pub order_upto : (p : Notice) (ps l : List Notice) → InOrder (back_onto ps (p ∷ l)) → Upto p.due ps
order_upto p [] l o = tt
order_upto p (q ∷ qs) l o =
    let h = (order_rest qs (q ∷ p ∷ l) o).0.0 in
    (h, upto_more q.due p.due qs h (order_upto q qs (p ∷ l) o))

pub back_back : (upto l : List Notice) → back_onto (back_onto upto l) [] ≡ back_onto l upto
back_back [] l = refl
back_back (p ∷ ps) l = back_back ps (p ∷ l)
