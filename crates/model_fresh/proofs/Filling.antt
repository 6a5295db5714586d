-- The calls that make a fresh model.
use Rattle.std.specs.Prelude.{Ok, Err}
use Prim.Native.Nat.{ℕ, ◌+◌, ◌*◌, ◌≤◌}
use mathlib.Core.Path.{◌≡◌, sym, ap, ap₂, ◌∙◌}
use mathlib.Core.Bool.{Bool, true, false, not}
use mathlib.Core.List.{List, []}
use native.Mathlib.Omega.{arith}
use lib.ListN.{length}
use borrow.Author.Tests.{not-true, not-false}
use Rattle.ring_laws.specs.Lists.{zeros}
use Rattle.ring_laws.specs.Table.{Sound, self_linked, linked_before}
use Rattle.ring_laws.proofs.Spell.{spells_sound}
use Rattle.model.specs.declared.Counts.{Counts}
use Rattle.model.specs.declared.Refusal.TheVariants.{Size}
use Rattle.model.specs.Counts.{in_limits, total}
use Rattle.model_laws.specs.Tables.{Tables, Sized}
use Rattle.axis_laws.specs.AxisRing.{axis_head}
use Rattle.model_laws.specs.Judge.{lengths_fine}
use Rattle.model_laws.specs.Fresh.{fresh_heads, fresh_axis, fresh_tables, freshed, started}

-- ---- the axis, and the whole

module _ (p m : ℕ) (t u v : List ℕ) (some : 1 ≤ p) (e : m ≡ p + 2) (two : length t ≡ 2 * (p + 2)) (z : u ≡ zeros (length t)) (s : v ≡ self_linked m (p + 1) u) where
  v_is : v ≡ self_linked (p + 2) (p + 1) (zeros (2 * (p + 2)))
  v_is = s ∙ ap₂ (λ (k : ℕ) (l : List ℕ). self_linked k (p + 1) l) e (z ∙ ap zeros two)

  pub axis_sound : Sound m v
  axis_sound = rw (e, v_is) (spells_sound (p + 2) (axis_head (p + 2)) (λ h. []) (self_linked (p + 2) (p + 1) (zeros (2 * (p + 2)))) (started p some) (omega arith))

  pub axis_is : (w l : List ℕ) → w ≡ l → l ≡ linked_before m 1 (p + 1) v → w ≡ fresh_axis p
  unfolding fresh_axis
  axis_is w l k f = k ∙ f ∙ ap₂ (λ (k : ℕ) (l : List ℕ). linked_before k 1 (p + 1) l) e v_is

pub same_tables : (a b : Tables) → a.links ≡ b.links → a.axis ≡ b.axis → a.times ≡ b.times → a.marks ≡ b.marks → a ≡ b
same_tables a b p q r s = λ i. record { links = p i; axis = q i; times = r i; marks = s i }

-- the links, from zeros and heads
pub links_are : (c : Counts) (n : ℕ) (t u v : List ℕ) → n ≡ total c → length t ≡ 2 * (total c + 1) → u ≡ zeros (length t)
    → v ≡ fresh_heads (n + 1) c.heads u → v ≡ (fresh_tables c).links
unfolding fresh_tables
links_are c n t u v e two z s = s ∙ ap₂ (λ (k : ℕ) (l : List ℕ). fresh_heads (k + 1) c.heads l) e (z ∙ ap zeros two)

module _ (c : Counts) (t : Tables) (sized : Sized c t) where
  pub filled : (a : Tables) → a.links ≡ (fresh_tables c).links → a.axis ≡ fresh_axis c.processes → a.times ≡ zeros (length t.times)
      → a.marks ≡ zeros (length t.marks) → a ≡ fresh_tables c
  unfolding fresh_tables
  filled a p q r s =
      same_tables a (fresh_tables c) p q (r ∙ ap zeros sized.lengths.times_is) (s ∙ ap zeros sized.lengths.marks_is)

-- ---- the public call

module _ (c : Counts) (t : Tables) (a : Bool) (ea : a ≡ in_limits c) where
  pub fresh_limits : not a ≡ true → record { tables = t; answer = Err Size } ≡ freshed c t
  unfolding freshed
  fresh_limits n = rw (sym ea ∙ not-true a n)

  module _ (na : not a ≡ false) (b : Bool) (eb : b ≡ lengths_fine c t) where
    pub fresh_lengths : not b ≡ true → record { tables = t; answer = Err Size } ≡ freshed c t
    unfolding freshed
    fresh_lengths n = rw (sym ea ∙ not-false a na, sym eb ∙ not-true b n)

    pub fresh_filled : (u : Tables) → not b ≡ false → u ≡ fresh_tables c → record { tables = u; answer = Ok tt } ≡ freshed c t
    unfolding freshed
    fresh_filled u n e = rw (sym ea ∙ not-false a na, sym eb ∙ not-false b n) (ap (λ (k : Tables). record { tables = k; answer = Ok tt }) e)
