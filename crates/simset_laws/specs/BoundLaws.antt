-- Bounds of the sets' sizes, kept beside a table of links, so that a call that enters a set need not count it: a bound below 512 is at
-- least the size of its head's set, and one of 512 says nothing.
use Rattle.std.specs.Prelude.{ℕ, ◌+◌, ◌<◌, ◌≤◌, ◌≡◌, true, false, List, eqb, length, get_or, set}
use Rattle.std.proofs.Common.{sym, ◌∙◌, arith, length-set, get_or-set_other, ne_eqb}
use Rattle.ring_laws.specs.Lists.{clash}
use Rattle.ring_laws.specs.Tabulate.{bit}
use Rattle.model.specs.declared.Counts.{Counts}
use Rattle.model.specs.Counts.{total, most_members}
use Rattle.model_laws.specs.Tables.{SpellsSets}
use Rattle.simset_laws.specs.Procedures.{cardinal_of}
use Rattle.simset_laws.specs.Full.{many, free_to}

-- words for the bounds of all heads, and two that no head has, for the free heads and the free linkages
pub record Fits (c : Counts) (bounds : List ℕ) : Type 0 where
  pub heads_in : c.heads < 65
  pub places : 65 < length bounds
  pub free_heads : get_or bounds 0 0 ≡ free_to c c.heads
  pub free_linkages : get_or bounds 65 0 ≡ free_to c (total c)

pub fits_set : (c : Counts) (bounds : List ℕ) → Fits c bounds → (h n : ℕ) → 0 < h → h ≤ c.heads → Fits c (set bounds h n)
fits_set c bounds f h n a b =
    record {
      heads_in = f.heads_in;
      places = simp length-set f.places;
      free_heads = get_or-set_other bounds h 0 n 0 (λ z. omega arith) ∙ f.free_heads;
      free_linkages = get_or-set_other bounds h 65 n 0 (λ z. omega (arith, f.heads_in)) ∙ f.free_linkages;
    }

-- with one member more in the set of head k; 0 for none. Where there are not many links, no bound is needed
pub record Covers (c : Counts) (k : ℕ) (links bounds : List ℕ) : Type 0 where
  pub fits : Fits c bounds
  pub most : many c ≡ true → (h : ℕ) → 0 < h → h ≤ c.heads → get_or bounds h 0 < most_members
      → cardinal_of (total c + 1) h links + bit (eqb h k) ≤ get_or bounds h 0

-- a table that spells sets
abbrev pub Linking : Counts → List ℕ → Type 0
Linking c links = (sets : List (List ℕ)) × SpellsSets (total c + 1) c.heads sets links

module _ (c : Counts) (k : ℕ) (links bounds : List ℕ) (v : Covers c k links bounds) where
  -- one that was not made is not counted
  pub covers_less : Covers c 0 links bounds
  covers_less =
      record {
        fits = v.fits;
        most = λ e h a b q. rw (ne_eqb h 0 (λ z. omega arith)) (omega (arith, v.most e h a b q));
      }

-- nothing is entered beside a y that stands in no set
pub covers_none : (c : Counts) (h : ℕ) (links bounds : List ℕ) → h ≡ 0 → Covers c 0 links bounds → Covers c h links bounds
covers_none c h links bounds e v = rw e v

-- where there are not many links, the bounds say nothing at all
pub covers_few : (c : Counts) (h k : ℕ) (links u bounds : List ℕ) → many c ≡ false → Covers c h links bounds → Covers c k u bounds
covers_few c h k links u bounds e v = record { fits = v.fits; most = λ q. clash (sym e ∙ q) }
