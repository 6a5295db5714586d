-- Bounds of the sets' sizes, kept beside a table of links, so that a call that enters a set need not count it: a bound below 512 is at
-- least the size of its head's set, and one of 512 says nothing.
use Rattle.std.specs.Prelude.{ℕ, ◌+◌, ◌<◌, ◌≤◌, ◌≡◌, ◌≢◌, true, List, ◌∷◌, eqb, length, get_or, set}
use Rattle.std.proofs.Common.{sym, ap, ◌∙◌, arith, get_or-set_same, get_or-set_other, eq-eqb, ne_eqb}
use Rattle.ring_laws.specs.Lists.{decide, inside}
use Rattle.ring_laws.specs.Tabulate.{bit}
use Rattle.ring_laws.specs.Rings.{Head, Link}
use Rattle.ring_laws.specs.Table.{unlinked}
use Rattle.model.specs.declared.Counts.{Counts}
use Rattle.model.specs.Counts.{total, most_members, is_link}
use Rattle.model_laws.specs.Tables.{set_head, members_of, SpellsSets}
use Rattle.simset_laws.specs.Sets.{each_set, out_sets}
use Rattle.simset_laws.specs.Procedures.{followed, preceded, cardinal_of, cleared}
use Rattle.simset_laws.specs.Full.{many, set_at}
use Rattle.simset_laws.specs.SizeLaws.{Puts, puts_behind, puts_ahead, out_few, clear_few}
use Rattle.simset_laws.specs.Laws.{set_head_lem, sets_out}
use Rattle.simset_laws.proofs.Laws.{sets_followed, sets_preceded}
use Rattle.simset_laws.proofs.ClearLaw.{sets_cleared}
use Rattle.simset_laws.specs.QueryLaws.{found, cardinal_says}
use Rattle.simset_laws.proofs.FullLaws.{set_says, elsewhere, one_at_most}
use Rattle.simset_laws.specs.Meaning.{link_of}
use Rattle.simset_laws.specs.BoundLaws.{fits_set, Covers, Linking}

-- ---- before an entry into the set of head h

module _ (c : Counts) (links bounds : List ℕ) (v : Covers c 0 links bounds) (h : ℕ) (some : 0 < h) (in-heads : h ≤ c.heads) where
  -- the bound n + 1 is set, where the set has at most n
  pub covers_one : (n : ℕ) → (many c ≡ true → cardinal_of (total c + 1) h links ≤ n) → Covers c h links (set bounds h (n + 1))
  covers_one n few =
      record {
        fits = fits_set c bounds v.fits h (n + 1) some in-heads;
        most = λ e g a b. decide g h (here e g) (there e g a b);
      }
    where
      here : many c ≡ true → (g : ℕ) → g ≡ h → get_or (set bounds h (n + 1)) g 0 < most_members
          → cardinal_of (total c + 1) g links + bit (eqb g h) ≤ get_or (set bounds h (n + 1)) g 0
      here e g is q =
          rw (is, eq-eqb h h (sym is ∙ is), get_or-set_same bounds h (n + 1) 0 (omega (arith, v.fits.places, v.fits.heads_in)))
          (omega (arith, few e))

      there : many c ≡ true → (g : ℕ) → 0 < g → g ≤ c.heads → g ≢ h → get_or (set bounds h (n + 1)) g 0 < most_members
          → cardinal_of (total c + 1) g links + bit (eqb g h) ≤ get_or (set bounds h (n + 1)) g 0
      there e g a b isn't q =
          let same : get_or (set bounds h (n + 1)) g 0 ≡ get_or bounds g 0 = get_or-set_other bounds h g (n + 1) 0 isn't in
          let old = v.most e g a b (omega (arith, same)) in
          rw (ne_eqb g h isn't, same) (omega (arith, old))

  -- the bound stays at 512 or above
  pub covers_same : most_members ≤ get_or bounds h 0 → Covers c h links bounds
  covers_same l =
      record {
        fits = v.fits;
        most = λ e g a b q.
            decide g h
            (λ is. absurd (over (ap (λ (j : ℕ). get_or bounds j 0) is) q))
            (λ isn't. rw (ne_eqb g h isn't) (omega (arith, v.most e g a b q)));
      }
    where
      over : {n : ℕ} → n ≡ get_or bounds h 0 → n < most_members → ⊥
      over e q = omega arith

-- ---- after a call

module _ (c : Counts) (sets : List (List ℕ)) (links bounds : List ℕ) (s : SpellsSets (total c + 1) c.heads sets links) where
  abbrev m : ℕ
  m = total c + 1

  b : c.heads < m
  b = omega arith

  size : (g : ℕ) → 0 < g → g ≤ c.heads → cardinal_of m g links ≡ length (members_of sets g)
  size g a l = cardinal_says m c.heads sets links s b g (set_head_lem m c.heads g a l b)

  -- a call after which no set has more
  smaller : (k : List (List ℕ)) (u : List ℕ) → SpellsSets m c.heads k u
      → ((g : ℕ) → length (members_of k g) ≤ length (members_of sets g)) → Covers c 0 links bounds → Covers c 0 u bounds
  smaller k u w few v =
      record {
        fits = v.fits;
        most = λ e g a l q.
            omega (
              arith,
              cardinal_says m c.heads k u w b g (set_head_lem m c.heads g a l b),
              few g,
              size g a l,
              v.most e g a l q,
            );
      }

  pub covers_out : (x : ℕ) → Link m (set_head c.heads) x → Covers c 0 links bounds → Covers c 0 (unlinked m x links) bounds
  covers_out x lx = smaller (out_sets x sets) (unlinked m x links) (sets_out m c.heads sets links s x lx) (out_few x sets)

  pub covers_clear : (h : ℕ) → Head m (set_head c.heads) h → Covers c 0 links bounds → Covers c 0 (cleared m h links) bounds
  covers_clear h a =
      smaller _ (cleared m h links) (sets_cleared m c.heads sets links s b h a) (clear_few h sets)

  -- x was put beside y
  pub covers_put : (x y : ℕ) → Link m (set_head c.heads) x → y < m → (f : ℕ → List ℕ → List ℕ) → Puts y f → (u : List ℕ)
      → SpellsSets m c.heads (each_set f 1 (out_sets x sets)) u → Covers c (set_at m c.heads y links) links bounds → Covers c 0 u bounds
  covers_put x y lx ly f p u w v =
      record {
        fits = v.fits;
        most = λ e g a l q.
            let head : Head m (set_head c.heads) g = set_head_lem m c.heads g a l b in
            let old = v.most e g a l q in
            let now : cardinal_of m g u ≡ length (members_of (each_set f 1 (out_sets x sets)) g) = cardinal_says m c.heads _ u w b g head in
            rw (ne_eqb g 0 (λ z. omega arith))
            (inside y (g ∷ members_of sets g)
            (λ i.
            let is : g ≡ set_at m c.heads y links =
            sym (set_says m c.heads sets links s b y ly ∙ found m c.heads sets links s b (λ j n. j) y g head i) in
            omega (arith, now, one_at_most m c.heads sets links s b x lx y ly f p g head, size g a l, rw (eq-eqb g _ is) at old))
            (λ n. omega (arith, now, elsewhere m c.heads sets links s b x lx y ly f p g head n, size g a l, old)));
      }

-- the two ways of putting
module _ (c : Counts) (x y : ℕ) (links bounds : List ℕ) (k : is_link c x ≡ true) (ly : y < total c + 1)
    (v : Covers c (set_at (total c + 1) c.heads y links) links bounds) where
  heads_in : c.heads < total c + 1
  heads_in = omega arith

  pub covers_followed : (u : List ℕ) → u ≡ followed (total c + 1) x y links → Linking c links → Covers c 0 u bounds
  covers_followed u e (sets, s) =
      covers_put c sets links bounds s x y (link_of c x k) ly _ (puts_behind x y) u
      (rw e (sets_followed (total c + 1) c.heads sets links s heads_in x (link_of c x k) y ly)) v

  pub covers_preceded : (u : List ℕ) → u ≡ preceded (total c + 1) x y links → Linking c links → Covers c 0 u bounds
  covers_preceded u e (sets, s) =
      covers_put c sets links bounds s x y (link_of c x k) ly _ (puts_ahead x y) u
      (rw e (sets_preceded (total c + 1) c.heads sets links s heads_in x (link_of c x k) y ly)) v
