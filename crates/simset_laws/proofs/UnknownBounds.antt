-- The bounds as a call begins with them: they hold of any table of links.
use Rattle.std.specs.Prelude.{ℕ, ◌<◌, ◌≡◌, List, length, get_or, set, replicate}
use Rattle.std.proofs.Common.{◌∙◌, length-set}
use native.Mathlib.Omega.{arith}
use Rattle.std.proofs.Math.ListN.{length-replicate}
use Rattle.std.proofs.lemmas.List.{get_or-replicate}
use Rattle.std.proofs.Math.Seq.{get_or-set_same, get_or-set_other}
use Rattle.model.specs.declared.Counts.{Counts}
use Rattle.model.specs.Counts.{Allowed, total, most_members}
use Rattle.simset_laws.specs.Full.{free_to, unknown}
use Rattle.simset_laws.specs.BoundLaws.{Covers}

module _ (c : Counts) where
  abbrev none : List ℕ
  none = replicate 66 most_members

  abbrev heads : List ℕ
  heads = set none 0 (free_to c c.heads)

  heads_long : length heads ≡ 66
  heads_long = length-set none 0 (free_to c c.heads) ∙ length-replicate 66 most_members

  long : (n : ℕ) → length (set heads 65 n) ≡ 66
  long n = length-set heads 65 n ∙ heads_long

  says : (h n : ℕ) → 0 < h → h < 65 → get_or (set heads 65 n) h 0 ≡ most_members
  says h n some l =
      get_or-set_other heads 65 h n 0 (λ z. omega arith)
      ∙ get_or-set_other none 0 h _ 0 (λ z. omega arith)
      ∙ get_or-replicate 66 h most_members 0 (omega arith)

  unknown_covers : (links : List ℕ) → Allowed c → Covers c 0 links (unknown c)
  unfolding unknown
  unknown_covers links a =
      record {
        fits = record {
          heads_in = omega (arith, a.heads_in);
          places = omega (arith, long (free_to c (total c)));
          free_heads =
              get_or-set_other heads 65 0 (free_to c (total c)) 0 (λ z. omega arith)
              ∙ get_or-set_same none 0 _ 0 (omega (arith, length-replicate 66 most_members));
          free_linkages = get_or-set_same heads 65 _ 0 (omega (arith, heads_long));
        };
        most = λ e h some b q. absurd (over (says h _ some (omega (arith, a.heads_in))) q);
      }
    where
      over : {n : ℕ} → n ≡ most_members → n < most_members → ⊥
      over e q = omega arith

  pub unknown_length : (bounds : List ℕ) → bounds ≡ unknown c → length bounds ≡ 66
  unfolding unknown
  unknown_length bounds e = rw e (long (free_to c (total c)))

  pub covers_unknown : (links bounds : List ℕ) → bounds ≡ unknown c → Allowed c → Covers c 0 links bounds
  covers_unknown links bounds e a = rw e (unknown_covers links a)
