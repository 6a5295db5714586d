-- The head of a request, read off its bytes: docs/CALLS.md says what stands where.
use Rattle.std.specs.Prelude.{ℕ, ◌+◌, ◌≡◌, List, ℤ}
use Rattle.model.specs.declared.Counts.{Counts}
use Rattle.words.specs.Words.{u32_at, i64_at}
use Rattle.calls_served.specs.declared.head.Sizes.{Sizes}
use Rattle.calls_served.specs.declared.head.Head.{Head}

abbrev pub sizes_at : List ℕ → ℕ → Sizes
sizes_at s i =
    record {
      links = u32_at s i;
      axis = u32_at s (i + 4);
      times = u32_at s (i + 8);
      marks = u32_at s (i + 12);
      accums = u32_at s (i + 16);
      positions = u32_at s (i + 20);
      sheet = u32_at s (i + 24);
      trace = u32_at s (i + 28);
    }

abbrev pub counts_at : List ℕ → ℕ → Counts
counts_at s i = record { heads = u32_at s i; processes = u32_at s (i + 4); plains = u32_at s (i + 8) }

abbrev pub head_at : List ℕ → ℕ → Head
head_at s i =
    record {
      call = u32_at s i;
      counts = counts_at s (i + 4);
      clause = u32_at s (i + 16);
      x = u32_at s (i + 20);
      y = u32_at s (i + 24);
      t = i64_at s (i + 32);
      sizes = sizes_at s (i + 40);
    }

-- field by field
pub head_is : (s : List ℕ) (i n k x y : ℕ) (c : Counts) (t : ℤ) (z : Sizes) → c ≡ counts_at s (i + 4) → t ≡ i64_at s (i + 32)
    → z ≡ sizes_at s (i + 40)
    → n ≡ u32_at s i → k ≡ u32_at s (i + 16) → x ≡ u32_at s (i + 20) → y ≡ u32_at s (i + 24)
    → record { call = n; counts = c; clause = k; x = x; y = y; t = t; sizes = z } ≡ head_at s i
head_is s i n k x y c t z ec et ez en ek ex ey =
    λ j. record { call = en j; counts = ec j; clause = ek j; x = ex j; y = ey j; t = et j; sizes = ez j }
