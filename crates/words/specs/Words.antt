-- "All fields are little-endian": the words in a list of bytes.
use Rattle.std.specs.Prelude.{ℕ, ◌+◌, ◌*◌, List, get_or, ℤ}
use Rattle.std.specs.Int.{w64}
use Rattle.std.proofs.Common.{to_z}

-- the byte at i
abbrev pub u8_at : List ℕ → ℕ → ℕ
u8_at s i = get_or s i 0

-- the 32 bits at i, the lowest byte first
unfoldable pub u32_at : List ℕ → ℕ → ℕ
u32_at s i = u8_at s i + 256 * (u8_at s (i + 1) + 256 * (u8_at s (i + 2) + 256 * u8_at s (i + 3)))

-- the 64 bits at i, the lower word first
unfoldable pub u64_at : List ℕ → ℕ → ℕ
u64_at s i = u32_at s i + 4294967296 * u32_at s (i + 4)

-- the signed number of 64 bits at i
unfoldable pub i64_at : List ℕ → ℕ → ℤ
i64_at s i = to_z w64 (u64_at s i)
