-- "All fields are little-endian": a line's bytes, and a run of bytes put into a list.
use Rattle.std.specs.Prelude.{ℕ, ◌+◌, ◌/◌, ◌%◌, List, [], ◌∷◌, ◌++◌, length, take, drop}

unfoldable pub bytes4 : ℕ → List ℕ
bytes4 x = (x % 256) ∷ (x / 256 % 256) ∷ (x / 256 / 256 % 256) ∷ (x / 256 / 256 / 256 % 256) ∷ []

unfoldable pub bytes8 : ℕ → List ℕ
bytes8 x = bytes4 (x % 4294967296) ++ bytes4 (x / 4294967296)

-- "An accepted step writes time (64 bits), process (32) and record (32)"
unfoldable pub line_bytes : ℕ → ℕ → ℕ → List ℕ
line_bytes time process rec = bytes8 time ++ (bytes4 process ++ bytes4 rec)

-- the list s with the bytes xs in the place of its own from i on
unfoldable pub put : List ℕ → ℕ → List ℕ → List ℕ
put s i xs = take i s ++ (xs ++ drop (i + length xs) s)
