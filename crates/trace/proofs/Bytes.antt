-- What the library's bytes of a number and its copy into a part of a slice say, in the words of specs.
use Prim.Native.Nat.{ℕ, ◌+◌, ◌-◌, ◌/◌, ◌%◌, ◌≤◌}
use mathlib.Core.Path.{◌≡◌, refl, ap, ap₂, ◌∙◌}
use mathlib.Core.List.{List, ◌∷◌, [], ◌++◌}
use native.Mathlib.Omega.{arith}
use lib.ListN.{length, take, drop}
use lib.Seq.{drop-drop}
use borrow.Rule.Slice.PartMut.{put_mid}
use Rattle.std.specs.Int.{w32, w64, to_le_bytes}
use Rattle.trace.specs.Lines.{put, bytes4, bytes8, line_bytes}
use Rattle.trace.specs.Put.{put_line}

le4 : (x : ℕ) → to_le_bytes w32 x ≡ bytes4 x
unfolding bytes4
le4 x =
    let two : x / 65536 % 256 ≡ x / 256 / 256 % 256 = omega arith in
    let three : x / 16777216 % 256 ≡ x / 256 / 256 / 256 % 256 = omega arith in
    ap₂ (λ (b c : ℕ). x % 256 ∷ x / 256 % 256 ∷ b ∷ c ∷ []) two three

le8 : (x : ℕ) → to_le_bytes w64 x ≡ bytes8 x
unfolding bytes8
le8 x =
    let low : (x % 256 ∷ x / 256 % 256 ∷ x / 65536 % 256 ∷ x / 16777216 % 256 ∷ []) ≡ to_le_bytes w32 (x % 4294967296) =
    digits (x % 256) _ (x / 256 % 256) _ (x / 65536 % 256) _ (x / 16777216 % 256) _
    (omega arith) (omega arith) (omega arith) (omega arith)
    in
    let high : (x / 4294967296 % 256 ∷ x / 1099511627776 % 256 ∷ x / 281474976710656 % 256 ∷ x / 72057594037927936 % 256 ∷ [])
    ≡ to_le_bytes w32 (x / 4294967296) =
    digits _ _ _ _ _ _ _ _ refl (omega arith) (omega arith) (omega arith)
    in
    ap₂ (λ (a b : List ℕ). a ++ b) (low ∙ le4 (x % 4294967296)) (high ∙ le4 (x / 4294967296))
  where
    digits : (a a' b b' c c' d d' : ℕ) → a ≡ a' → b ≡ b' → c ≡ c' → d ≡ d' → (a ∷ b ∷ c ∷ d ∷ []) ≡ (a' ∷ b' ∷ c' ∷ d' ∷ [])
    digits a a' b b' c c' d d' p q r s = cc

mid : (s : List ℕ) (i k e n : ℕ) (xs : List ℕ) → length xs ≡ n → k ≡ i → e ≡ k + n → put_mid k (e - k) s xs ≡ put s i xs
unfolding put
mid s i k e n xs l f q =
    ap₂ (λ (a : ℕ) (r : List ℕ). take a s ++ (xs ++ r)) f (drop-drop (e - k) k s ∙ ap (λ (a : ℕ). drop a s) (omega (arith, l, f, q)))

module _ (s : List ℕ) (i t p r : ℕ) (a b c : List ℕ) where
  pub line_put : i + 16 ≤ length s → a ≡ to_le_bytes w64 t → b ≡ to_le_bytes w32 p → c ≡ to_le_bytes w32 r
      → put_mid (i + 12) (i + 16 - (i + 12)) (put_mid (i + 8) (i + 12 - (i + 8)) (put_mid i (i + 8 - i) s a) b) c ≡ put s i (line_bytes t p r)
  line_put h ea eb ec =
      mid _ (i + 12) _ (i + 16) 4 c (ap length ec) refl (omega arith)
      ∙ ap₂ (λ (l y : List ℕ). put l (i + 12) y)
      (mid _ (i + 8) _ (i + 12) 4 b (ap length eb) refl (omega arith)
      ∙ ap₂ (λ (l y : List ℕ). put l (i + 8) y) (mid s i i (i + 8) 8 a (ap length ea) refl refl ∙ ap (put s i) (ea ∙ le8 t)) (eb ∙ le4 p))
      (ec ∙ le4 r)
      ∙ put_line s i t p r h
