-- Laws of putting bytes into a list: the length stays, one run behind another is one run, and stores in a row are a run.
use Rattle.std.specs.Prelude.{ℕ, suc, ◌+◌, ◌≤◌, ◌≡◌, refl, List, [], ◌∷◌, ◌++◌, length, take, drop, set}
use Rattle.std.proofs.Common.{sym, ◌∙◌, ap, append_assoc, arith, add_assoc, length-append, length-take, length-drop, take_at, drop-drop}
use Rattle.std.proofs.Math.Seq.{drop-append-add}
use Rattle.std.proofs.lemmas.List.Edits.{sets-eq}
use Rattle.trace.specs.Lines.{put, bytes4, bytes8, line_bytes}

pub length_put : (s : List ℕ) (i : ℕ) (xs : List ℕ) → i + length xs ≤ length s → length (put s i xs) ≡ length s
unfolding put
length_put s i xs h = simp (length-append, length-take, length-drop) (omega arith)

-- one run behind another is one run
pub put_put : (s : List ℕ) (i : ℕ) (xs ys : List ℕ) → i + length xs ≤ length s
    → put (put s i xs) (i + length xs) ys ≡ put s i (xs ++ ys)
unfolding put
put_put s i xs ys h =
    let head : length (take i s ++ xs) ≡ i + length xs = simp (length-append, length-take) (omega arith) in
    let e : take i s ++ (xs ++ drop (i + length xs) s) ≡ (take i s ++ xs) ++ drop (i + length xs) s =
    sym (append_assoc (take i s) xs (drop (i + length xs) s)) in
    ap (λ (l : List ℕ). take (i + length xs) l ++ (ys ++ drop (i + length xs + length ys) l)) e
    ∙ ap (λ (l : List ℕ). l ++ (ys ++ drop (i + length xs + length ys) ((take i s ++ xs) ++ drop (i + length xs) s)))
    (take_at (take i s ++ xs) (drop (i + length xs) s) (i + length xs) head)
    ∙ ap (λ (l : List ℕ). (take i s ++ xs) ++ (ys ++ l)) (past head)
    ∙ append_assoc (take i s) xs (ys ++ drop (i + length (xs ++ ys)) s)
    ∙ ap (λ (l : List ℕ). take i s ++ l) (sym (append_assoc xs ys (drop (i + length (xs ++ ys)) s)))
  where
    past : length (take i s ++ xs) ≡ i + length xs → drop (i + length xs + length ys) ((take i s ++ xs) ++ drop (i + length xs) s)
        ≡ drop (i + length (xs ++ ys)) s
    past head =
        ap (λ (n : ℕ). drop (n + length ys) ((take i s ++ xs) ++ drop (i + length xs) s)) (sym head)
        ∙ drop-append-add (take i s ++ xs) (drop (i + length xs) s) (length ys)
        ∙ drop-drop (length ys) (i + length xs) s
        ∙ ap (λ (n : ℕ). drop n s) (add_assoc i (length xs) (length ys) ∙ ap (λ (n : ℕ). i + n) (sym (length-append xs ys)))

-- four stores in a row
pub set4 : (s : List ℕ) (i a b c d : ℕ) → i + 4 ≤ length s
    → set (set (set (set s i a) (i + 1) b) (i + 2) c) (i + 3) d ≡ put s i (a ∷ b ∷ c ∷ d ∷ [])
unfolding put
set4 s i a b c d h =
    ap (λ (n : ℕ). set (set (set (set s i a) n b) (i + 2) c) (i + 3) d) (plus i)
    ∙ ap (λ (n : ℕ). set (set (set (set s i a) (suc i) b) n c) (i + 3) d) (plus2 i)
    ∙ ap (λ (n : ℕ). set (set (set (set s i a) (suc i) b) (suc (suc i)) c) n d) (plus3 i)
    ∙ sets-eq (a ∷ b ∷ c ∷ d ∷ []) s i h
    ∙ append_assoc (take i s) (a ∷ b ∷ c ∷ d ∷ []) (drop (i + 4) s)
  where
    plus : (i : ℕ) → i + 1 ≡ suc i
    plus i = omega arith

    plus2 : (i : ℕ) → i + 2 ≡ suc (suc i)
    plus2 i = omega arith

    plus3 : (i : ℕ) → i + 3 ≡ suc (suc (suc i))
    plus3 i = omega arith

pub put_line : (s : List ℕ) (i t p r : ℕ) → i + 16 ≤ length s
    → put (put (put s i (bytes8 t)) (i + 8) (bytes4 p)) (i + 12) (bytes4 r) ≡ put s i (line_bytes t p r)
unfolding line_bytes bytes8 bytes4
put_line s i t p r h =
    ap (λ (n : ℕ). put (put (put s i (bytes8 t)) (i + 8) (bytes4 p)) n (bytes4 r)) (shift i)
    ∙ put_put (put s i (bytes8 t)) (i + 8) (bytes4 p) (bytes4 r) (rw (length_put s i (bytes8 t) (omega arith)) (omega arith))
    ∙ put_put s i (bytes8 t) (bytes4 p ++ bytes4 r) (omega arith)
  where
    shift : (i : ℕ) → i + 12 ≡ i + 8 + 4
    shift i = omega arith

pub length_line : (t p r : ℕ) → length (line_bytes t p r) ≡ 16
unfolding line_bytes bytes8 bytes4
length_line t p r = refl
