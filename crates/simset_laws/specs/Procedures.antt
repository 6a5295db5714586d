-- Chapter 14's procedures of SIMSET, statement by statement, on the table of links; the set calls' promises cite them, so that demand 2 is
-- read here and, for what they do to the lists, in Meaning.antt. m is N + 1, and links are the places above H. Out is rings' `unlinked`.
use Rattle.std.specs.Prelude.{ℕ, zero, suc, ◌+◌, Bool, List, eqb, leb, get_or, if◌then◌else◌}
use Rattle.ring_laws.specs.Table.{unlinked, linked_behind, linked_before, counted}

-- procedure follow(X): "if X ≠ none then begin if X.SUC ≠ none then begin PRED :- X; SUC :- X.SUC; SUC.PRED :- X.SUC :- this linkage"
unfoldable pub follow_on : ℕ → ℕ → ℕ → List ℕ → List ℕ
follow_on m x y t = if eqb y 0 then t else (if eqb (get_or t y 0) 0 then t else linked_behind m x y t)

-- "procedure follow(X); ref (linkage)X; begin out"
unfoldable pub followed : ℕ → ℕ → ℕ → List ℕ → List ℕ
followed m x y t = follow_on m x y (unlinked m x t)

-- procedure precede(X): "if X ≠ none then begin if X.SUC ≠ none then begin SUC :- X; PRED :- X.PRED; PRED.SUC :- X.PRED :- this linkage"
unfoldable pub precede_on : ℕ → ℕ → ℕ → List ℕ → List ℕ
precede_on m x y t = if eqb y 0 then t else (if eqb (get_or t y 0) 0 then t else linked_before m x y t)

-- "procedure precede(X); ref (linkage)X; begin out"; "procedure into(S); ref (head)S; precede (S)"
unfoldable pub preceded : ℕ → ℕ → ℕ → List ℕ → List ℕ
preceded m x y t = precede_on m x y (unlinked m x t)

-- procedure clear, whose printed body is damaged: it "may be used to remove all members from the set"; the first goes out, at most k times
unfoldable pub clearing : ℕ → ℕ → ℕ → List ℕ → List ℕ
clearing m h zero t = t
clearing m h (suc k) t = if eqb (get_or t h 0) h then t else clearing m h k (unlinked m (get_or t h 0) t)

unfoldable pub cleared : ℕ → ℕ → List ℕ → List ℕ
cleared m h t = clearing m h m t

-- "suc :- if SUC in link then SUC else none"
unfoldable pub link_or : ℕ → ℕ → ℕ
link_or H v = if leb v H then 0 else v

-- first is the suc of a head, last its pred
abbrev pub suc_of : ℕ → ℕ → List ℕ → ℕ
suc_of H x t = link_or H (get_or t x 0)

abbrev pub pred_of : ℕ → ℕ → ℕ → List ℕ → ℕ
pred_of H m x t = link_or H (get_or t (m + x) 0)

-- "empty := SUC == this linkage"
abbrev pub empty_of : ℕ → List ℕ → Bool
empty_of h t = eqb (get_or t h 0) h

-- cardinal: "may be used to count the number of members in a set"
abbrev pub cardinal_of : ℕ → ℕ → List ℕ → ℕ
cardinal_of m h t = counted m h t
