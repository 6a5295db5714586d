-- The set operations on plain lists, one list of links for each head: what the set calls mean.
use Rattle.std.specs.Prelude.{ℕ, suc, ◌-◌, Bool, true, false, ◌||◌, List, [], ◌∷◌, ◌++◌, map, eqb, ltb, length, set, if◌then◌else◌}
use Rattle.ring_laws.specs.Lists.{without, behind, ahead}
use Rattle.ring_laws.specs.Tabulate.{has}
use Rattle.model.specs.Counts.{most_members}

-- f done to each list, with the number of its head; the list of head 1 comes first
abbrev pub each_set : (ℕ → List ℕ → List ℕ) → ℕ → List (List ℕ) → List (List ℕ)
each_set f h [] = []
each_set f h (l ∷ ls) = f h l ∷ each_set f (suc h) ls

-- "Out takes x from its list"
abbrev pub out_sets : ℕ → List (List ℕ) → List (List ℕ)
out_sets x sets = map (without x) sets

-- ".. then put x right behind .. y if y is then in a list or, where y is a head, first .. in its list"
abbrev pub put_behind : ℕ → ℕ → List (List ℕ) → List (List ℕ)
put_behind x y sets = each_set (λ h l. behind y x h l) 1 sets

-- ".. or in front of y if y is then in a list or, where y is a head, .. last in its list"
abbrev pub put_ahead : ℕ → ℕ → List (List ℕ) → List (List ℕ)
put_ahead x y sets = each_set (λ h l. ahead y x l h) 1 sets

-- "Follow and precede do so, then put x .."
abbrev pub follow_sets : ℕ → ℕ → List (List ℕ) → List (List ℕ)
follow_sets x y sets = put_behind x y (out_sets x sets)

abbrev pub precede_sets : ℕ → ℕ → List (List ℕ) → List (List ℕ)
precede_sets x y sets = put_ahead x y (out_sets x sets)

-- "Clear empties a list"
abbrev pub clear_sets : ℕ → List (List ℕ) → List (List ℕ)
clear_sets h sets = set sets (h - 1) []

-- does some set have more members than a set may have?
abbrev pub exceeds : List (List ℕ) → Bool
exceeds [] = false
exceeds (l ∷ ls) = ltb most_members (length l) || exceeds ls

-- ---- what the queries tell

-- the one that comes right after x in a list, none where x is the last or not there
abbrev pub next_in : ℕ → List ℕ → ℕ
next_in x [] = 0
next_in x (y ∷ []) = 0
next_in x (y ∷ z ∷ l) = if eqb y x then z else next_in x (z ∷ l)

-- the one that comes right before x in a list, none where x is the first or not there
abbrev pub prev_in : ℕ → List ℕ → ℕ
prev_in x [] = 0
prev_in x (y ∷ []) = 0
prev_in x (y ∷ z ∷ l) = if eqb z x then y else prev_in x (z ∷ l)

-- f at the list that x heads or stands in, none where there is no such list; h is the number of the first list's head
abbrev pub where_in : (ℕ → List ℕ → ℕ) → ℕ → ℕ → List (List ℕ) → ℕ
where_in f x h [] = 0
where_in f x h (l ∷ ls) = if has x (h ∷ l) then f h l else where_in f x (suc h) ls

-- the link after x, the first for a head; the link before x, the last for a head
abbrev pub suc_sets : ℕ → List (List ℕ) → ℕ
suc_sets x sets = where_in (λ h l. next_in x (h ∷ l)) x 1 sets

abbrev pub pred_sets : ℕ → List (List ℕ) → ℕ
pred_sets x sets = where_in (λ h l. prev_in x (l ++ (h ∷ []))) x 1 sets

abbrev pub no_links : List ℕ → Bool
no_links [] = true
no_links (x ∷ l) = false
