-- Request 2.5 on a table of links: is a set full for a link that would enter it? m is N + 1, and the heads are 1 .. H.
use Rattle.std.specs.Prelude.{ℕ, ◌+◌, Bool, true, false, not, List, eqb, leb, ltb, get_or, set, replicate, if◌then◌else◌}
use Rattle.model.specs.declared.Counts.{Counts}
use Rattle.model.specs.Counts.{total, most_members}
use Rattle.simset_laws.specs.Procedures.{cardinal_of}
use Rattle.simset_laws.specs.Walk.{head_at}

-- the head of the set that y heads or stands in, none where it stands in none
unfoldable pub set_at : ℕ → ℕ → ℕ → List ℕ → ℕ
set_at m H y t = if leb y H then y else head_at m H y t

-- the set of head h is full for x: it has 512 members or more, and x, which "does not count twice", is none of them
unfoldable pub full_at : ℕ → ℕ → ℕ → ℕ → List ℕ → Bool
full_at m H x h t = if ltb (cardinal_of m h t) most_members then false else not (eqb (head_at m H x t) h)

-- there are more links than a set may have members; if not, no set is ever full for one that is not in it
abbrev pub many : Counts → Bool
many c = ltb most_members (c.processes + c.plains)

-- the set in which x would stand beside y is full for it
unfoldable pub full_for : Counts → ℕ → ℕ → List ℕ → Bool
full_for c x y t =
    let m = total c + 1 in
    let h = set_at m c.heads y t in
    if many c then (if eqb h 0 then false else full_at m c.heads x h t) else false

-- ---- with bounds of the sets' sizes beside the table, one for each head

-- of the linkages up to n, those beside which no set is ever full: all, where there are not many links
abbrev pub free_to : Counts → ℕ → ℕ
free_to c n = if many c then 0 else n

-- y is none or a head, and its set is known to have room for one more, with no count
unfoldable pub known_room : Counts → ℕ → List ℕ → Bool
known_room c y bounds =
    if leb y (free_to c c.heads) then true else (if leb y c.heads then ltb (get_or bounds y 0) most_members else false)

-- its bound with one more
abbrev pub one_more : ℕ → List ℕ → List ℕ
one_more y bounds = if ltb (get_or bounds y 0) most_members then set bounds y (get_or bounds y 0 + 1) else bounds

unfoldable pub raised : Counts → ℕ → List ℕ → List ℕ
raised c y bounds = if leb y (free_to c c.heads) then bounds else (if leb y c.heads then one_more y bounds else bounds)

-- as they are when a call begins: none is known. Places 0 and 65, which no head has, tell the free heads and the free linkages
unfoldable pub unknown : Counts → List ℕ
unknown c = set (set (replicate 66 most_members) 0 (free_to c c.heads)) 65 (free_to c (total c))
