-- The sequencing operations on a plain list of notices: the sequencing set in order, current's notice first.
use Rattle.std.specs.Prelude.{ℕ, Bool, true, false, List, [], ◌∷◌, leb, ltb, eqb, if◌then◌else◌}
use Rattle.axis_laws.specs.Notices.{Notice}

-- behind all of equal or smaller time
abbrev pub behind_all : Notice → List Notice → List Notice
behind_all n [] = n ∷ []
behind_all n (k ∷ ks) = if leb k.due n.due then k ∷ behind_all n ks else n ∷ k ∷ ks

-- in front of all from its time on
abbrev pub front_all : Notice → List Notice → List Notice
front_all n [] = n ∷ []
front_all n (k ∷ ks) = if ltb k.due n.due then k ∷ front_all n ks else n ∷ k ∷ ks

-- right before y's notice, right after it; if y has none, it is left out
abbrev pub before : ℕ → Notice → List Notice → List Notice
before y n [] = []
before y n (k ∷ ks) = if eqb k.who y then n ∷ k ∷ ks else k ∷ before y n ks

abbrev pub after : ℕ → Notice → List Notice → List Notice
after y n [] = []
after y n (k ∷ ks) = if eqb k.who y then k ∷ n ∷ ks else k ∷ after y n ks

-- x's notice deleted
abbrev pub dropped : ℕ → List Notice → List Notice
dropped x [] = []
dropped x (k ∷ ks) = if eqb k.who x then dropped x ks else k ∷ dropped x ks

-- has x a notice?
abbrev pub has_notice : ℕ → List Notice → Bool
has_notice x [] = false
has_notice x (k ∷ ks) = if eqb k.who x then true else has_notice x ks

-- all notices but the first
abbrev pub rest : List Notice → List Notice
rest [] = []
rest (n ∷ ns) = ns

-- the process of the notice after x's, none where x's is the last
abbrev pub next_after : ℕ → List Notice → ℕ
next_after x [] = 0
next_after x (k ∷ []) = 0
next_after x (k ∷ j ∷ js) = if eqb k.who x then j.who else next_after x (j ∷ js)
