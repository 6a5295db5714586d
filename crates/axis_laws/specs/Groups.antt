-- The time axis as groups: for each distinct time the processes due then, by their places, the first of them apart. Here a notice's who is a place.
use Rattle.std.specs.Prelude.{ℕ, ◌<◌, ◌≤◌, ◌≡◌, refl, List, [], ◌∷◌, ◌++◌, eqb, if◌then◌else◌}
use Rattle.std.proofs.Common.{ap, ◌∙◌, arith, eq-eqb, ne_eqb}
use Rattle.ring_laws.specs.Lists.{decide}
use Rattle.axis_laws.specs.Notices.{Notice, whos, From, InOrder}

pub record Group : Type 0 where
  pub due : ℕ
  pub leader : ℕ
  pub others : List ℕ

abbrev pub notice : ℕ → ℕ → Notice
notice x u = record { who = x; due = u }

abbrev pub group : ℕ → ℕ → List ℕ → Group
group u x l = record { due = u; leader = x; others = l }

-- these places, all due at u
abbrev pub together : ℕ → List ℕ → List Notice
together u [] = []
together u (x ∷ l) = notice x u ∷ together u l

-- "Spelled out chain after chain"
abbrev pub spelled_out : List Group → List Notice
spelled_out [] = []
spelled_out (g ∷ gs) = notice g.leader g.due ∷ (together g.due g.others ++ spelled_out gs)

-- the places of all, in order
abbrev pub members : List Group → List ℕ
members [] = []
members (g ∷ gs) = g.leader ∷ (g.others ++ members gs)

-- "the first process of each time", with its time, and alone
abbrev pub leading : List Group → List Notice
leading [] = []
leading (g ∷ gs) = notice g.leader g.due ∷ leading gs

abbrev pub leaders : List Group → List ℕ
leaders [] = []
leaders (g ∷ gs) = g.leader ∷ leaders gs

-- "distinct time": times rise strictly from group to group
abbrev pub Above : ℕ → List Group → Type 0
Above t [] = Unit {0}
Above t (g ∷ gs) = (t < g.due) × Above t gs

abbrev pub Rising : List Group → Type 0
Rising [] = Unit {0}
Rising (g ∷ gs) = Above g.due gs × Rising gs

-- ---- the groups of a list of notices

-- n put in front of groups: into the first of them where that has its time
abbrev pub led : Notice → List Group → List Group
led n [] = group n.due n.who [] ∷ []
led n (g ∷ gs) =
    if eqb g.due n.due then group n.due n.who (g.leader ∷ g.others) ∷ gs else group n.due n.who [] ∷ g ∷ gs

abbrev pub groups_of : List Notice → List Group
groups_of [] = []
groups_of (n ∷ ns) = led n (groups_of ns)

-- ---- places

pub whos_together : (u : ℕ) (l : List ℕ) (ns : List Notice) → whos (together u l ++ ns) ≡ l ++ whos ns
whos_together u [] ns = refl
whos_together u (x ∷ l) ns = ap (λ (r : List ℕ). x ∷ r) (whos_together u l ns)

pub members_are : (gs : List Group) → whos (spelled_out gs) ≡ members gs
members_are [] = refl
members_are (g ∷ gs) =
    ap (λ (r : List ℕ). g.leader ∷ r)
    (whos_together g.due g.others (spelled_out gs) ∙ ap (λ (r : List ℕ). g.others ++ r) (members_are gs))

pub leaders_are : (gs : List Group) → whos (leading gs) ≡ leaders gs
leaders_are [] = refl
leaders_are (g ∷ gs) = ap (λ (r : List ℕ). g.leader ∷ r) (leaders_are gs)

-- ---- grouped and spelled out again, a list is itself

led_out : (n : Notice) (gs : List Group) → spelled_out (led n gs) ≡ n ∷ spelled_out gs
led_out n [] = refl
led_out n (g ∷ gs) =
    decide g.due n.due
    (λ e. rw (eq-eqb g.due n.due e, e))
    (λ d. rw (ne_eqb g.due n.due d))

pub grouped_out : (ns : List Notice) → spelled_out (groups_of ns) ≡ ns
grouped_out [] = refl
grouped_out (n ∷ ns) = led_out n (groups_of ns) ∙ ap (λ (l : List Notice). n ∷ l) (grouped_out ns)

-- in order, its groups rise
above_less : (t u : ℕ) (gs : List Group) → t ≤ u → Above u gs → Above t gs
above_less t u [] l a = tt
above_less t u (g ∷ gs) l a = (omega (arith, a.0), above_less t u gs l a.1)

-- no group is due before t
abbrev pub NotBefore : ℕ → List Group → Type 0
NotBefore t [] = Unit {0}
NotBefore t (g ∷ gs) = t ≤ g.due

led_from : (t : ℕ) (n : Notice) (gs : List Group) → t ≤ n.due → NotBefore t (led n gs)
led_from t n [] l = l
led_from t n (g ∷ gs) l =
    decide g.due n.due
    (λ e. rw (eq-eqb g.due n.due e) l)
    (λ d. rw (ne_eqb g.due n.due d) l)

grouped_from : (t : ℕ) (ns : List Notice) → From t ns → NotBefore t (groups_of ns)
grouped_from t [] f = tt
grouped_from t (n ∷ ns) f = led_from t n (groups_of ns) f.0

led_rising : (n : Notice) (gs : List Group) → NotBefore n.due gs → Rising gs → Rising (led n gs)
led_rising n [] f r = (tt, tt)
led_rising n (g ∷ gs) f r =
    decide g.due n.due
    (λ e. rw (eq-eqb g.due n.due e) (above_less n.due g.due gs (omega arith) r.0, r.1))
    (λ d. rw (ne_eqb g.due n.due d) ((omega arith, above_less n.due g.due gs f r.0), r))

pub grouped_rising : (ns : List Notice) → InOrder ns → Rising (groups_of ns)
grouped_rising [] o = tt
grouped_rising (n ∷ ns) o = led_rising n (groups_of ns) (grouped_from n.due ns o.0) (grouped_rising ns o.1)

-- ---- spelled out and grouped again, rising groups are themselves: so they are the only groups of their list

led_one : (u x : ℕ) (gs : List Group) → Above u gs → led (notice x u) gs ≡ group u x [] ∷ gs
led_one u x [] a = refl
led_one u x (g ∷ gs) a = rw (ne_eqb g.due u (λ e. omega (arith, a.0)))

led_all : (u x : ℕ) (l : List ℕ) (ns : List Notice) (gs : List Group) → Above u gs → groups_of ns ≡ gs → groups_of (notice x u ∷ (together u l ++ ns)) ≡ group u x l ∷ gs
led_all u x [] ns gs a e = rw e (led_one u x gs a)
led_all u x (y ∷ l) ns gs a e = rw (led_all u y l ns gs a e, eq-eqb u u refl)

pub out_grouped : (gs : List Group) → Rising gs → groups_of (spelled_out gs) ≡ gs
out_grouped [] r = refl
out_grouped (g ∷ gs) r = led_all g.due g.leader g.others (spelled_out gs) gs r.0 (out_grouped gs r.1)

-- ---- rising groups spell out a list in order

from_all : (t u : ℕ) (l : List ℕ) (ns : List Notice) → t ≤ u → From t ns → From t (together u l ++ ns)
from_all t u [] ns h f = f
from_all t u (x ∷ l) ns h f = (h, from_all t u l ns h f)

above_from : (t : ℕ) (gs : List Group) → Above t gs → From t (spelled_out gs)
above_from t [] a = tt
above_from t (g ∷ gs) a = (omega (arith, a.0), from_all t g.due g.others (spelled_out gs) (omega (arith, a.0)) (above_from t gs a.1))

order_all : (u : ℕ) (l : List ℕ) (ns : List Notice) → From u ns → InOrder ns → InOrder (together u l ++ ns)
order_all u [] ns f o = o
order_all u (x ∷ l) ns f o = (from_all u u l ns (omega arith) f, order_all u l ns f o)

pub out_in_order : (gs : List Group) → Rising gs → InOrder (spelled_out gs)
out_in_order [] r = tt
out_in_order (g ∷ gs) r =
    order_all g.due (g.leader ∷ g.others) (spelled_out gs) (above_from g.due gs r.0) (out_in_order gs r.1)
