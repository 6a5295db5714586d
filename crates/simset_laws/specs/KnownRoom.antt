-- Room that is known with no count, by the bound of the set's size: what the quick test of a stretch of turns means.
use Rattle.std.specs.Prelude.{ℕ, ◌≤◌, ◌≡◌, Bool, ◌&&◌, List, get_or, if◌then◌else◌}
use Rattle.std.proofs.Math.Path.{refl}
use Rattle.std.proofs.Common.{sym, ◌∙◌, arith}
use Rattle.std.proofs.Math.Bool.{true, false}
use Rattle.std.proofs.Math.Dec.{leb, ltb}
use Rattle.ring_laws.specs.Lists.{test, clash}
use Rattle.model.specs.declared.Counts.{Counts}
use Rattle.model.specs.Counts.{most_members, is_head, is_link}
use Rattle.simset_laws.specs.Full.{many, full_for, free_to, known_room, raised}
use Rattle.simset_laws.specs.Calls.{or_none}
use Rattle.simset_laws.specs.Promise.{party_fine}
use Rattle.simset_laws.specs.BoundLaws.{Covers}

-- a test of known room, and the bounds after it
pub record Known (c : Counts) (y : ℕ) (bounds now : List ℕ) (got : Bool) : Type 0 where
  pub is : got ≡ known_room c y bounds
  pub bounds_are : now ≡ raised c y bounds

-- of the head whose number was read
pub known_as : (c : Counts) (bounds now : List ℕ) (got : Bool) (y y' : ℕ) → y ≡ y' → Known c y bounds now got → Known c y' bounds now got
known_as c bounds now got y y' e k = rw e at k

-- free heads are heads
pub free_in : (c : Counts) (n : ℕ) → free_to c n ≤ n
free_in c n = go (many c)
  where
    go : (b : Bool) → (if b then 0 else n) ≤ n
    go true = omega arith
    go false = omega arith

-- y is a head or none, and there is no refusal 10 for x beside it
pub record Roomy (c : Counts) (links : List ℕ) (x y : ℕ) : Type 0 where
  pub head : y ≤ c.heads
  pub room : full_for c x y links ≡ false

-- so a link may enter there
pub may_enter : (c : Counts) (links : List ℕ) (x y : ℕ) → is_link c x ≡ true → Roomy c links x y
    → (is_link c x && or_none (is_head c y) y) ≡ true
may_enter c links x y e r = rw (e, party_fine c.heads y r.head)

-- a call that is left, since room is not known, has nothing raised
pub left_covers : (c : Counts) (y : ℕ) (links bounds now : List ℕ) (got : Bool) → Covers c 0 links bounds → Known c y bounds now got
    → got ≡ false → Covers c 0 links now
unfolding known_room raised
left_covers c y links bounds now got v k n =
    rw k.bounds_are
    (test (leb y (free_to c c.heads))
    (λ a. let z : false ≡ true = sym n ∙ k.is ∙ rw a refl in clash z)
    (λ a. test (leb y c.heads)
    (λ b. test (ltb (get_or bounds y 0) most_members)
    (λ d. let z : false ≡ true = sym n ∙ k.is ∙ rw (a, b, d) refl in clash z)
    (λ d. rw (a, b, d) v))
    (λ b. rw (a, b) v)))
