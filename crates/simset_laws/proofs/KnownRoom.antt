-- Room that is known with no count, by the bound of the set's size: what the quick test of a stretch of turns means.
use Rattle.std.specs.Prelude.{ℕ, ◌+◌, ◌<◌, ◌≤◌, ◌≡◌, ◌&&◌, List, get_or, set, if◌then◌else◌}
use Rattle.std.proofs.Math.Path.{refl, ap}
use Rattle.std.proofs.Common.{sym, ◌∙◌, arith}
use Rattle.std.proofs.Math.Bool.{true, false}
use Rattle.std.proofs.Math.Dec.{leb, ltb}
use borrow.Author.Tests.{ne_eqb, le-leb, lt-leb, leb-true, leb-false, le-ltb, lt-ltb, ltb-true}
use Rattle.ring_laws.specs.Lists.{test, clash}
use Rattle.model.specs.declared.Counts.{Counts}
use Rattle.model.specs.Counts.{total, most_members, is_head, is_link}
use Rattle.simset_laws.specs.Procedures.{preceded, cardinal_of}
use Rattle.simset_laws.specs.Full.{set_at, full_at, many, full_for, free_to, known_room, one_more, raised}
use Rattle.simset_laws.specs.Calls.{Linked, entered_if, or_none, into_step}
use Rattle.simset_laws.specs.Promise.{Moved, party_fine}
use Rattle.simset_laws.specs.BoundLaws.{Covers, Linking, covers_less, covers_none, covers_few}
use Rattle.simset_laws.proofs.BoundLaws.{covers_one, covers_preceded}
use Rattle.simset_laws.specs.KnownRoom.{Known, free_in, Roomy}

module _ (c : Counts) (y : ℕ) (bounds : List ℕ) where
  pub known_free : y ≤ free_to c c.heads → Known c y bounds bounds true
  unfolding known_room raised
  known_free l = let f : leb y (free_to c c.heads) ≡ true = le-leb _ _ l in record { is = rw f; bounds_are = rw f }

  -- y is no head
  pub known_other : c.heads < y → Known c y bounds bounds false
  unfolding known_room raised
  known_other l =
      let f : leb y (free_to c c.heads) ≡ false = lt-leb y (free_to c c.heads) (omega (arith, free_in c c.heads)) in
      let g : leb y c.heads ≡ false = lt-leb _ _ l in
      record { is = rw (f, g); bounds_are = rw (f, g) }

  module _ (past : free_to c c.heads < y) (head : y ≤ c.heads) (i : ℕ) (iy : i ≡ y) where
    f : leb y (free_to c c.heads) ≡ false
    f = lt-leb _ _ past

    g : leb y c.heads ≡ true
    g = le-leb _ _ head

    pub known_yes : get_or bounds i 0 < most_members → Known c y bounds (set bounds i (get_or bounds i 0 + 1)) true
    unfolding known_room raised
    known_yes l =
        let m : ltb (get_or bounds y 0) most_members ≡ true = lt-ltb _ _ (rw iy at l) in
        record { is = rw (f, g, m); bounds_are = rw (f, g, m, iy) }

    pub known_no : most_members ≤ get_or bounds i 0 → Known c y bounds bounds false
    unfolding known_room raised
    known_no l =
        let m : ltb (get_or bounds y 0) most_members ≡ false = le-ltb _ _ (rw iy at l) in
        record { is = rw (f, g, m); bounds_are = rw (f, g, m) }

-- what a known room means: no refusal 10, and bounds that hold after the entry
module _ (c : Counts) (y : ℕ) (links bounds : List ℕ) (v : Covers c 0 links bounds) (known : known_room c y bounds ≡ true) where
  -- y is free, or the head of a set with room
  by_bound : (A : Type 0) → (y ≤ free_to c c.heads → A) → (free_to c c.heads < y → y ≤ c.heads → get_or bounds y 0 < most_members → A) → A
  unfolding known_room
  by_bound A free head =
      test (leb y (free_to c c.heads))
      (λ a. free (leb-true _ _ a))
      (λ a. test (leb y c.heads)
      (λ b. head (leb-false _ _ a) (leb-true _ _ b) (ltb-true _ _ (rw (a, b) at known)))
      (λ b. let z : false ≡ true = rw (a, b) at known in clash z))

  pub known_head : y ≤ c.heads
  known_head = by_bound (y ≤ c.heads) (λ l. omega (arith, l, free_in c c.heads)) (λ a b l. b)

  -- of many links, y is none, or the head of a set that its bound covers
  by_size : many c ≡ true → (A : Type 0) → (y ≡ 0 → A)
      → (0 < y → y ≤ c.heads → get_or bounds y 0 < most_members → cardinal_of (total c + 1) y links ≤ get_or bounds y 0 → A) → A
  by_size ma A none head =
      let z : free_to c c.heads ≡ 0 = rw ma in
      by_bound A (λ l. none (omega (arith, l, z))) (λ a b l.
      let most = v.most ma y (omega (arith, a)) b l in
      head (omega (arith, a)) b l (omega (arith, most)))

  pub has_room : (x : ℕ) → Roomy c links x y
  unfolding full_for full_at set_at
  has_room x = record { head = known_head; room = test (many c) go (λ ma. rw ma) }
    where
      go : many c ≡ true → full_for c x y links ≡ false
      go ma =
          by_size ma (full_for c x y links ≡ false)
          (λ z. rw (ma, z, le-leb 0 c.heads (omega arith)))
          (λ some b l n.
          rw (
            ma,
            le-leb y c.heads b,
            ne_eqb y 0 (λ z. omega (arith, some)),
            lt-ltb (cardinal_of (total c + 1) y links) most_members (omega (arith, l, n)),
          ))

  pub room_raised : Covers c (set_at (total c + 1) c.heads y links) links (raised c y bounds)
  unfolding raised set_at
  room_raised =
      rw (le-leb y c.heads known_head) (test (many c) go few)
    where
      few : many c ≡ false → Covers c y links (if leb y (free_to c c.heads) then bounds else one_more y bounds)
      few ma = rw (ma, le-leb y c.heads known_head) (covers_few c 0 y links links bounds ma v)

      go : many c ≡ true → Covers c y links (if leb y (free_to c c.heads) then bounds else one_more y bounds)
      go ma =
          by_size ma _
          (λ z. rw (ma, z) (covers_none c 0 links bounds refl v))
          (λ some b l n.
          rw (ma, lt-leb y 0 some, lt-ltb _ _ l) (covers_one c links bounds v y some b (get_or bounds y 0) (λ q. n)))

  -- ---- the bounds after a call whose set has known room, refused or done

  pub raised_covers : Covers c 0 links (raised c y bounds)
  raised_covers = covers_less c _ links (raised c y bounds) room_raised

  -- z is the operand that stands for y
  pub into_covers : (now : List ℕ) → now ≡ raised c y bounds → (x z : ℕ) → y ≡ z → (got : Linked)
      → Moved (total c + 1) (into_step c x z links) got → Linking c links → Covers c 0 got.links now
  unfolding into_step
  into_covers now is x z same got k w =
      rw (is, k.is ∙ ap (λ (j : ℕ). into_step c x j links) (sym same)) (test (is_link c x) done (λ e. rw e raised_covers))
    where
      done : is_link c x ≡ true
          → Covers c 0
          (entered_if (is_link c x && or_none (is_head c y) y) (full_for c x y links) links (preceded (total c + 1) x y links)).links
          (raised c y bounds)
      done e =
          rw (e, party_fine c.heads y known_head, (has_room x).room)
          (covers_preceded c x y links (raised c y bounds) e (omega (arith, known_head)) room_raised _ refl w)
