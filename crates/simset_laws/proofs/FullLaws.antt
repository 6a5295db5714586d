-- Request 2.5 on tables: how many members each set has after x was put beside y, and that the test before it says whether some set would
-- have too many. Follow and precede put x by an f of their own.
use Rattle.std.specs.Prelude.{ℕ, suc, ◌+◌, ◌-◌, ◌<◌, ◌≤◌, ◌≡◌, refl, ◌≢◌, ◌⊎◌, false, List, [], ◌∷◌, get_or, if◌then◌else◌}
use Rattle.std.proofs.Math.Path.{sym}
use Rattle.std.proofs.Common.{ap, ◌∙◌, subst, inl, inr, arith}
use Rattle.std.proofs.Math.Logic.{⊎_elim}
use Rattle.std.proofs.Math.Bool.{true}
use Rattle.std.proofs.Math.Dec.{leb}
use Rattle.std.proofs.Math.ListN.{length, get_or-map, get_or-eq_default}
use Rattle.std.proofs.lemmas.List.{length-map}
use borrow.Author.Tests.{eq-eqb, ne_eqb, le-leb, leb-true, leb-false, le-ltb, lt-ltb, ltb-false}
use Rattle.ring_laws.specs.Lists.{In, without, decide, below, inside, test, in_without, without_in, without_none}
use Rattle.ring_laws.specs.Distinct.{fits, without_le, without_lt}
use Rattle.ring_laws.specs.Tabulate.{listed, length_listed}
use Rattle.ring_laws.specs.Rings.{Head, Link, kind, apart}
use Rattle.ring_laws.specs.Stores.{sucs}
use Rattle.ring_laws.proofs.Spell.{spells_dist}
use Rattle.model.specs.declared.Counts.{Counts}
use Rattle.model.specs.Counts.{total, most_members}
use Rattle.model_laws.specs.Tables.{set_head, members_of, SpellsSets, Limited}
use Rattle.simset_laws.specs.Sets.{each_set, out_sets, exceeds}
use Rattle.simset_laws.specs.Procedures.{cardinal_of}
use Rattle.simset_laws.specs.Walk.{head_at}
use Rattle.simset_laws.specs.Full.{set_at, full_at, many, full_for}
use Rattle.simset_laws.specs.Told.{head_of}
use Rattle.simset_laws.specs.EachSet.{length_on, get_or_on}
use Rattle.simset_laws.specs.SizeLaws.{Puts, exceeds_at, exceeds_not}
use Rattle.simset_laws.specs.Laws.{set_head_lem, stands, nowhere}
use Rattle.simset_laws.specs.QueryLaws.{found, lost, cardinal_says}
use Rattle.simset_laws.proofs.HeadLaws.{head_says, head_in, head_or_none}
use Rattle.simset_laws.specs.FullLaws.{in_listed}

module _ (m H : ℕ) (sets : List (List ℕ)) (t : List ℕ) (s : SpellsSets m H sets t) (b : H < m) where
  -- a set has no more members than there are links
  pub links_few : (h : ℕ) → Head m (set_head H) h → length (members_of sets h) + H < m
  links_few h a =
      omega (
        arith,
        fits (members_of sets h) (listed (λ i. i) (H + 1) (m - 1 - H)) (spells_dist m (set_head H) (members_of sets) t s.spelled h a).1
            (λ z i.
            let k : Link m (set_head H) z = s.spelled.rings.only h z a i in
            in_listed (H + 1) (m - 1 - H) z (omega (arith, leb-false z H k.isn't)) (omega (arith, k.within, leb-false z H k.isn't))),
        length_listed (λ i. i) (H + 1) (m - 1 - H),
      )

  -- y is in no set, or it heads or stands in the set of one head
  pub beside : (y : ℕ) → y < m
      → ((head_of y sets ≡ 0) × ((g : ℕ) → Head m (set_head H) g → In y (g ∷ members_of sets g) → ⊥))
      ⊎ ((h : ℕ) × Head m (set_head H) h × In y (h ∷ members_of sets h) × (head_of y sets ≡ h))
  beside y l =
      decide (sucs m t y) 0
      (λ z. inl (lost m H sets t s b (λ g k. g) y z, λ g a i. nowhere m H sets t s y g z a i))
      (λ n.
      let w = stands m H sets t s y l n in
      inr (w.0, w.1, w.2, found m H sets t s b (λ g k. g) y w.0 w.1 w.2))

  -- the table's way to that head
  pub set_says : (y : ℕ) → y < m → set_at m H y t ≡ head_of y sets
  unfolding set_at
  set_says y l = ⊎_elim none (⊎_elim head link) (kind m (set_head H) y l)
    where
      none : y ≡ 0 → (if leb y H then y else head_at m H y t) ≡ head_of y sets
      none e =
          rw (le-leb y H (omega arith))
          (e ∙ sym (lost m H sets t s b (λ g k. g) y (ap (sucs m t) e ∙ s.spelled.rings.zero_s)))

      head : Head m (set_head H) y → (if leb y H then y else head_at m H y t) ≡ head_of y sets
      head a = rw a.is (sym (found m H sets t s b (λ g k. g) y y a (inl refl)))

      link : Link m (set_head H) y → (if leb y H then y else head_at m H y t) ≡ head_of y sets
      link k = rw k.isn't (head_says m H sets t s b y k)

  module _ (x : ℕ) (lx : Link m (set_head H) x) (y : ℕ) (ly : y < m) (f : ℕ → List ℕ → List ℕ) (p : Puts y f) where
    abbrev after : List (List ℕ)
    after = each_set f 1 (out_sets x sets)

    abbrev l : ℕ → List ℕ
    l g = members_of sets g

    abbrev size_after : ℕ → ℕ
    size_after g = length (members_of after g)

    after_at : (g : ℕ) → Head m (set_head H) g → members_of after g ≡ f g (without x (l g))
    after_at g a =
        let e : 1 + (g - 1) ≡ g = omega (arith, a.some) in
        get_or_on f 1 (out_sets x sets) (g - 1)
        (omega (arith, length-map sets (without x), s.all, leb-true g H a.is, a.some))
        ∙ ap (λ (j : ℕ). f j (get_or (out_sets x sets) (g - 1) [])) e
        ∙ ap (f g) (get_or-map (without x) sets (g - 1) [])

    kept : (g : ℕ) → In y (g ∷ without x (l g)) → In y (g ∷ l g)
    kept g k = ⊎_elim (λ e. inl e) (λ i. inr (in_without y x (l g) i)) k

    -- a set that y is not of has no more members than before
    pub elsewhere : (g : ℕ) → Head m (set_head H) g → (In y (g ∷ l g) → ⊥) → size_after g ≤ length (l g)
    elsewhere g a n =
        omega (arith, ap length (after_at g a), p.same g (without x (l g)) (λ k. n (kept g k)), without_le x (l g))

    -- any has at most one more,
    pub one_at_most : (g : ℕ) → Head m (set_head H) g → size_after g ≤ suc (length (l g))
    one_at_most g a =
        inside y (g ∷ without x (l g))
        (λ k. omega (arith, ap length (after_at g a), p.more g (without x (l g)) k, without_le x (l g)))
        (λ n. omega (arith, ap length (after_at g a), p.same g (without x (l g)) n, without_le x (l g)))

    -- none more where x was in it: "A link moved within its own set does not count twice",
    pub within_its_own : (g : ℕ) → Head m (set_head H) g → In x (l g) → size_after g ≤ length (l g)
    within_its_own g a i =
        inside y (g ∷ without x (l g))
        (λ k. omega (arith, ap length (after_at g a), p.more g (without x (l g)) k, without_lt x (l g) i))
        (λ n. omega (arith, ap length (after_at g a), p.same g (without x (l g)) n, without_le x (l g)))

    -- and one more where y is of it and x was not in it
    pub one_more_lem : (g : ℕ) → Head m (set_head H) g → In y (g ∷ l g) → (In x (l g) → ⊥) → size_after g ≡ suc (length (l g))
    one_more_lem g a on n =
        ap length (after_at g a) ∙ p.more g (without x (l g)) still ∙ ap (λ (k : List ℕ). suc (length k)) (sym (without_none x (l g) n))
      where
        other : y ≢ x
        other e = ⊎_elim (λ q. apart m (set_head H) g x a lx (sym q ∙ e)) (λ i. n (subst (λ (j : ℕ). In j (l g)) e i)) on

        still : In y (g ∷ without x (l g))
        still = ⊎_elim (λ e. inl e) (λ i. inr (without_in y x (l g) other i)) on

    -- no set has too many where no head's has
    pub none_exceeds : ((g : ℕ) → Head m (set_head H) g → size_after g ≤ most_members) → exceeds after ≡ false
    none_exceeds few =
        exceeds_not after
        (λ i. below i H
        (λ i-in.
        let e : 1 + i - 1 ≡ i = omega arith in
        subst (λ (j : ℕ). length (get_or after j []) ≤ most_members) e (few (1 + i) (set_head_lem m H (1 + i) (omega arith) (omega arith) b)))
        (λ o.
        let q : get_or after i [] ≡ [] =
        get_or-eq_default after [] {n = i} (omega (arith, length_on f 1 (out_sets x sets), length-map sets (without x), s.all)) in
        omega (arith, ap length q)))

-- ---- the test before the call, for tables that spell sets of at most 512 members

module _ (c : Counts) (sets : List (List ℕ)) (t : List ℕ) (s : SpellsSets (total c + 1) c.heads sets t) (few : Limited sets) where
  abbrev m : ℕ
  m = total c + 1

  abbrev H : ℕ
  H = c.heads

  b : H < m
  b = omega arith

  module _ (x : ℕ) (lx : Link m (set_head H) x) (y : ℕ) (ly : y < m) (f : ℕ → List ℕ → List ℕ) (p : Puts y f) where
    abbrev put : List (List ℕ)
    put = each_set f 1 (out_sets x sets)

    fine : ((g : ℕ) → Head m (set_head H) g → length (members_of put g) ≤ most_members) → exceeds put ≡ false
    fine = none_exceeds m H sets t s b x lx y ly f p

    elsewhere_few : (g : ℕ) → Head m (set_head H) g → (In y (g ∷ members_of sets g) → ⊥) → length (members_of put g) ≤ most_members
    elsewhere_few g a n = omega (arith, elsewhere m H sets t s b x lx y ly f p g a n, few g)

    module _ (h : ℕ) (a : Head m (set_head H) h) (on : In y (h ∷ members_of sets h)) (is : head_of y sets ≡ h) where
      -- every set but that of h
      others : length (members_of put h) ≤ most_members → exceeds put ≡ false
      others here =
          fine (λ g ag. inside y (g ∷ members_of sets g)
          (λ i.
          let e : h ≡ g = sym is ∙ found m H sets t s b (λ k q. k) y g ag i in
          subst (λ (j : ℕ). length (members_of put j) ≤ most_members) e here)
          (elsewhere_few g ag))

      at_head : full_at m H x h t ≡ exceeds put
      unfolding full_at
      at_head =
          below (length (members_of sets h)) most_members
          (λ l. rw (lt-ltb _ _ (subst (λ (n : ℕ). n < most_members) (sym size) l))
          (sym (others (omega (arith, one_at_most m H sets t s b x lx y ly f p h a, l)))))
          (λ l. rw (le-ltb _ _ (subst (λ (n : ℕ). most_members ≤ n) (sym size) l))
          (inside x (members_of sets h)
          (λ i. rw (eq-eqb (head_at m H x t) h (head_says m H sets t s b x lx ∙ head_in m H sets t s b x h a i))
          (sym (others (omega (arith, within_its_own m H sets t s b x lx y ly f p h a i, few h)))))
          (λ n. rw (ne_eqb (head_at m H x t) h (λ e. away n (sym (head_says m H sets t s b x lx) ∙ e)))
          (sym (exceeds_at put (h - 1) (omega (arith, one_more_lem m H sets t s b x lx y ly f p h a on n, l)))))))
        where
          size : cardinal_of m h t ≡ length (members_of sets h)
          size = cardinal_says m H sets t s b h a

          away : (In x (members_of sets h) → ⊥) → head_of x sets ≡ h → ⊥
          away n e =
              ⊎_elim
              (λ w. n (subst (λ (j : ℕ). In x (members_of sets j)) e w.1))
              (λ w. omega (arith, w.0, e, a.some))
              (head_or_none m H sets t s b x lx)

    -- "after which some set would have 513 members"
    pub full_says : (u : List ℕ) → SpellsSets m H put u → full_for c x y t ≡ exceeds put
    unfolding full_for
    full_says u after = test (many c) yes no
      where
        yes : many c ≡ true → full_for c x y t ≡ exceeds put
        yes e =
            rw (e, set_says m H sets t s b y ly)
            (⊎_elim
            (λ w. rw (eq-eqb (head_of y sets) 0 w.0) (sym (fine (λ g a. elsewhere_few g a (w.1 g a)))))
            (λ w. rw (w.3, ne_eqb w.0 0 (λ z. omega (arith, w.1.some))) (at_head w.0 w.1 w.2 w.3))
            (beside m H sets t s b y ly))

        no : many c ≡ false → full_for c x y t ≡ exceeds put
        no e =
            rw e (sym (fine (λ g a. omega (arith, links_few m H put u after b g a, ltb-false most_members (c.processes + c.plains) e))))
