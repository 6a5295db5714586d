-- One ring with its head at the last place: the places that it spells, unlinking and linking on it.
use Rattle.std.specs.Prelude.{ℕ, ◌+◌, ◌-◌, ◌<◌, ◌≤◌, ◌≡◌, refl, List, [], ◌∷◌, eqb, ◌≢◌, Bool, get_or}
use Rattle.std.proofs.Common.{ap, arith, eq-eqb, ne_eqb, eqb-true, inl, inr}
use Rattle.std.proofs.lemmas.Bool.{eqb-false}
use Rattle.ring_laws.specs.Lists.{In, without, behind, decide}
use Rattle.ring_laws.specs.Rings.{Head, Link}
use Rattle.ring_laws.specs.Table.{unlinked, linked_behind}
use Rattle.ring_laws.specs.Stores.{sucs}
use Rattle.ring_laws.specs.Rows.{Layout}
use Rattle.ring_laws.specs.Spell as ring
use Rattle.ring_laws.specs.Spell.{spells_cong}
use Rattle.ring_laws.proofs.Spell.{spells_unlinked, spells_behind}
use Rattle.model.specs.declared.Counts.{Counts}
use Rattle.axis_laws.specs.Notices.{Notice, whos, places}
use Rattle.axis_laws.specs.NoticeOps.{dropped}

-- the place behind x, and the one before it: another notice's, or that of the axis's own head; 0 where x has no notice
abbrev pub next_place : List ℕ → ℕ → ℕ
next_place axis x = get_or axis x 0

abbrev pub prev_place : ℕ → List ℕ → ℕ → ℕ
prev_place m axis x = get_or axis (m + x) 0

-- the head is the last place
abbrev pub axis_head : ℕ → ℕ → Bool
axis_head m h = eqb h (m - 1)

-- "the axis's own head at P + 1": with m = P + 2, the ring spells these places
abbrev pub SpellsAxis : ℕ → List ℕ → List ℕ → Type 0
SpellsAxis m events t = ring.Spells m (axis_head m) (λ h. events) t

pub axis_layout : (p : ℕ) → Layout (p + 2) (axis_head (p + 2)) 1 (p + 1) 1 (p + 1)
axis_layout p =
    record {
      head_in = λ h a. let e : h ≡ p + 2 - 1 = eqb-true h (p + 2 - 1) a.is in (omega arith, omega arith);
      in_head = λ h a b. record { some = omega arith; within = omega arith; is = eq-eqb h (p + 2 - 1) (omega arith) };
      link_in = λ x a.
          let n : x ≢ p + 2 - 1 = eqb-false x (p + 2 - 1) a.isn't in (a.some, below_head x n a.within);
      in_link = λ x a b. record { some = a; within = omega arith; isn't = ne_eqb x (p + 2 - 1) (λ e. omega arith) };
      low = omega arith;
      span = omega arith;
    }
  where
    below_head : (x : ℕ) → x ≢ p + 2 - 1 → x < p + 2 → x < p + 1
    below_head x n l = omega arith

-- the axis's own head, and the places of its events
pub axis_head_lem : (p : ℕ) → Head (p + 2) (axis_head (p + 2)) (p + 1)
axis_head_lem p = (axis_layout p).in_head (p + 1) (omega arith) (omega arith)

pub axis_event : (p : ℕ) (axis events : List ℕ) → SpellsAxis (p + 2) events axis → (y : ℕ) → In y events → (0 < y) × (y ≤ p)
axis_event p axis events s y k = let b = (axis_layout p).link_in y (s.rings.only (p + 1) y (axis_head_lem p) k) in (b.0, omega (arith, b.1))

module _ (m : ℕ) (events : List ℕ) (t : List ℕ) (s : SpellsAxis m events t) where
  pub axis_unlinked : (x : ℕ) → Link m (axis_head m) x → SpellsAxis m (without x events) (unlinked m x t)
  axis_unlinked x lx = spells_unlinked m (axis_head m) (λ h. events) t s x lx

  pub axis_linked : (x y : ℕ) → 1 < m → Link m (axis_head m) x → sucs m t x ≡ 0 → In y ((m - 1) ∷ events)
      → SpellsAxis m (behind y x (m - 1) events) (linked_behind m x y t)
  axis_linked x y big lx z on =
      let a : Head m (axis_head m) (m - 1) = record { some = omega arith; within = omega arith; is = eq-eqb (m - 1) (m - 1) refl } in
      spells_cong m (axis_head m) (λ g. behind y x g events) (λ g. behind y x (m - 1) events) (linked_behind m x y t)
      (λ g b. ap (λ (j : ℕ). behind y x j events) (eqb-true g (m - 1) b.is))
      (spells_behind m (axis_head m) (λ h. events) t s x y (m - 1) lx z a on)

-- a process's notice taken out: its place taken out
pub axis_drop : (c : Counts) (x : ℕ) (ns : List Notice) → c.heads < x → ((a : ℕ) → In a (whos ns) → c.heads < a)
    → without (x - c.heads) (places c ns) ≡ places c (dropped x ns)
axis_drop c x [] b f = refl
axis_drop c x (k ∷ ks) b f =
    decide k.who x
    (λ e.
    rw (eq-eqb k.who x e, eq-eqb (k.who - c.heads) (x - c.heads) (ap (λ (j : ℕ). j - c.heads) e))
    (axis_drop c x ks b (λ a i. f a (inr i))))
    (λ d.
    rw (ne_eqb k.who x d, ne_eqb (k.who - c.heads) (x - c.heads) (λ e. d (omega (arith, f k.who (inl refl)))))
    (ap (λ (l : List ℕ). (k.who - c.heads) ∷ l) (axis_drop c x ks b (λ a i. f a (inr i)))))
