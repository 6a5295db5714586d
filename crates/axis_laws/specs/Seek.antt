-- RANK's place, looked for from both ends of a ring at once: the walk, its clauses, and that it finds the place.
use Prim.Native.Nat.{ℕ, zero, suc, ◌+◌, ◌-◌, ◌<◌, ◌≤◌}
use Rattle.std.specs.Prelude.{◌≡◌, ◌≢◌, ◌⊎◌, List, [], ◌∷◌, ◌++◌, eqb, leb, ltb, length, get_or, if◌then◌else◌}
use Rattle.std.proofs.Math.Path.{refl}
use Rattle.std.proofs.Common.{sym, ap, ◌∙◌, subst, inl, inr, ⊎_elim, arith, length-append, get_or-take}
use borrow.Author.Tests.{eq-eqb, ne_eqb, lt-ltb, le-ltb, le-leb, lt-leb}
use Rattle.ring_laws.specs.Lists.{In, decide, below}
use Rattle.ring_laws.specs.Chain.{Edge, Chain}
use Rattle.ring_laws.specs.Stores.{sucs, pres}
use Rattle.model.specs.declared.Counts.{Counts}
use Rattle.axis_laws.specs.AxisRing.{next_place, prev_place}
use Rattle.axis_laws.specs.Notices.{Notice, places, From, InOrder}
use Rattle.axis_laws.specs.Reading.{Timed}
use Rattle.axis_laws.specs.ByDue.{spot_in}

-- behind which place a notice stands in front of all from w on, with at most k steps from each end: f goes on from the first, b back from
-- the last; t is a ring through the head at m - 1
unfoldable pub seek_from : ℕ → List ℕ → ℕ → List ℕ → ℕ → ℕ → ℕ → ℕ
seek_from m times w t zero f b = b
seek_from m times w t (suc k) f b =
    if eqb b (m - 1) then b
    else (if ltb (get_or times b 0) w then b
    else (if leb w (get_or times f 0) then prev_place m t f else seek_from m times w t k (next_place t f) (prev_place m t b)))

unfoldable pub found_on : ℕ → ℕ → List ℕ → List ℕ → ℕ
found_on m w t times = seek_from m times w t m (get_or t (m - 1) 0) (get_or t (m + (m - 1)) 0)

module _ (m : ℕ) (times : List ℕ) (w : ℕ) (t : List ℕ) where
  pub seek_zero : (f b : ℕ) → seek_from m times w t 0 f b ≡ b
  unfolding seek_from
  seek_zero f b = refl

  pub seek_head : (k f b : ℕ) → b ≡ m - 1 → seek_from m times w t k f b ≡ b
  unfolding seek_from
  seek_head zero f b e = refl
  seek_head (suc k) f b e = rw (eq-eqb b (m - 1) e)

  pub seek_back : (k f b : ℕ) → get_or times b 0 < w → seek_from m times w t k f b ≡ b
  unfolding seek_from
  seek_back zero f b l = refl
  seek_back (suc k) f b l =
      decide b (m - 1)
      (λ e. rw (eq-eqb b (m - 1) e))
      (λ n. rw (ne_eqb b (m - 1) n, lt-ltb (get_or times b 0) w l))

  pub seek_front : (k f b : ℕ) → b ≢ m - 1 → w ≤ get_or times b 0 → w ≤ get_or times f 0 → seek_from m times w t (suc k) f b ≡ prev_place m t f
  unfolding seek_from
  seek_front k f b n l h = rw (ne_eqb b (m - 1) n, le-ltb (get_or times b 0) w l, le-leb w (get_or times f 0) h)

  pub seek_on : (k f b : ℕ) → b ≢ m - 1 → w ≤ get_or times b 0 → get_or times f 0 < w
      → seek_from m times w t (suc k) f b ≡ seek_from m times w t k (next_place t f) (prev_place m t b)
  unfolding seek_from
  seek_on k f b n l h = rw (ne_eqb b (m - 1) n, le-ltb (get_or times b 0) w l, lt-leb w (get_or times f 0) h)

-- ---- the last notice of a list

snoc : (k : Notice) (ks : List Notice) → (l : List Notice) × (z : Notice) × ((k ∷ ks) ≡ (l ++ (z ∷ [])))
snoc k [] = ([], k, refl)
snoc k (j ∷ js) = let r = snoc j js in (k ∷ r.0, r.1, ap (λ (x : List Notice). k ∷ x) r.2)

from_snoc : (u : ℕ) (l : List Notice) (z : Notice) → From u (l ++ (z ∷ [])) → (u ≤ z.due) × From u l
from_snoc u [] z f = (f.0, tt)
from_snoc u (k ∷ l) z f = let r = from_snoc u l z f.1 in (r.0, (f.0, r.1))

order_snoc : (l : List Notice) (z : Notice) → InOrder (l ++ (z ∷ [])) → InOrder l
order_snoc [] z o = tt
order_snoc (k ∷ l) z o = ((from_snoc k.due l z o.0).1, order_snoc l z o.1)

timed_snoc : (c : Counts) (times : List ℕ) (l : List Notice) (z : Notice) → Timed c times (l ++ (z ∷ []))
    → (get_or times (z.who - c.heads) 0 ≡ z.due) × Timed c times l
timed_snoc c times [] z h = (h.0, tt)
timed_snoc c times (k ∷ l) z h = let r = timed_snoc c times l z h.1 in (r.0, (h.0, r.1))

chain_snoc : (S P : ℕ → ℕ) (c : Counts) (a : ℕ) (l : List Notice) (z : Notice) (e : ℕ) → Chain S P a (places c (l ++ (z ∷ []))) e
    → Chain S P a (places c l) (z.who - c.heads) × Edge S P (z.who - c.heads) e
chain_snoc S P c a [] z e h = h
chain_snoc S P c a (k ∷ l) z e h = let r = chain_snoc S P c (k.who - c.heads) l z e h.1 in ((h.0, r.0), r.1)

in_snoc : (c : Counts) (l : List Notice) (z : Notice) → In (z.who - c.heads) (places c (l ++ (z ∷ [])))
in_snoc c [] z = inl refl
in_snoc c (k ∷ l) z = inr (in_snoc c l z)

in_init : (c : Counts) (l : List Notice) (z : Notice) (y : ℕ) → In y (places c l) → In y (places c (l ++ (z ∷ [])))
in_init c [] z y i = absurd i
in_init c (k ∷ l) z y (inl e) = inl e
in_init c (k ∷ l) z y (inr i) = inr (in_init c l z y i)

-- all are due below w: the place is the last's
spot_last : (c : Counts) (w a : ℕ) (l : List Notice) (z : Notice) → InOrder (l ++ (z ∷ [])) → z.due < w
    → spot_in c w a (l ++ (z ∷ [])) ≡ z.who - c.heads
spot_last c w a [] z o h = rw (lt-ltb z.due w h)
spot_last c w a (k ∷ l) z o h =
    rw (lt-ltb k.due w (omega (arith, (from_snoc k.due l z o.0).0))) (spot_last c w (k.who - c.heads) l z o.1 h)

-- the last is due from w on: the place is found without it
spot_init : (c : Counts) (w a : ℕ) (l : List Notice) (z : Notice) → w ≤ z.due → spot_in c w a (l ++ (z ∷ [])) ≡ spot_in c w a l
spot_init c w a [] z h = rw (le-ltb z.due w h)
spot_init c w a (k ∷ l) z h =
    below k.due w
    (λ b. rw (lt-ltb k.due w b) (spot_init c w (k.who - c.heads) l z h))
    (λ b. rw (le-ltb k.due w b))

module _ (c : Counts) (m : ℕ) (times : List ℕ) (w : ℕ) (t : List ℕ) where
  -- what stands between a and e, in order and in the table
  pub record Between (a : ℕ) (l : List Notice) (e : ℕ) : Type 0 where
    pub links : Chain (sucs m t) (pres m t) a (places c l) e
    pub due : Timed c times l
    pub order : InOrder l
    pub off : (y : ℕ) → In y (places c l) → (y < m) × (y ≢ m - 1)

  -- one step from both ends
  seek_ends : (k a : ℕ) (n : Notice) (l : List Notice) (z : Notice) (e : ℕ) → Between a (n ∷ (l ++ (z ∷ []))) e
      → (n.due < w → seek_from m times w t k (sucs m t (n.who - c.heads)) (pres m t (z.who - c.heads))
      ≡ spot_in c w (n.who - c.heads) l)
      → seek_from m times w t (suc k) (sucs m t a) (pres m t e) ≡ spot_in c w a (n ∷ (l ++ (z ∷ [])))
  seek_ends k a n l z e b ih =
      let p = n.who - c.heads in
      let q = z.who - c.heads in
      let x = chain_snoc (sucs m t) (pres m t) c p l z e b.links.1 in
      let tz : get_or times q 0 ≡ z.due = (timed_snoc c times l z b.due.1).0 in
      let tn : get_or times p 0 ≡ n.due = b.due.0 in
      let nz : n.due ≤ z.due = (from_snoc n.due l z b.order.0).0 in
      let qn : q ≢ m - 1 = (b.off q (inr (in_snoc c l z))).1 in
      rw (b.links.0.next, x.1.prev)
      (below z.due w
      (λ h. rw (lt-ltb n.due w (omega arith)) (seek_back m times w t (suc k) p q (omega arith)
      ∙ sym (spot_last c w p l z b.order.1 h)))
      (λ h. below n.due w
      (λ g.
      rw (lt-ltb n.due w g)
      (seek_on m times w t k p q qn (omega arith) (omega arith)
      ∙ ap (λ (f : ℕ). seek_from m times w t k f (pres m t q)) (sym (get_or-take m t p 0 (b.off p (inl refl)).0))
      ∙ ih g ∙ sym (spot_init c w p l z h)))
      (λ g. rw (le-ltb n.due w g) (seek_front m times w t k p q qn (omega arith) (omega arith) ∙ b.links.0.prev))))

  -- k steps are enough: a is due below w, or the head
  abbrev Finds : ℕ → Type 0
  Finds k =
      (a : ℕ) (l : List Notice) (e : ℕ) → Between a l e → (a ≡ m - 1) ⊎ (get_or times a 0 < w) → length l ≤ k
      → seek_from m times w t k (sucs m t a) (pres m t e) ≡ spot_in c w a l

  seek_none : (k a e : ℕ) → Between a [] e → (a ≡ m - 1) ⊎ (get_or times a 0 < w) → seek_from m times w t k (sucs m t a) (pres m t e) ≡ a
  seek_none k a e b stop =
      ap (seek_from m times w t k (sucs m t a)) b.links.prev
      ∙ ⊎_elim (λ q. seek_head m times w t k (sucs m t a) a q) (λ q. seek_back m times w t k (sucs m t a) a q) stop

  seek_step : (k : ℕ) → Finds k → Finds (suc k)
  seek_step k ih a [] e b stop le = seek_none (suc k) a e b stop
  seek_step k ih a (n ∷ []) e b stop le =
      let p = n.who - c.heads in
      let tn : get_or times p 0 ≡ n.due = b.due.0 in
      rw (b.links.0.next, b.links.1.prev)
      (below n.due w
      (λ h. rw (lt-ltb n.due w h) (seek_back m times w t (suc k) p p (omega arith)))
      (λ h. rw (le-ltb n.due w h) (seek_front m times w t k p p (b.off p (inl refl)).1 (omega arith) (omega arith)
      ∙ b.links.0.prev)))
  seek_step k ih a (n ∷ j ∷ js) e b stop le =
      let r = snoc j js in
      let l = r.0 in
      let z = r.1 in
      let q = r.2 in
      let b' : Between a (n ∷ (l ++ (z ∷ []))) e = subst (λ (x : List Notice). Between a (n ∷ x) e) q b in
      let len : length (l ++ (z ∷ [])) ≤ k = subst (λ (x : List Notice). length x ≤ k) q (omega arith) in
      subst (λ (x : List Notice). seek_from m times w t (suc k) (sucs m t a) (pres m t e) ≡ spot_in c w a (n ∷ x)) (sym q)
      (seek_ends k a n l z e b'
      (λ h. ih (n.who - c.heads) l (z.who - c.heads)
      (record {
        links = (chain_snoc (sucs m t) (pres m t) c (n.who - c.heads) l z e b'.links.1).0;
        due = (timed_snoc c times l z b'.due.1).1;
        order = order_snoc l z b'.order.1;
        off = λ y i. b'.off y (inr (in_init c l z y i));
      })
      (inr (omega (arith, b.due.0)))
      (omega (arith, length-append l (z ∷ [])))))

  pub seek_finds : (k : ℕ) → Finds k
  seek_finds zero a [] e b stop le = seek_none 0 a e b stop
  seek_finds zero a (n ∷ l) e b stop le = omega arith
  seek_finds (suc k) a l e b stop le = seek_step k (seek_finds k) a l e b stop le
