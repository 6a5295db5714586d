-- The judge answers yes exactly where there are lists.
use Rattle.std.specs.Prelude.{ℕ, ◌+◌, ◌-◌, ◌≤◌, ◌≡◌, Bool, true, false, List, [], length, get_or}
use Rattle.std.proofs.Common.{sym, ap, ◌∙◌, subst, inl, inr, ⊎_elim, arith}
use Rattle.ring_laws.specs.Lists.{In, test, clash}
use Rattle.ring_laws.specs.Rings.{Head, Link, Rings}
use Rattle.ring_laws.specs.Judge.{idle, busy, closed, rings_fine}
use Rattle.ring_laws.specs.Distinct.{joined, fits, covers}
use Rattle.ring_laws.proofs.Busy.{idle_zeros, zeros_idle, busy_place, place_busy, busy_dist}
use Rattle.ring_laws.specs.Rows.{Layout, Row, Rows, AtMost, Closed, in_at, at_in}
use Rattle.ring_laws.proofs.Rows.{row_at, rows_of, rows_dist, rows_busy, closed_rows}
use Rattle.ring_laws.proofs.Rows.{rows_closed}
use Rattle.ring_laws.specs.Fine.{fine_not, fine_is, Found}

module _ (m : ℕ) (is_head : ℕ → Bool) (n g lo hi : ℕ) (lay : Layout m is_head n g lo hi) (S P : ℕ → ℕ) where
  -- the members are the busy links
  busy_link : (y : ℕ) → In y (busy S P lo (hi - lo)) → Link m is_head y
  busy_link y k = let r = busy_place S P lo (hi - lo) y k in lay.in_link y r.0 (omega (arith, r.1, lay.span))

  link_busy : (y : ℕ) → Link m is_head y → idle S P y ≡ false → In y (busy S P lo (hi - lo))
  link_busy y a e = let r = lay.link_in y a in place_busy S P lo (hi - lo) y r.0 (omega (arith, r.1, lay.span)) e

  pub sound : (most : ℕ) → rings_fine S P lo hi most n g ≡ true → Found m is_head S P most n g
  sound most e =
      test (idle S P 0)
      (λ z. found (idle_zeros S P 0 z)
      (closed_rows m is_head S P lo hi most n g (length (busy S P lo (hi - lo))) lay.in_head lay.in_link
      (sym (fine_is S P lo hi most n g z) ∙ e)))
      (λ z. clash (sym (fine_not S P lo hi most n g z) ∙ e))
    where
      found : (S 0 ≡ 0) × (P 0 ≡ 0) → Closed m is_head S P most n g (length (busy S P lo (hi - lo))) → Found m is_head S P most n g
      found z c =
          let at : (h : ℕ) → Head m is_head h → Row m is_head S P h (get_or c.lists (h - g) []) =
          λ h a.
          let b = lay.head_in h a in
          let q : g + (h - g) ≡ h = omega (arith, b) in
          subst (λ (j : ℕ). Row m is_head S P j (get_or c.lists (h - g) [])) q
          (row_at m is_head S P c.lists g (h - g) (omega (arith, b, c.all)) c.rows) in
          record {
            sets = c.lists;
            all = c.all;
            rings =
                record {
                  ring = λ h a. (at h a).chain;
                  only = λ h x a i. (at h a).links x i;
                  whole = λ x a.
                      test (idle S P x)
                      (λ e. inr (idle_zeros S P x e))
                      (λ e.
                      let i : In x (joined c.lists) =
                      covers (joined c.lists) (busy S P lo (hi - lo)) (rows_dist m is_head S P g c.lists c.rows)
                      (λ y k. let b = rows_busy m is_head S P g c.lists y c.rows k in link_busy y b.1 b.0)
                      (omega (arith, c.count)) x (link_busy x a e) in
                      let r = at_in x c.lists i in
                      let q : r.0 ≡ (g + r.0) - g = omega arith in
                      inl (
                        g + r.0,
                        lay.in_head (g + r.0) (omega arith) (omega (arith, r.1, c.all)),
                        subst (λ (j : ℕ). In x (get_or c.lists j [])) q r.2,
                      ));
                  zero_s = z.0;
                  zero_p = z.1;
                };
            limited = c.limited;
          }

  -- rings that lists spell, one row for each head
  pub rings_rows : (sets : List (List ℕ)) → length sets ≡ n → Rings m is_head (λ h. get_or sets (h - g) []) S P → Rows m is_head S P g sets
  rings_rows sets all r =
      rows_of m is_head S P sets g
      (λ i l.
      let a : Head m is_head (g + i) = lay.in_head (g + i) (omega arith) (omega arith) in
      let q : (g + i) - g ≡ i = omega arith in
      subst (λ (j : ℕ). Row m is_head S P (g + i) (get_or sets j [])) q
      (record { head = a; chain = r.ring (g + i) a; links = λ y k. r.only (g + i) y a k }))

  pub complete : (most : ℕ) (sets : List (List ℕ)) → length sets ≡ n → Rings m is_head (λ h. get_or sets (h - g) []) S P → AtMost most sets
      → rings_fine S P lo hi most n g ≡ true
  complete most sets all r limited =
      let rows : Rows m is_head S P g sets = rings_rows sets all r in
      let few : length (joined sets) ≤ length (busy S P lo (hi - lo)) =
      fits (joined sets) (busy S P lo (hi - lo)) (rows_dist m is_head S P g sets rows)
      (λ y k. let b = rows_busy m is_head S P g sets y rows k in link_busy y b.1 b.0) in
      let many : length (busy S P lo (hi - lo)) ≤ length (joined sets) =
      fits (busy S P lo (hi - lo)) (joined sets) (busy_dist S P lo (hi - lo))
      (λ y k. ⊎_elim
      (λ w. in_at y (w.0 - g) sets w.2)
      (λ z. clash (sym (busy_place S P lo (hi - lo) y k).2 ∙ zeros_idle S P y z.0 z.1))
      (r.whole y (busy_link y k))) in
      fine_is S P lo hi most n g (zeros_idle S P 0 r.zero_s r.zero_p)
      ∙ ap (λ (j : ℕ). closed S P lo hi most j g (length (busy S P lo (hi - lo)))) (sym all)
      ∙ rows_closed m is_head S P lo hi most sets g (length (busy S P lo (hi - lo))) (λ z. omega (arith, lay.low)) lay.link_in
      lay.in_link rows limited (omega arith)
