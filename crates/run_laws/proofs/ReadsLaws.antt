-- What the readers answer, from their tests.
use Rattle.std.specs.Prelude.{ℕ, ◌+◌, ◌-◌, ◌≤◌, ◌<◌, ◌≡◌, ◌≢◌, Bool, true, ◌&&◌, List, leb, eqb, length, get_or, Ok, Err}
use Rattle.std.proofs.Math.Path.{refl, ap}
use Rattle.std.proofs.Common.{sym, ◌∙◌, ⊎_elim, arith}
use Rattle.std.proofs.Math.Bool.{false}
use borrow.Author.Tests.{eq-eqb, ne_eqb, lt-ltb, le-ltb, lt-leb, le-leb}
use Rattle.ring_laws.specs.Lists.{decide, below}
use Rattle.model.specs.declared.Counts.{Counts}
use Rattle.model.specs.declared.Refusal.TheVariants.{Operand}
use Rattle.model.specs.Counts.{total, is_head}
use Rattle.model_laws.specs.Now.{half, first_of}
use Rattle.simset_laws.specs.Procedures.{link_or}
use Rattle.sheet.specs.declared.records.Record.{Record}
use Rattle.sheet.specs.Accepted.{is_operand, operand_base}
use Rattle.sheet.specs.Fields.{operand_kinds}
use Rattle.run_laws.specs.OnTables.{member_at, operand_with}
use Rattle.run_laws.specs.Run.{ends_now}
use Rattle.run_laws.specs.declared.Effect.TheVariants.{Stays, Jumps}
use Rattle.run_laws.specs.Performed.{branched, jumping}
use Rattle.run_laws.specs.Needs.{Resolvable}
use Rattle.run_laws.specs.Reads.{and_false}

module _ (c : Counts) (axis positions : List ℕ) (f : ℕ) (is : f ≡ first_of (half c) axis) where
  pub ends_other : f ≢ 1 → false ≡ ends_now c axis positions
  unfolding ends_now
  ends_other n = rw (ne_eqb (first_of (half c) axis) 1 (λ e. n (is ∙ e)))

  pub ends_main : f ≡ 1 → eqb (get_or positions 1 0) 0 ≡ ends_now c axis positions
  unfolding ends_now
  ends_main e = rw (eq-eqb (first_of (half c) axis) 1 (sym is ∙ e))

  -- main's position is current's, where main is current
  pub ends_at : (r : ℕ) (b : Bool) → r ≡ get_or positions f 0 → b ≡ (eqb r 0 && eqb f 1) → b ≡ ends_now c axis positions
  ends_at r b er eb =
      decide f 1
      (λ e. eb ∙ rw (eq-eqb f 1 e) (and_true (eqb r 0)) ∙ ap (λ (n : ℕ). eqb n 0) (er ∙ ap (λ (j : ℕ). get_or positions j 0) e) ∙ ends_main e)
      (λ n. eb ∙ rw (ne_eqb f 1 n) (and_false (eqb r 0)) ∙ ends_other n)
    where
      and_true : (a : Bool) → (a && true) ≡ a
      and_true true = refl
      and_true false = refl

module _ (c : Counts) (links : List ℕ) (f v : ℕ) (z : Resolvable c links f) where
  module _ (takes : Bool) where
    pub operand_low : v ≤ total c → v ≡ operand_with c takes links f v
    unfolding operand_with
    operand_low l = rw (lt-ltb v operand_base (omega (arith, z.allowed.heads_in, z.allowed.processes_in, z.allowed.plains_in)))

    pub operand_current : v ≡ operand_base → c.heads + f ≡ operand_with c takes links f v
    unfolding operand_with
    operand_current e = rw (le-ltb v operand_base (omega arith), eq-eqb v operand_base e)

  module _ (o : is_operand c v ≡ true) (l : total c < v) (n : v ≢ operand_base) where
    pub above : (operand_base ≤ v) × (v - operand_base ≤ c.heads)
    above = ⊎_elim (λ k. absurd (no k)) (⊎_elim (λ e. absurd (n e)) (λ p. (omega (arith, p.0), omega (arith, p.1)))) (operand_kinds c v o)
      where
        no : v ≤ total c → ⊥
        no k = omega arith

    module _ (h : ℕ) (e : h ≡ v - operand_base) where
      pub head_within : h < length links
      head_within = omega (arith, above.1, z.sound.two)

      pub operand_member : (takes : Bool) (r : ℕ) → r ≡ member_at c takes links h → r ≡ operand_with c takes links f v
      unfolding operand_with
      operand_member takes r is = rw (le-ltb v operand_base above.0, ne_eqb v operand_base n)
          (is ∙ ap (member_at c takes links) e)

  -- where the operation takes no process, an operand stands for a head only where it is its number
  pub no_head : is_operand c v ≡ true → 0 < f → is_head c v ≡ false → is_head c (operand_with c false links f v) ≡ false
  unfolding link_or
  no_head o some e =
      below (total c) v
      (λ l. decide v operand_base
      (λ z. ap (is_head c) (sym (operand_current false z)) ∙ above_heads (c.heads + f) (omega arith))
      (λ n. ap (is_head c) (sym (operand_member o l n (v - operand_base) refl false (link_or c.heads (get_or links (v - operand_base) 0)) refl))
      ∙ first (get_or links (v - operand_base) 0)))
      (λ l. ap (is_head c) (sym (operand_low false l)) ∙ e)
    where
      above_heads : (x : ℕ) → c.heads < x → is_head c x ≡ false
      above_heads x l = rw (lt-leb x c.heads l) (and_false (leb 1 x))

      first : (x : ℕ) → is_head c (link_or c.heads x) ≡ false
      first x = below c.heads x (λ l. rw (lt-leb x c.heads l) (above_heads x l)) (λ l. rw (le-leb x c.heads l) refl)

-- ---- 12

module _ (c : Counts) (q : Record) (f : ℕ) (links : List ℕ) (x : ℕ) (is : x ≡ operand_with c false links f q.x) where
  pub branch_3 : is_head c x ≡ false → Err Operand ≡ branched c q f links
  branch_3 e = rw (ap (is_head c) (sym is) ∙ e)

  module _ (head : is_head c x ≡ true) (h : ℕ) (same : h ≡ x) where
    at : get_or links h 0 ≡ get_or links (operand_with c false links f q.x) 0
    at = ap (λ (j : ℕ). get_or links j 0) (same ∙ is)

    pub branch_to : get_or links h 0 ≡ x → (y : ℕ) → y ≡ q.y → jumping y ≡ branched c q f links
    branch_to e y ey = ap jumping ey ∙ (rw (ap (is_head c) (sym is) ∙ head, eq-eqb _ _ (sym at ∙ e ∙ is)))

    pub branch_on : get_or links h 0 ≢ x → (Ok Stays) ≡ branched c q f links
    branch_on n = rw (ap (is_head c) (sym is) ∙ head, ne_eqb _ _ (λ e. n (at ∙ e ∙ sym is)))
