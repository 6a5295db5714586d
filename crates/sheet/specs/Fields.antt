-- What holds of a record's fields where the record is as it must be, in the form that a runner of sheets needs.
use Rattle.std.specs.Prelude.{ℕ, suc, ◌+◌, ◌-◌, ◌≤◌, ◌<◌, ◌≡◌, refl, ◌≢◌, ◌⊎◌, Bool, true, false, ◌||◌, leb, eqb, ℤ, pos, negsuc, nat_abs}
use Rattle.std.proofs.Common.{sym, ap, subst, ◌∙◌, inl, inr, ⊎_elim, arith}
use borrow.Author.Tests.{leb-true, eqb-true, ne_eqb}
use Rattle.ring_laws.specs.Lists.{test, clash}
use Rattle.model.specs.Counts.{Allowed, total, both}
use Rattle.model.specs.declared.Counts.{Counts}
use Rattle.sheet.specs.AllTo.{all_to, all_at}
use Rattle.sheet.specs.Operations.{row_of, under, uses_of, last_operation}
use Rattle.sheet.specs.Accepted.{is_operand, may_hold, fields_fine, record_fine, operand_base}
use Rattle.sheet.specs.Tests.{or_off, operand_linkage}
use Rattle.sheet.specs.declared.header.Header.{Header}
use Rattle.sheet.specs.declared.operations.Holds.{Holds}
use Rattle.sheet.specs.declared.operations.Holds.TheVariants.{Nothing, Operand, RecordNumber, AccumulatorNumber}
use Rattle.sheet.specs.declared.operations.Uses.{Uses}
use Rattle.sheet.specs.declared.records.Record.{Record}

-- ---- operands

-- a linkage or none, current, or the first member of a head
abbrev pub OperandIs : Counts → ℕ → Type 0
OperandIs c v = (v ≤ total c) ⊎ ((v ≡ operand_base) ⊎ ((operand_base < v) × (v ≤ operand_base + c.heads)))

pub operand_kinds : (c : Counts) (v : ℕ) → is_operand c v ≡ true → OperandIs c v
unfolding is_operand
operand_kinds c v e =
    test (leb v (total c))
    (λ t. inl (leb-true v (total c) t))
    (λ t. test (eqb v operand_base)
    (λ u. inr (inl (eqb-true v operand_base u)))
    (λ u. inr (inr (above (both (leb 1 (v - operand_base)) (leb (v - operand_base) c.heads) (or_off _ _ _ t (or_off _ _ _ u refl) ∙ e)))))
    )
  where
    above : (leb 1 (v - operand_base) ≡ true) × (leb (v - operand_base) c.heads ≡ true) → (operand_base < v) × (v ≤ operand_base + c.heads)
    above p =
        let l = leb-true 1 (v - operand_base) p.0 in
        let m = leb-true (v - operand_base) c.heads p.1 in
        (omega arith, omega arith)

-- above 65,536 stands a head
module _ (c : Counts) (a : Allowed c) (v : ℕ) (o : is_operand c v ≡ true) where
  pub operand_high : operand_base < v → (1 ≤ v - operand_base) × (v - operand_base ≤ c.heads)
  operand_high l =
      ⊎_elim (λ k. absurd (far k))
      (⊎_elim (λ e. (omega arith, omega arith)) (λ p. (omega (arith, p.0), omega (arith, p.1)))) (operand_kinds c v o)
    where
      far : v ≤ total c → ⊥
      far k = omega (arith, a.heads_in, a.processes_in, a.plains_in)

-- ---- which kinds the operations have

-- an operand, or 0
abbrev plainly : Holds → Bool
plainly Nothing = true
plainly Operand = true
plainly RecordNumber = false
plainly AccumulatorNumber = false

plainly_operand : (h : Header) (u : Holds) (v : ℕ) → plainly u ≡ true → may_hold h u v ≡ true → is_operand h.counts v ≡ true
unfolding may_hold
plainly_operand h Nothing v p e = sym (operand_linkage h.counts v (omega (arith, eqb-true v 0 e)))
plainly_operand h Operand v p e = e
plainly_operand h RecordNumber v p e = clash p
plainly_operand h AccumulatorNumber v p e = clash p

-- x is an operand in all but 13, y in all but 12
x_plain : all_to (λ op. eqb op 13 || plainly (row_of op).x) last_operation ≡ true
unfolding all_to row_of
x_plain = refl

y_plain : all_to (λ op. eqb op 12 || plainly (row_of op).y) last_operation ≡ true
unfolding all_to row_of
y_plain = refl

-- a clause narrows, and leaves plain what is plain
under_x : (k : ℕ) (u : Uses) → (under k u).x ≡ u.x
unfolding under
under_x k u = test u.clause (λ e. rw e) (λ e. rw e)

under_y : (k : ℕ) (u : Uses) → plainly u.y ≡ true → plainly (under k u).y ≡ true
unfolding under
under_y k u p =
    test u.clause (λ e. test (leb 5 k) (λ f. rw (e, f) p) (λ f. rw (e, f))) (λ e. rw e p)

-- ---- a record

pub record Ranged (h : Header) (q : Record) : Type 0 where
  pub next_in_lem : q.next ≤ h.records
  pub operation_some : 1 ≤ q.operation
  pub operation_in : q.operation ≤ last_operation
  pub clause_in : q.clause ≤ 6
  pub x_operand : q.operation ≢ 13 → is_operand h.counts q.x ≡ true
  pub y_operand : q.operation ≢ 12 → is_operand h.counts q.y ≡ true
  pub y_record : q.operation ≡ 12 → q.y ≤ h.records
  pub x_accumulator : q.operation ≡ 13 → (1 ≤ q.x) × (q.x ≤ 64)
  pub clause_unused : (uses_of q.operation q.clause).clause ≡ false → q.clause ≡ 0
  pub x_unused : (uses_of q.operation q.clause).x ≡ Nothing → q.x ≡ 0
  pub y_unused : (uses_of q.operation q.clause).y ≡ Nothing → q.y ≡ 0
  pub t_unused : (uses_of q.operation q.clause).t ≡ false → q.t ≡ pos 0

-- the tests that a record has passed
record Passed (h : Header) (q : Record) (u : Uses) : Type 0 where
  next : leb q.next h.records ≡ true
  some : leb 1 q.operation ≡ true
  most : leb q.operation last_operation ≡ true
  clause : leb q.clause 6 ≡ true
  uses : (u.clause || eqb q.clause 0) ≡ true
  x : may_hold h u.x q.x ≡ true
  y : may_hold h u.y q.y ≡ true
  t : (u.t || eqb (nat_abs q.t) 0) ≡ true

passed : (h : Header) (q : Record) → record_fine h q ≡ true → Passed h q (uses_of q.operation q.clause)
unfolding record_fine fields_fine
passed h q e =
    let u = uses_of q.operation q.clause in
    let p1 = both (leb q.next h.records) _ e in
    let p2 = both (leb 1 q.operation) _ p1.1 in
    let p3 = both (leb q.operation last_operation) _ p2.1 in
    let p4 = both (leb q.clause 6) _ p3.1 in
    let p5 = both (u.clause || eqb q.clause 0) _ p4.1 in
    let p6 = both (may_hold h u.x q.x) _ p5.1 in
    let p7 = both (may_hold h u.y q.y) (u.t || eqb (nat_abs q.t) 0) p6.1 in
    record { next = p1.0; some = p2.0; most = p3.0; clause = p4.0; uses = p5.0; x = p6.0; y = p7.0; t = p7.1 }

or_right : (a b : Bool) → (a || b) ≡ true → a ≡ false → b ≡ true
or_right a b e f = or_off a b b f refl ∙ e

nothing_zero : (h : Header) (u : Holds) (v : ℕ) → may_hold h u v ≡ true → u ≡ Nothing → v ≡ 0
unfolding may_hold
nothing_zero h u v e f = eqb-true v 0 (ap (λ (w : Holds). may_hold h w v) (sym f) ∙ e)

abs_zero : (t : ℤ) → nat_abs t ≡ 0 → t ≡ pos 0
abs_zero (pos n) e = ap pos e
abs_zero (negsuc n) e = absurd (no_zero n e)
  where
    no_zero : (n : ℕ) → suc n ≡ 0 → ⊥
    no_zero n e = omega arith

module _ (h : Header) (q : Record) (fine : record_fine h q ≡ true) where
  its : Passed h q (uses_of q.operation q.clause)
  its = passed h q fine

  plain_at : (f : ℕ → Bool) → all_to f last_operation ≡ true → f q.operation ≡ true
  plain_at f e = all_at f last_operation e q.operation (leb-true _ _ its.some) (leb-true _ _ its.most)

  operand_x : q.operation ≢ 13 → is_operand h.counts q.x ≡ true
  operand_x n =
      plainly_operand h _ q.x
      (ap plainly (under_x q.clause (row_of q.operation)) ∙ or_right _ _ (plain_at _ x_plain) (ne_eqb _ _ n))
      its.x

  operand_y : q.operation ≢ 12 → is_operand h.counts q.y ≡ true
  operand_y n =
      plainly_operand h _ q.y (under_y q.clause (row_of q.operation) (or_right _ _ (plain_at _ y_plain) (ne_eqb _ _ n))) its.y

  record_y : q.operation ≡ 12 → q.y ≤ h.records
  unfolding may_hold row_of under
  record_y e = leb-true _ _ (subst (λ (o : ℕ). may_hold h (uses_of o q.clause).y q.y ≡ true) e its.y)

  accumulator_x : q.operation ≡ 13 → (1 ≤ q.x) × (q.x ≤ 64)
  unfolding may_hold row_of under
  accumulator_x e =
      let b = both (leb 1 q.x) (leb q.x 64) (subst (λ (o : ℕ). may_hold h (uses_of o q.clause).x q.x ≡ true) e its.x) in
      (leb-true _ _ b.0, leb-true _ _ b.1)

  pub ranged : Ranged h q
  ranged =
      record {
        next_in_lem = leb-true _ _ its.next;
        operation_some = leb-true _ _ its.some;
        operation_in = leb-true _ _ its.most;
        clause_in = leb-true _ _ its.clause;
        x_operand = operand_x;
        y_operand = operand_y;
        y_record = record_y;
        x_accumulator = accumulator_x;
        clause_unused = λ e. eqb-true _ _ (or_right _ _ its.uses e);
        x_unused = nothing_zero h _ q.x its.x;
        y_unused = nothing_zero h _ q.y its.y;
        t_unused = λ e. abs_zero q.t (eqb-true _ _ (or_right _ _ its.t e));
      }
