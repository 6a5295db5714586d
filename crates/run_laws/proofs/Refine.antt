-- One step on tables that spell a machine is the machine's step: the same refusal and nothing changed, or the same line, and tables that
-- spell the machine after it.
use Rattle.std.specs.Prelude.{ℕ, zero, suc, ◌+◌, ◌-◌, ◌≤◌, ◌<◌, ◌≡◌, refl, ◌≢◌, Bool, true, List, ◌∷◌}
use Rattle.std.proofs.Common.{sym, ◌∙◌}
use Rattle.std.proofs.Math.Path.{ap}
use native.Mathlib.Omega.{arith}
use Rattle.std.proofs.Math.Dec.{eqb}
use Rattle.std.proofs.Math.ListN.{get_or}
use borrow.Author.Tests.{eq-eqb, ne_eqb}
use Rattle.ring_laws.specs.Lists.{decide}
use Rattle.model.specs.declared.Counts.{Counts}
use Rattle.model.specs.Counts.{main, is_head, linkage_at}
use Rattle.model_laws.specs.Tables.{Lists, Sized, members_of}
use Rattle.model_laws.specs.Now.{time, current, half, first_of}
use Rattle.simset_laws.specs.Procedures.{empty_of}
use Rattle.simset_laws.specs.Sets.{no_links}
use Rattle.sheet.specs.declared.records.Record.{Record}
use Rattle.sheet.specs.Sheet.{counts_of, records_of, record_with, Sheet, sheet_of}
use Rattle.sheet.specs.Accepted.{is_operand, accepted, operand_base}
use Rattle.sheet.specs.Fields.{Ranged}
use Rattle.sheet.specs.Ranges.{record_listed, few_records}
use Rattle.trace.specs.Lines.{line_bytes}
use Rattle.machine.specs.Machine.{Machine}
use Rattle.machine.specs.Steps.{its_operand, call_of, next_of, record_of, record_now, line_now}
use Rattle.machine.specs.Run.{at_end}
use Rattle.run_laws.proofs.Resolving.{current_at_lem, time_at, operand_plain, operand_at_lem, empty_at}
use Rattle.run_laws.specs.Run.{RunTables, record_operand, resolved, call_due, record_at_now, line_in, ends_now}
use Rattle.run_laws.specs.Standing.{Stands, Standing, sized, ready, its_range}
use Rattle.run_laws.specs.Refine.{bytes_of}

module _ (bytes : List ℕ) (ok : accepted bytes ≡ true) (m : Machine) (u : RunTables)
    (g : Stands (counts_of bytes) (records_of bytes) m u) where
  abbrev c : Counts
  c = counts_of bytes

  abbrev s : Sheet
  s = sheet_of bytes

  abbrev l : Lists
  l = m.lists

  abbrev f : ℕ
  f = first_of (half (counts_of bytes)) u.model.axis

  pub stood : Standing c bytes u
  stood = record { ok = ok; counts = refl; machine = m; stands = g }

  pub fit : Sized c u.model
  fit = sized c bytes u stood

  -- ---- current's place and record

  pub current_is : c.heads + f ≡ current l
  current_is = current_at_lem c l u.model fit g.model

  -- place p holds what the machine has for process H + p
  pub place_is : (p : ℕ) → 0 < p → get_or u.positions p 0 ≡ get_or m.positions (c.heads + p - main c) 0
  place_is p a = ap (λ (k : List ℕ). get_or k p 0) g.positions ∙ go p a
    where
      go : (p : ℕ) → 0 < p → get_or (0 ∷ m.positions) p 0 ≡ get_or m.positions (c.heads + p - main c) 0
      go zero a = absurd (no a)
        where
          no : 0 < 0 → ⊥
          no z = omega arith
      go (suc i) a = ap (λ (j : ℕ). get_or m.positions j 0) (omega arith)

  pub record_is : record_at_now c u ≡ record_now s m
  unfolding sheet_of
  record_is = place_is f (ready c bytes u stood).first_some ∙ ap (λ (p : ℕ). get_or m.positions (p - main c) 0) current_is

  pub line_is : line_in c u ≡ bytes_of (line_now s m)
  line_is =
      ap (λ (t : ℕ). line_bytes t (linkage_at c f) (record_at_now c u)) (time_at c l u.model fit g.model)
      ∙ ap (λ (p : ℕ). line_bytes (time l) p (record_at_now c u)) current_is
      ∙ ap (λ (r : ℕ). line_bytes (time l) (current l) r) record_is

  pub ends_is : ends_now c u.model.axis u.positions ≡ at_end s m
  unfolding ends_now sheet_of
  ends_is =
      decide f 1
      (λ e. rw (eq-eqb f 1 e, eq-eqb (current l) (main c) (sym current_is ∙ ap (λ (p : ℕ). c.heads + p) e))
      (ap (λ (r : ℕ). eqb r 0) (ap (λ (p : ℕ). get_or u.positions p 0) (sym e) ∙ record_is)))
      (λ n. rw (ne_eqb f 1 n, ne_eqb (current l) (main c) (λ e. n (same f (current_is ∙ e)))))
    where
      same : (f : ℕ) → c.heads + f ≡ c.heads + 1 → f ≡ 1
      same f e = omega arith

  -- ---- the call

  -- record r of the sheet, where current is at one
  module _ (r : ℕ) (is : r ≡ record_now s m) (n : r ≢ 0) (most : r ≤ records_of bytes) where
    abbrev q : Record
    q = record_with (counts_of bytes).processes bytes r

    pub list_after : record_of s (record_now s m) ≡ q
    list_after = ap (record_of s) (sym is) ∙ record_listed bytes _ r (some r n) most
      where
        some : (r : ℕ) → r ≢ 0 → 1 ≤ r
        some r n = omega arith

    ranged : Ranged (record { counts = c; records = records_of bytes }) q
    ranged = its_range c bytes u stood r most n

    -- what v means on the tables, and on the lists
    abbrev on_tables : ℕ → ℕ
    on_tables v = record_operand c u.model.links (first_of (half c) u.model.axis) q v

    abbrev on_lists : ℕ → ℕ
    on_lists v = its_operand c q l v

    same_operand : (v : ℕ) → (is_operand c v ≡ true → on_tables v ≡ on_lists v) × (v < operand_base → on_tables v ≡ on_lists v)
    same_operand v = (
      λ o. operand_at_lem c l u.model fit g.model q.operation v o,
      λ b. let p = operand_plain c l u.model fit g.model q.operation v b in p.0 ∙ sym p.1,
    )

    x_is : on_tables q.x ≡ on_lists q.x
    x_is =
        decide q.operation 13
        (λ e. (same_operand q.x).1 (small q.x (ranged.x_accumulator e).1))
        (λ d. (same_operand q.x).0 (ranged.x_operand d))
      where
        small : (v : ℕ) → v ≤ 64 → v < operand_base
        small v b = omega arith

    y_is : on_tables q.y ≡ on_lists q.y
    y_is =
        decide q.operation 12
        (λ e. (same_operand q.y).1 (small q.y (records_of bytes) (ranged.y_record e) (few_records bytes ok)))
        (λ d. (same_operand q.y).0 (ranged.y_operand d))
      where
        small : (v R : ℕ) → v ≤ R → R ≤ 2000 → v < operand_base
        small v R a b = omega arith

    pub some_call : call_due (resolved c u.model.links (first_of (half c) u.model.axis) q)
        ≡ call_of q (on_lists q.x) (on_lists q.y)
    unfolding call_due resolved call_of
    some_call =
        rw (ne_eqb q.operation 0 (λ z. none q.operation ranged.operation_some z))
        (ap (λ (x : ℕ). call_of q x (on_tables q.y)) x_is ∙ ap (call_of q (on_lists q.x)) y_is)
      where
        none : (v : ℕ) → 1 ≤ v → v ≡ 0 → ⊥
        none v a b = omega arith

    -- where 12 is accepted its x is a head, so that both find it empty or neither
    pub some_next : (q.operation ≡ 12 → is_head c (on_lists q.x) ≡ true)
        → (resolved c u.model.links (first_of (half c) u.model.axis) q).next
        ≡ next_of q (no_links (members_of l.sets (on_lists q.x)))
    unfolding resolved next_of
    some_next h =
        decide q.operation 12
        (λ e. ap (λ (b : Bool). next_of q b)
        (ap (λ (x : ℕ). empty_of x u.model.links) x_is ∙ empty_at c l u.model fit g.model (on_lists q.x) (h e)))
        (λ d. rw (ne_eqb q.operation 12 d))
