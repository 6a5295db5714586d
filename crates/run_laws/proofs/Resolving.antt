-- Reading tables that spell the machine's lists: current, time, first members and so every operand are the machine's.
use Rattle.std.specs.Prelude.{ℕ, ◌+◌, ◌-◌, ◌<◌, ◌≤◌, ◌≡◌, refl, true, ltb, eqb}
use Rattle.std.proofs.Common.{ltb-false, lt-ltb}
use native.Mathlib.Omega.{arith}
use Rattle.std.proofs.lemmas.Bool.{eqb-false}
use Rattle.ring_laws.specs.Lists.{test}
use Rattle.ring_laws.specs.Rings.{Head}
use Rattle.model.specs.declared.Counts.{Counts}
use Rattle.model.specs.Counts.{total, is_head}
use Rattle.model_laws.specs.Tables.{Tables, Lists, Sized, set_head, members_of, Spells}
use Rattle.model_laws.proofs.NowLaws.{current_now, time_now}
use Rattle.model_laws.specs.Now.{time, current, time_of, half}
use Rattle.simset_laws.specs.Procedures as procedures
use Rattle.simset_laws.specs.Sets.{no_links}
use Rattle.simset_laws.specs.Laws.{set_head_lem}
use Rattle.simset_laws.specs.QueryLaws.{empty_says}
use Rattle.simset_laws.specs.Meaning.{head_of_lem}
use Rattle.sheet.specs.Accepted.{is_operand, operand_base}
use Rattle.sheet.specs.Fields.{operand_high}
use Rattle.machine.specs.Operands.{first_in, first_process, takes_process, member_meant, operand_of}
use Rattle.run_laws.specs.OnTables.{current_at, first_at, process_at, member_at, operand_with, operand_at}
use Rattle.run_laws.specs.Walking.{process_of}
use Rattle.run_laws.specs.Resolving.{first_of}

module _ (c : Counts) (l : Lists) (t : Tables) (w : Sized c t) (s : Spells c l t) where
  pub current_at_lem : current_at c t.axis ≡ current l
  current_at_lem = current_now c l t s

  pub time_at : time_of (half c) t.axis t.times ≡ time l
  time_at = time_now c l t s

  module _ (h : ℕ) (some : 1 ≤ h) (most : h ≤ c.heads) where
    head : Head (total c + 1) (set_head c.heads) h
    head = set_head_lem (total c + 1) c.heads h some most (omega arith)

    pub first_at_lem : first_at c t.links h ≡ first_in (members_of l.sets h)
    first_at_lem = first_of (total c + 1) c.heads l.sets t.links s.links h head

    -- request 2.4: the walk along the ring finds what the list says
    pub process_at_lem : process_at c t.links h ≡ first_process c (members_of l.sets h)
    process_at_lem = process_of c l.sets t.links s.links h head

    pub member_at_lem : (op : ℕ) → member_at c (takes_process op) t.links h ≡ member_meant c op (members_of l.sets h)
    member_at_lem op = test (takes_process op) (λ e. rw e process_at_lem) (λ e. rw e first_at_lem)

  -- a number below 65,536 stands for itself
  pub operand_plain : (op v : ℕ) → v < operand_base
      → (operand_at c (takes_process op) t.links t.axis v ≡ v) × (operand_of c op l v ≡ v)
  unfolding operand_with operand_of
  operand_plain op v h = rw (lt-ltb v operand_base h) (refl, refl)

  pub operand_at_lem : (op v : ℕ) → is_operand c v ≡ true → operand_at c (takes_process op) t.links t.axis v ≡ operand_of c op l v
  unfolding operand_with operand_of
  operand_at_lem op v o =
      test (ltb v operand_base)
      (λ e. rw e)
      (λ e. test (eqb v operand_base)
      (λ q. rw (e, q) current_at_lem)
      (λ q. let h = operand_high c w.allowed v o (above v (ltb-false v operand_base e) (eqb-false v operand_base q)) in
      rw (e, q) (member_at_lem (v - operand_base) h.0 h.1 op)))
    where
      above : (v : ℕ) → operand_base ≤ v → (v ≡ operand_base → ⊥) → operand_base < v
      above v a b = omega arith

  -- whether head x is empty
  pub empty_at : (x : ℕ) → is_head c x ≡ true → procedures.empty_of x t.links ≡ no_links (members_of l.sets x)
  empty_at x e = empty_says (total c + 1) c.heads l.sets t.links s.links (omega arith) x (head_of_lem c x e)
