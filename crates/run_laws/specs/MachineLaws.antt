-- The laws of the machine, for every accepted sheet and any number of steps: what is kept, that time never goes back, and the order of
-- ties. This file answers the auditor's two questions on the machine.
use Prim.Native.Nat.{ℕ, suc, ◌-◌, ◌≤◌}
use Rattle.std.specs.Prelude.{◌≡◌, true, List}
use Rattle.std.proofs.Common.{sym}
use Rattle.std.proofs.Math.Path.{subst}
use native.Mathlib.Omega.{arith}
use Rattle.std.proofs.Math.ListN.{length, get_or, get_or-eq_default}
use Rattle.ring_laws.specs.Lists.{below}
use Rattle.model_laws.specs.Now.{time}
use Rattle.sheet.specs.Sheet.{counts_of, records_of, start_at, Sheet, sheet_of}
use Rattle.sheet.specs.Accepted.{header_of, accepted}
use Rattle.sheet.specs.Fields.{Ranged}
use Rattle.sheet.specs.Ranges.{starts_listed, records_listed, start_listed, record_listed, allowed_counts, start_in, record_in}
use Rattle.machine.specs.Steps.{record_of}
use Rattle.machine.specs.Run.{state}
use Rattle.machine.specs.History.{Ties}
use Rattle.machine_laws.specs.Invariant.{InRange, Invariant}
use Rattle.machine_laws.specs.GoesFirst.{GoesFirst}

-- after n steps
pub record Laws (s : Sheet) (n : ℕ) : Type 0 where
  pub kept : Invariant s (state s n)
  pub forward : time (state s n).lists ≤ time (state s (suc n)).lists
  pub ties : Ties s n
  pub goes_first : GoesFirst s n

-- ---- an accepted sheet is in range

module _ (bytes : List ℕ) (is : accepted bytes ≡ true) where
  pub accepted_range : InRange (sheet_of bytes)
  unfolding sheet_of
  accepted_range =
      record {
        allowed = allowed_counts bytes is;
        starts_all = starts_listed bytes;
        starts_in_lem = λ i.
            let R : length (sheet_of bytes).records ≡ records_of bytes = records_listed bytes in
            below i (counts_of bytes).processes
            (λ l.
            let q : suc i - 1 ≡ i = omega arith in
            omega (
              arith,
              R,
              subst (λ (j : ℕ). get_or (sheet_of bytes).starts j 0 ≡ start_at bytes (suc i)) q
                  (start_listed bytes 0 (suc i) (omega arith) (omega arith)),
              start_in bytes is (suc i) (omega arith) (omega arith),
            ))
            (λ l. omega (arith, get_or-eq_default (sheet_of bytes).starts 0 {n = i} (omega (arith, starts_listed bytes))));
        record_in = λ r a b.
            let R : length (sheet_of bytes).records ≡ records_of bytes = records_listed bytes in
            let c : r ≤ records_of bytes = omega arith in
            subst (λ (n : ℕ). Ranged (record { counts = counts_of bytes; records = n }) (record_of (sheet_of bytes) r)) (sym R)
            (subst (Ranged (header_of bytes)) (sym (record_listed bytes _ r a c)) (record_in bytes is r a c));
      }
