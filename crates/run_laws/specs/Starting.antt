-- A fresh run and its first call in one, for a caller that brings tables of the right lengths and an accepted sheet.
use Rattle.std.specs.Prelude.{ℕ, ◌/◌, ◌≤◌, ◌≡◌, refl, true, List, length, Ok}
use Rattle.std.proofs.Common.{sym, ◌∙◌, subst}
use Rattle.std.proofs.Math.Path.{ap}
use Rattle.model.specs.declared.Counts.{Counts}
use Rattle.model.specs.Answers.{Verdict}
use Rattle.sheet.specs.declared.header.Header.{Header}
use Rattle.sheet.specs.Sheet.{counts_of, sheet_of}
use Rattle.sheet.specs.Accepted.{checked}
use Rattle.sheet.specs.Ranges.{checked_yes}
use Rattle.machine.specs.Machine.{fresh}
use Rattle.machine.specs.Run.{line_size, trace_limit}
use Rattle.run_laws.specs.Run.{RunTables, RanOn, turns_on}
use Rattle.run_laws.specs.Standing.{Standing}
use Rattle.run_laws.specs.Fresh.{fresh_run, Filled, sizes_fine, filled_for, fresh_stands}

pub record Startable (h : Header) (bytes : List ℕ) (u : RunTables) (tr : List ℕ) : Type 0 where
  pub ok : checked bytes ≡ Ok h
  pub sizes : sizes_fine h.counts u ≡ true
  pub short : length tr ≤ trace_limit

unfoldable pub started_on : Counts → List ℕ → List ℕ → RanOn
started_on c bytes tr = turns_on c bytes 0 (length tr / line_size) (fresh_run c bytes) tr

module _ (h : Header) (bytes : List ℕ) (u : RunTables) (tr : List ℕ) (s : Startable h bytes u tr) (v : RunTables) (a : Verdict)
    (e : record { run = v; answer = a } ≡ filled_for (Ok h) bytes u) where
  is_fresh : v ≡ fresh_run h.counts bytes
  is_fresh =
      let q : filled_for (Ok h) bytes u ≡ record { run = fresh_run h.counts bytes; answer = Ok tt } = rw s.sizes in
      ap (λ (o : Filled). o.run) (e ∙ q)

  fresh_standing : Standing h.counts bytes (fresh_run h.counts bytes)
  fresh_standing =
      let y = checked_yes bytes h s.ok in
      let q : h.counts ≡ counts_of bytes = ap (λ (k : Header). k.counts) y.1 in
      subst (λ (c : Counts). Standing c bytes (fresh_run c bytes)) (sym q)
      (record { ok = y.0; counts = refl; machine = fresh (sheet_of bytes); stands = fresh_stands bytes y.0 })

  pub filled_standing : Standing h.counts bytes v
  filled_standing = subst (Standing h.counts bytes) (sym is_fresh) fresh_standing

  pub started_is : (o : RanOn) → o ≡ turns_on h.counts bytes 0 (length tr / line_size) v tr → o ≡ started_on h.counts bytes tr
  unfolding started_on
  started_is o f = f ∙ ap (λ (w : RunTables). turns_on h.counts bytes 0 (length tr / line_size) w tr) is_fresh
