-- A run from call to call: each finds tables of a run and leaves such tables, with no more lines than the trace has room for.
use Prim.Native.Nat.{ℕ}
use Rattle.std.specs.Prelude.{◌≡◌, List}
use Rattle.std.proofs.Common.{ap, ◌∙◌}
use Rattle.model.specs.Answers.{Verdict}
use Rattle.sheet.specs.declared.header.Header.{Header}
use Rattle.run_laws.specs.Run.{RunTables}
use Rattle.run_laws.specs.Standing.{Standing}
use Rattle.run_laws.specs.Fresh.{filled_for, filled}
use Rattle.run_laws.specs.Starting.{Startable, filled_standing}
use Rattle.sheet.specs.Accepted.{Checked}

-- the tables of a fresh run are some machine's
pub fresh_stands_on : (h : Header) (bytes : List ℕ) (u : RunTables) (tr : List ℕ) → Startable h bytes u tr → (v : RunTables) (a : Verdict)
    → record { run = v; answer = a } ≡ filled bytes u → Standing h.counts bytes v
unfolding filled
fresh_stands_on h bytes u tr s v a e = filled_standing h bytes u tr s v a (e ∙ ap (λ (k : Checked). filled_for k bytes u) s.ok)
