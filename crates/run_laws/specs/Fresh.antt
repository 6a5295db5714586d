-- "a fresh run starts with the sheet's starts, the fresh model and zeros": its tables, and that they are the fresh machine's.
use Rattle.std.specs.Prelude.{ℕ, zero, suc, ◌+◌, ◌*◌, ◌≤◌, ◌≡◌, refl, Bool, true, ◌&&◌, List, ◌∷◌, eqb, ℤ, pos, length, get_or, replicate, if◌then◌else◌, Ok, Err}
use Rattle.std.proofs.Common.{ap, ◌∙◌, subst, arith}
use Rattle.std.proofs.lemmas.List.{length-replicate}
use Rattle.ring_laws.specs.Tabulate.{listed}
use Rattle.model.specs.declared.Counts.{Counts}
use Rattle.model.specs.declared.Refusal.TheVariants.{Size}
use Rattle.model.specs.Answers.{Verdict}
use Rattle.model_laws.specs.Judge.{lengths_fine}
use Rattle.model_laws.specs.Fresh.{fresh_tables, fresh_spells}
use Rattle.accum_laws.specs.Keeps.{zero_accumulator}
use Rattle.accum_laws.specs.Triples.{flat}
use Rattle.sheet.specs.Sheet.{counts_of, records_of, start_at, sheet_of}
use Rattle.sheet.specs.Accepted.{Checked, accepted, checked}
use Rattle.sheet.specs.Ranges.{records_listed}
use Rattle.machine.specs.Machine.{fresh}
use Rattle.run_laws.specs.MachineLaws.{accepted_range}
use Rattle.run_laws.specs.Run.{run_of, RunTables, run_words}
use Rattle.run_laws.specs.Standing.{Stands}

-- "place 0 zero", and the record where each process begins
abbrev pub starts_are : ℕ → List ℕ → List ℕ
starts_are P bytes = 0 ∷ listed (start_at bytes) 1 P

unfoldable pub fresh_run : Counts → List ℕ → RunTables
fresh_run c bytes = run_of (fresh_tables c) (starts_are c.processes bytes) (replicate run_words (pos 0))

-- tables of the right lengths are filled; else refusal 8 or 1, and they are left alone
pub record Filled : Type 0 where
  pub run : RunTables
  pub answer : Verdict

unfoldable pub sizes_fine : Counts → RunTables → Bool
sizes_fine c u = eqb (length u.positions) (c.processes + 1) && (eqb (length u.words) run_words && lengths_fine c u.model)

abbrev pub filled_for : Checked → List ℕ → RunTables → Filled
filled_for (Ok h) bytes u =
    if sizes_fine h.counts u then record { run = fresh_run h.counts bytes; answer = Ok tt } else record { run = u; answer = Err Size }
filled_for (Err r) bytes u = record { run = u; answer = Err r }

unfoldable pub filled : List ℕ → RunTables → Filled
filled bytes u = filled_for (checked bytes) bytes u

-- ---- they are the fresh machine's

zeros_flat : (n : ℕ) → replicate (3 * n) (pos 0) ≡ flat (replicate n zero_accumulator)
zeros_flat zero = refl
zeros_flat (suc n) =
    let e : 3 * suc n ≡ suc (suc (suc (3 * n))) = omega arith in
    ap (λ (k : ℕ). replicate k (pos 0)) e ∙ ap (λ (l : List ℤ). pos 0 ∷ pos 0 ∷ pos 0 ∷ l) (zeros_flat n)

pub fresh_stands : (bytes : List ℕ) → accepted bytes ≡ true
    → Stands (counts_of bytes) (records_of bytes) (fresh (sheet_of bytes)) (fresh_run (counts_of bytes) bytes)
unfolding fresh fresh_run sheet_of
fresh_stands bytes ok =
    let r = accepted_range bytes ok in
    record {
      model = fresh_spells (counts_of bytes) r.allowed;
      positions = refl;
      words = zeros_flat 64;
      positions_all = r.starts_all;
      positions_in = λ i. subst (λ (n : ℕ). get_or (sheet_of bytes).starts i 0 ≤ n) (records_listed bytes) (r.starts_in_lem i);
      triples_all = length-replicate 64 zero_accumulator;
    }
