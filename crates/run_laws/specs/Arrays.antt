-- Local arrays of the greatest lengths, for a caller that keeps a run's tables: their first parts have a sheet's lengths.
use Rattle.std.specs.Prelude.{ℕ, ◌+◌, ◌*◌, ◌≤◌, ◌≡◌, List, pos, length, take, replicate, Ok}
use Rattle.std.proofs.Common.{sym, ap, ◌∙◌, subst, arith, eq-eqb}
use Rattle.std.proofs.lemmas.List.{length-replicate}
use Rattle.model.specs.Counts.{Allowed, total}
use Rattle.model_laws.specs.Judge.{lengths_fine}
use Rattle.sheet.specs.declared.header.Header.{Header}
use Rattle.sheet.specs.Accepted.{checked}
use Rattle.sheet.specs.Ranges.{checked_yes, allowed_counts}
use Rattle.run_laws.specs.Run.{RunTables, run_words}
use Rattle.run_laws.specs.Fresh.{sizes_fine}
use Rattle.run_laws.specs.Starting.{Startable}
use Rattle.run_laws.specs.Parts.{part_length}
use Rattle.machine.specs.Run.{trace_limit}

-- the counts of an accepted sheet are in their limits
pub header_allowed : (bytes : List ℕ) (h : Header) → checked bytes ≡ Ok h → Allowed h.counts
header_allowed bytes h e =
    let y = checked_yes bytes h e in
    subst Allowed (sym (ap (λ (k : Header). k.counts) y.1)) (allowed_counts bytes y.0)

-- tables of these lengths will do
pub startable : (h : Header) (bytes : List ℕ) (u : RunTables) (tr : List ℕ) → checked bytes ≡ Ok h → length tr ≤ trace_limit
    → length u.model.links ≡ 2 * (total h.counts + 1) → length u.model.axis ≡ 2 * (h.counts.processes + 2)
    → length u.model.times ≡ h.counts.processes + 1 → length u.model.marks ≡ h.counts.processes + 1
    → length u.positions ≡ h.counts.processes + 1 → length u.words ≡ run_words → Startable h bytes u tr
unfolding sizes_fine lengths_fine
startable h bytes u tr ok short l a t m p w =
    record {
      ok = ok;
      sizes = rw (eq-eqb _ _ p, eq-eqb _ _ w, eq-eqb _ _ l, eq-eqb _ _ a, eq-eqb _ _ t, eq-eqb _ _ m);
      short = short;
    }

-- ---- the local arrays, cut to N = H + P + L and P

module _ (bytes : List ℕ) (h : Header) (ok : checked bytes ≡ Ok h) (N : ℕ) (eN : N ≡ total h.counts) (P : ℕ)
    (eP : P ≡ h.counts.processes) where
  its : Allowed h.counts
  its = header_allowed bytes h ok

  pub links_in : N + 1 + (N + 1) ≤ 8194
  links_in = omega (arith, its.heads_in, its.processes_in, its.plains_in)

  pub axis_in : P + 1 + (P + 1) + 2 ≤ 2052
  axis_in = omega (arith, its.processes_in)

  pub one_in : P + 1 ≤ 1025
  one_in = omega (arith, its.processes_in)

  pub links_part : N + 1 + (N + 1) ≡ length {A = ℕ} (take (N + 1 + (N + 1)) (replicate 8194 0))
  links_part = sym (part_length (N + 1 + (N + 1)) 8194 0 links_in)

  pub axis_part : P + 1 + (P + 1) + 2 ≡ length {A = ℕ} (take (P + 1 + (P + 1) + 2) (replicate 2052 0))
  axis_part = sym (part_length (P + 1 + (P + 1) + 2) 2052 0 axis_in)

  pub one_part : P + 1 ≡ length {A = ℕ} (take (P + 1) (replicate 1025 0))
  one_part = sym (part_length (P + 1) 1025 0 one_in)

  one_length : length {A = ℕ} (take (P + 1) (replicate 1025 0)) ≡ h.counts.processes + 1
  one_length = sym one_part ∙ ap (λ (k : ℕ). k + 1) eP

  pub lent_startable : (tr : List ℕ) → length tr ≤ trace_limit
      → Startable h bytes
      (record {
        model =
            record {
              links = take (N + 1 + (N + 1)) (replicate 8194 0);
              axis = take (P + 1 + (P + 1) + 2) (replicate 2052 0);
              times = take (P + 1) (replicate 1025 0);
              marks = take (P + 1) (replicate 1025 0);
            };
        positions = take (P + 1) (replicate 1025 0);
        words = replicate run_words (pos 0);
      })
      tr
  lent_startable tr short =
      startable h bytes _ tr ok short
      (sym links_part ∙ omega (arith, eN))
      (sym axis_part ∙ omega (arith, eP))
      one_length one_length one_length (length-replicate run_words (pos 0))
