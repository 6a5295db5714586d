-- The judge of a run: its answer from the code's tests, and that a run it passes is some machine's.
use Rattle.std.specs.Prelude.{ℕ, zero, suc, ◌+◌, ◌*◌, ◌≤◌, ◌<◌, ◌≡◌, refl, ◌≢◌, Bool, true, false, not, ◌&&◌, List, [], ◌∷◌, leb, eqb, ℤ, length, get_or, drop, Ok, Err}
use Rattle.std.proofs.Math.Path.{sym, ap}
use Rattle.std.proofs.Common.{◌∙◌, subst, arith}
use Rattle.std.proofs.Math.ListN.{get_or-eq_default}
use borrow.Author.Tests.{eq-eqb, ne_eqb, eqb-true, leb-true, le-leb, lt-leb, not-true, not-false}
use Rattle.ring_laws.specs.Lists.{below, test, clash}
use Rattle.model.specs.declared.Counts.{Counts}
use Rattle.model.specs.declared.Refusal.{Refusal}
use Rattle.model.specs.declared.Refusal.TheVariants.{Size}
use Rattle.model.specs.Counts.{both}
use Rattle.model.specs.Answers.{Verdict}
use Rattle.model_laws.specs.Judge.{lengths_fine, judged, positions_judged}
use Rattle.model_laws.proofs.Verdict.{judged_says}
use Rattle.model_laws.specs.Positions.{Positions}
use Rattle.model_laws.proofs.PositionsVerdict.{positions_say}
use Rattle.accum_laws.specs.declared.Accumulator.{Accumulator}
use Rattle.accum_laws.specs.Triples.{flat}
use Rattle.sheet.specs.declared.header.Header.{Header}
use Rattle.sheet.specs.Sheet.{counts_of, records_of}
use Rattle.sheet.specs.Accepted.{accepted, checked}
use Rattle.sheet.specs.Ranges.{checked_yes}
use Rattle.run_laws.specs.Run.{RunTables, after_tables, run_judged, run_words}
use Rattle.run_laws.specs.Standing.{Standing}
use Rattle.machine.specs.Run.{trace_limit}

-- ---- the code's tests, one after the other

module _ (c : Counts) (R : ℕ) (u : RunTables) (len : ℕ) (a : Bool) (ea : a ≡ lengths_fine c u.model) where
  pub model_sizes : not a ≡ true → Err Size ≡ run_judged c R u len
  unfolding run_judged
  model_sizes n = rw (sym ea ∙ not-true a n)

  module _ (na : not a ≡ false) where
    pub positions_size : (p : ℕ) → p ≡ c.processes → length u.positions ≢ p + 1 → Err Size ≡ run_judged c R u len
    unfolding run_judged
    positions_size p e n = rw (
      sym ea ∙ not-false a na,
      ne_eqb (length u.positions) (c.processes + 1)
          (λ q. n (q ∙ ap (λ (k : ℕ). k + 1) (sym e))),
    )

    module _ (p : ℕ) (ep : p ≡ c.processes) (np : length u.positions ≡ p + 1) where
      at : length u.positions ≡ c.processes + 1
      at = np ∙ ap (λ (k : ℕ). k + 1) ep

      pub words_size : length u.words ≢ run_words → Err Size ≡ run_judged c R u len
      unfolding run_judged
      words_size n = rw (
        sym ea ∙ not-false a na,
        eq-eqb (length u.positions) (c.processes + 1) at,
        ne_eqb (length u.words) run_words n,
      )

      module _ (nw : length u.words ≡ run_words) where
        pub trace_size : trace_limit < len → Err Size ≡ run_judged c R u len
        unfolding run_judged
        trace_size n =
            rw (
              sym ea ∙ not-false a na,
              eq-eqb (length u.positions) (c.processes + 1) at,
              eq-eqb (length u.words) run_words nw,
              lt-leb len trace_limit n,
            )

        module _ (nt : len ≤ trace_limit) where
          sizes : run_judged c R u len ≡ after_tables (judged c u.model) (positions_judged c R u.positions)
          unfolding run_judged
          sizes = rw (
            sym ea ∙ not-false a na,
            eq-eqb (length u.positions) (c.processes + 1) at,
            eq-eqb (length u.words) run_words nw,
            le-leb len trace_limit nt,
          )

          pub tables_not : (v : Verdict) (q : Refusal) → v ≡ judged c u.model → v ≡ Err q → Err q ≡ run_judged c R u len
          tables_not v q e f = sym (sizes ∙ ap (λ (w : Verdict). after_tables w (positions_judged c R u.positions)) (sym e ∙ f))

          pub tables_fine_lem : (v w : Verdict) → v ≡ judged c u.model → v ≡ (Ok tt) → w ≡ positions_judged c R u.positions
              → w ≡ run_judged c R u len
          tables_fine_lem v w e f g = g ∙ sym (sizes ∙ ap (λ (x : Verdict). after_tables x (positions_judged c R u.positions)) (sym e ∙ f))

-- ---- what fine says

pub record RunPassed (c : Counts) (R : ℕ) (u : RunTables) (len : ℕ) : Type 0 where
  pub tables : judged c u.model ≡ (Ok tt)
  pub positions : positions_judged c R u.positions ≡ (Ok tt)
  pub words : length u.words ≡ run_words
  pub short : len ≤ trace_limit

after_fine : (v w : Verdict) → after_tables v w ≡ (Ok tt) → (v ≡ (Ok tt)) × (w ≡ (Ok tt))
after_fine (Ok tt) w e = (refl, e)
after_fine (Err r) w e = let y : false ≡ true = cc in clash y

pub judged_fine : (c : Counts) (R : ℕ) (u : RunTables) (len : ℕ) → run_judged c R u len ≡ (Ok tt) → RunPassed c R u len
unfolding run_judged
judged_fine c R u len e =
    test (lengths_fine c u.model && (eqb (length u.positions) (c.processes + 1)
    && (eqb (length u.words) run_words && leb len trace_limit)))
    (λ t.
    let p = both (eqb (length u.positions) (c.processes + 1)) _ (both (lengths_fine c u.model) _ t).1 in
    let q = both (eqb (length u.words) run_words) (leb len trace_limit) p.1 in
    let f = after_fine (judged c u.model) (positions_judged c R u.positions) (rw t at e) in
    record { tables = f.0; positions = f.1; words = eqb-true _ _ q.0; short = leb-true _ _ q.1 })
    (λ t. let z : Err Size ≡ (Ok tt) = rw t at e in let y : false ≡ true = cc in clash y)

-- ---- the machine that is read off the tables

-- the accumulators of words, three for each
abbrev triples_of : List ℤ → List Accumulator
triples_of [] = []
triples_of (a ∷ []) = []
triples_of (a ∷ b ∷ []) = []
triples_of (a ∷ b ∷ c ∷ w) = record { a = a; b = b; c = c } ∷ triples_of w

triples_are : (n : ℕ) (w : List ℤ) → length w ≡ 3 * n → (w ≡ flat (triples_of w)) × (length (triples_of w) ≡ n)
triples_are zero [] e = (refl, refl)
triples_are zero (a ∷ w) e = absurd (no (length w) e)
  where
    no : (k : ℕ) → suc k ≡ 0 → ⊥
    no k e = omega arith
triples_are (suc n) [] e = absurd (no n e)
  where
    no : (n : ℕ) → 0 ≡ 3 * suc n → ⊥
    no n e = omega arith
triples_are (suc n) (a ∷ []) e = absurd (no n e)
  where
    no : (n : ℕ) → 1 ≡ 3 * suc n → ⊥
    no n e = omega arith
triples_are (suc n) (a ∷ b ∷ []) e = absurd (no n e)
  where
    no : (n : ℕ) → 2 ≡ 3 * suc n → ⊥
    no n e = omega arith
triples_are (suc n) (a ∷ b ∷ c ∷ w) e =
    let r = triples_are n w (omega arith) in
    (ap (λ (l : List ℤ). a ∷ b ∷ c ∷ l) r.0, ap suc r.1)

-- place 0 and the rest
split_positions : (ps : List ℕ) (n : ℕ) → length ps ≡ n + 1 → get_or ps 0 0 ≡ 0 → (ps ≡ 0 ∷ drop 1 ps) × (length (drop 1 ps) ≡ n)
split_positions [] n e z = absurd (no n e)
  where
    no : (n : ℕ) → 0 ≡ n + 1 → ⊥
    no n e = omega arith
split_positions (p ∷ ps) n e z = (ap (λ (k : ℕ). k ∷ ps) z, omega arith)

rest_at : (ps : List ℕ) (R : ℕ) → ((y : ℕ) → get_or ps y 0 ≤ R) → (i : ℕ) → get_or (drop 1 ps) i 0 ≤ R
rest_at [] R f i = omega arith
rest_at (p ∷ ps) R f i = f (suc i)

module _ (bytes : List ℕ) (c : Counts) (ok : accepted bytes ≡ true) (is : c ≡ counts_of bytes) (u : RunTables) (len : ℕ)
    (p : RunPassed c (records_of bytes) u len) where
  its_positions : (length u.positions ≡ c.processes + 1) × Positions c (records_of bytes) u.positions
  its_positions = (positions_say c (records_of bytes) u.positions).fine_only p.positions

  within : (y : ℕ) → get_or u.positions y 0 ≤ records_of bytes
  within y =
      below c.processes y
      (λ b. omega (arith, get_or-eq_default u.positions 0 {n = y} (omega (arith, its_positions.0))))
      (λ b. its_positions.1.in_sheet y b)

  -- a run that passes the judge is some machine's
  pub passed_standing : Standing c bytes u
  passed_standing =
      let t = (judged_says c u.model).fine_only p.tables in
      let q = split_positions u.positions c.processes its_positions.0 its_positions.1.zero_is in
      let w = triples_are 64 u.words p.words in
      record {
        ok = ok;
        counts = is;
        machine = record { lists = t.1.0; positions = drop 1 u.positions; triples = triples_of u.words };
        stands =
            record {
              model = t.1.1;
              positions = q.0;
              words = w.0;
              positions_all = q.1;
              positions_in = rest_at u.positions (records_of bytes) within;
              triples_all = w.1;
            };
      }

-- the code's way: the sheet accepted with this header, the run judged fine
pub fine_standing : (bytes : List ℕ) (h : Header) (u : RunTables) (len : ℕ) → checked bytes ≡ Ok h
    → run_judged h.counts h.records u len ≡ (Ok tt)
    → Standing h.counts bytes u × (len ≤ trace_limit)
fine_standing bytes h u len e f =
    let y = checked_yes bytes h e in
    let p : RunPassed h.counts (records_of bytes) u len = judged_fine h.counts (records_of bytes) u len
    (subst (λ (R : ℕ). run_judged h.counts R u len ≡ (Ok tt)) (ap (λ (k : Header). k.records) y.1) f) in
    (passed_standing bytes h.counts y.0 (ap (λ (k : Header). k.counts) y.1) u len p, p.short)
