-- The loops and calls that fill the tables of a fresh run.
use Rattle.std.specs.Prelude.{ℕ, zero, suc, ◌+◌, ◌*◌, ◌≤◌, ◌<◌, ◌≡◌, refl, ◌≢◌, List, ℤ, pos, length, get_or, set, if◌then◌else◌, Ok, Err}
use Rattle.std.proofs.Math.Path.{sym, ap}
use Rattle.std.proofs.Common.{◌∙◌, subst, arith, length-set, ext_get_or, get_or-set_same, get_or-set_other}
use Rattle.std.proofs.Math.Bool.{true, false}
use Rattle.std.proofs.Math.ListN.{replicate}
use Rattle.std.proofs.lemmas.List.{length-replicate}
use borrow.Author.Tests.{eq-eqb, ne_eqb}
use Rattle.ring_laws.specs.Lists.{decide, test, clash}
use Rattle.ring_laws.specs.Tabulate.{at_table}
use Rattle.model.specs.declared.Counts.{Counts}
use Rattle.model.specs.declared.Refusal.{Refusal}
use Rattle.model.specs.declared.Refusal.TheVariants.{Size}
use Rattle.model.specs.Counts.{in_limits, allowed_limits}
use Rattle.model.specs.Answers.{Verdict}
use Rattle.model_laws.specs.Tables.{Tables, After}
use Rattle.model_laws.specs.Judge.{lengths_fine}
use Rattle.model_laws.specs.Fresh.{fresh_tables, freshed}
use Rattle.sheet.specs.declared.header.Header.{Header}
use Rattle.sheet.specs.Sheet.{counts_of, start_offset, start_at, header_bytes}
use Rattle.sheet.specs.Accepted.{Checked, checked}
use Rattle.sheet.specs.Ranges.{checked_yes, allowed_counts, exact_length}
use Rattle.run_laws.specs.Run.{run_of, RunTables, run_words}
use Rattle.run_laws.specs.Fresh.{starts_are, fresh_run, Filled, sizes_fine, filled_for, filled}

-- ---- zeros in the accumulators' words, up to i

pub record Cleared (t₀ t : List ℤ) (i : ℕ) : Type 0 where
  pub same : length t ≡ length t₀
  pub few : i ≤ length t₀
  pub zeros : (y : ℕ) → y < i → get_or t y (pos 0) ≡ pos 0

pub cleared_start : (t : List ℤ) → Cleared t t 0
cleared_start t = record { same = refl; few = omega arith; zeros = λ y l. absurd (none y l) }
  where
    none : (y : ℕ) → y < 0 → ⊥
    none y l = omega arith

zeros_at : (n y : ℕ) → get_or (replicate n (pos 0)) y (pos 0) ≡ pos 0
zeros_at zero y = refl
zeros_at (suc n) zero = refl
zeros_at (suc n) (suc y) = zeros_at n y

module _ (t₀ t : List ℤ) (i : ℕ) (z : Cleared t₀ t i) where
  pub cleared_turn : i < length t → (v : ℤ) → v ≡ pos 0 → Cleared t₀ (set t i v) (i + 1)
  cleared_turn l v e =
      record {
        same = length-set t i v ∙ z.same;
        few = omega (arith, z.same);
        zeros = λ y b.
            decide y i
            (λ q. rw q (get_or-set_same t i v (pos 0) l ∙ e))
            (λ n. get_or-set_other t i y v (pos 0) n ∙ z.zeros y (omega arith));
      }

  pub cleared_out : length t ≤ i → t ≡ replicate (length t₀) (pos 0)
  cleared_out l =
      ext_get_or (pos 0) t (replicate (length t₀) (pos 0)) (z.same ∙ sym (length-replicate (length t₀) (pos 0)))
      (λ y b. z.zeros y (omega arith) ∙ sym (zeros_at (length t₀) y))

-- ---- starts at the places 1 .. p

pub record Starting (bytes : List ℕ) (P : ℕ) (ps : List ℕ) (p : ℕ) : Type 0 where
  pub size : length ps ≡ P + 1
  pub place_0 : get_or ps 0 0 ≡ 0
  pub few : p ≤ P
  pub starts : (y : ℕ) → 0 < y → y ≤ p → get_or ps y 0 ≡ start_at bytes y

pub starting : (bytes : List ℕ) (P n : ℕ) (ps : List ℕ) → n ≡ P → length ps ≡ P + 1 → Starting bytes n (set ps 0 0) 0
starting bytes P n ps e l =
    record {
      size = length-set ps 0 0 ∙ l ∙ ap (λ (k : ℕ). k + 1) (sym e);
      place_0 = get_or-set_same ps 0 0 0 (omega arith);
      few = omega arith;
      starts = λ y a b. absurd (none y a b);
    }
  where
    none : (y : ℕ) → 0 < y → y ≤ 0 → ⊥
    none y a b = omega arith

module _ (bytes : List ℕ) (n : ℕ) (ps : List ℕ) (p : ℕ) (z : Starting bytes n ps p) where
  pub start_inside : (P : ℕ) → n ≡ P → p < n → header_bytes + 4 * P ≤ length bytes → start_offset (p + 1) + 4 ≤ length bytes
  start_inside P e l b = omega arith

  pub starting_turn : p < n → (v : ℕ) → v ≡ start_at bytes (p + 1) → Starting bytes n (set ps (p + 1) v) (p + 1)
  starting_turn l v e =
      record {
        size = length-set ps (p + 1) v ∙ z.size;
        place_0 = get_or-set_other ps (p + 1) 0 v 0 (λ q. none p q) ∙ z.place_0;
        few = omega arith;
        starts = λ y a b.
            decide y (p + 1)
            (λ q. rw q (get_or-set_same ps (p + 1) v 0 (omega (arith, z.size)) ∙ e))
            (λ d. get_or-set_other ps (p + 1) y v 0 d ∙ z.starts y a (omega arith));
      }
    where
      none : (p : ℕ) → 0 ≡ p + 1 → ⊥
      none p q = omega arith

  pub starting_out : (P : ℕ) → n ≡ P → n ≤ p → ps ≡ starts_are P bytes
  starting_out P e l =
      at_table (start_at bytes) P ps (z.size ∙ ap (λ (k : ℕ). k + 1) e) z.place_0 (λ y a b. z.starts y a (omega (arith, z.few)))

-- ---- the call

module _ (bytes : List ℕ) (u : RunTables) (h : Header) where
  pub fill_positions : (p : ℕ) → p ≡ h.counts.processes → length u.positions ≢ p + 1
      → record { run = u; answer = Err Size } ≡ filled_for (Ok h) bytes u
  unfolding sizes_fine
  fill_positions p e n = rw (ne_eqb (length u.positions) (h.counts.processes + 1) (λ q. n (q ∙ ap (λ (k : ℕ). k + 1) (sym e))))

  module _ (p : ℕ) (e : p ≡ h.counts.processes) (np : length u.positions ≡ p + 1) where
    pub at : length u.positions ≡ h.counts.processes + 1
    at = np ∙ ap (λ (k : ℕ). k + 1) e

    pub fill_words : length u.words ≢ run_words → record { run = u; answer = Err Size } ≡ filled_for (Ok h) bytes u
    unfolding sizes_fine
    fill_words n = rw (eq-eqb (length u.positions) (h.counts.processes + 1) at, ne_eqb (length u.words) run_words n)

    module _ (nw : length u.words ≡ run_words) (ok : checked bytes ≡ Ok h) where
      allowed : in_limits h.counts ≡ true
      allowed =
          let y = checked_yes bytes h ok in
          subst (λ (k : Counts). in_limits k ≡ true) (sym (ap (λ (k : Header). k.counts) y.1))
          (allowed_limits (counts_of bytes) (allowed_counts bytes y.0))

      pub starts_inside : header_bytes + 4 * h.counts.processes ≤ length bytes
      starts_inside =
          let y = checked_yes bytes h ok in
          let q : h.counts.processes ≡ (counts_of bytes).processes = ap (λ (k : Header). k.counts.processes) y.1 in
          omega (arith, exact_length bytes y.0)

      -- by the model's answer
      model_says : freshed h.counts u.model
          ≡ (if lengths_fine h.counts u.model
          then record { tables = fresh_tables h.counts; answer = Ok tt }
          else record { tables = u.model; answer = Err Size })
      unfolding freshed
      model_says = rw allowed

      pub fill_model : (t : Tables) (q : Refusal) (v : Verdict) → v ≡ Err q
          → record { tables = t; answer = v } ≡ freshed h.counts u.model
          → record { run = run_of t u.positions u.words; answer = Err q } ≡ filled_for (Ok h) bytes u
      unfolding sizes_fine
      fill_model t q v ev g =
          let f : record { tables = t; answer = Err q } ≡ freshed h.counts u.model =
          sym (ap (λ (w : Verdict). record { tables = t; answer = w }) ev) ∙ g in
          test (lengths_fine h.counts u.model)
          (λ l. let z : record { tables = t; answer = Err q } ≡ record { tables = fresh_tables h.counts; answer = Ok tt } = f
          ∙ model_says ∙ (rw l) in
          let w : Err q ≡ (Ok tt) = ap (λ (a : After Verdict). a.answer) z in let y : false ≡ true = cc in clash y)
          (λ l. let z : record { tables = t; answer = Err q } ≡ record { tables = u.model; answer = Err Size } = f ∙ model_says
          ∙ (rw l) in
          rw (eq-eqb (length u.positions) (h.counts.processes + 1) at, eq-eqb (length u.words) run_words nw, l)
          (ap (λ (a : After Verdict). record { run = run_of a.tables u.positions u.words; answer = a.answer }) z))

      pub fill_all : (t : Tables) (ps : List ℕ) (w : List ℤ) (v : Verdict) → v ≡ (Ok tt)
          → record { tables = t; answer = v } ≡ freshed h.counts u.model
          → ps ≡ starts_are h.counts.processes bytes → w ≡ replicate (length u.words) (pos 0)
          → record { run = run_of t ps w; answer = Ok tt } ≡ filled_for (Ok h) bytes u
      unfolding sizes_fine fresh_run
      fill_all t ps w v ev f eps ew =
          test (lengths_fine h.counts u.model)
          (λ l. let z : record { tables = t; answer = v } ≡ record { tables = fresh_tables h.counts; answer = Ok tt } = f ∙ model_says
          ∙ (rw l) in
          let y : t ≡ fresh_tables h.counts = ap (λ (a : After Verdict). a.tables) z in
          rw (eq-eqb (length u.positions) (h.counts.processes + 1) at, eq-eqb (length u.words) run_words nw, l)
          (λ i. record { run = run_of (y i) (eps i) ((ew ∙ ap (λ (n : ℕ). replicate n (pos 0)) nw) i); answer = Ok tt }))
          (λ l. let z : record { tables = t; answer = v } ≡ record { tables = u.model; answer = Err Size } = f ∙ model_says ∙ (rw l) in
          let w : (Ok tt) ≡ Err Size = sym ev ∙ ap (λ (a : After Verdict). a.answer) z in let y : false ≡ true = cc in clash y)

module _ (bytes : List ℕ) (u : RunTables) (k : Checked) (ek : k ≡ checked bytes) where
  pub filled_8 : (q : Refusal) → k ≡ Err q → record { run = u; answer = Err q } ≡ filled bytes u
  unfolding filled
  filled_8 q e = sym (ap (λ (w : Checked). filled_for w bytes u) (sym ek ∙ e))

  pub filled_accepted : (h : Header) (o : Filled) → k ≡ Ok h → o ≡ filled_for (Ok h) bytes u → o ≡ filled bytes u
  unfolding filled
  filled_accepted h o e f = f ∙ sym (ap (λ (w : Checked). filled_for w bytes u) (sym ek ∙ e))
