-- A run's tables that spell a machine: what a step's code needs follows from that.
use Rattle.std.specs.Prelude.{ℕ, zero, suc, ◌+◌, ◌≤◌, ◌<◌, ◌≡◌, ◌≢◌, true, List, ◌∷◌, length, get_or}
use Rattle.std.proofs.Common.{sym, ap, ◌∙◌, subst, arith}
use Rattle.model.specs.declared.Counts.{Counts}
use Rattle.model.specs.Counts.{Allowed}
use Rattle.model_laws.specs.Tables.{Sized, Spells}
use Rattle.model_laws.specs.Ready.{Ready, formed_ready}
use Rattle.model_laws.specs.Once.{spelled_sized}
use Rattle.model_laws.specs.Now.{half, time_of, first_of}
use Rattle.simset_laws.specs.BoundLaws.{Linking}
use Rattle.simulation_laws.specs.Promise.{Judged, ready_judged}
use Rattle.accum_laws.specs.Triples.{flat, flat_length}
use Rattle.sheet.specs.Sheet.{counts_of, records_of, record_offset, record_with, record_bytes}
use Rattle.sheet.specs.Accepted.{accepted}
use Rattle.sheet.specs.Fields.{Ranged}
use Rattle.sheet.specs.Ranges.{allowed_counts, record_inside, record_in}
use Rattle.machine.specs.Machine.{Machine}
use Rattle.run_laws.specs.Run.{RunTables, record_at_now, run_words}
use Rattle.run_laws.specs.Needs.{Callable, Performable}

-- these tables are the machine's: its lists spelled, "place 0 zero" and its positions, its triples' words
pub record Stands (c : Counts) (R : ℕ) (m : Machine) (u : RunTables) : Type 0 where
  pub model : Spells c m.lists u.model
  pub positions : u.positions ≡ 0 ∷ m.positions
  pub words : u.words ≡ flat m.triples
  pub positions_all : length m.positions ≡ c.processes
  pub positions_in : (i : ℕ) → get_or m.positions i 0 ≤ R
  pub triples_all : length m.triples ≡ 64

-- the tables of a run of this sheet: some machine's
pub record Standing (c : Counts) (bytes : List ℕ) (u : RunTables) : Type 0 where
  pub ok : accepted bytes ≡ true
  pub counts : c ≡ counts_of bytes
  pub machine : Machine
  pub stands : Stands c (records_of bytes) machine u

module _ (c : Counts) (bytes : List ℕ) (u : RunTables) (s : Standing c bytes u) where
  pub allowed : Allowed c
  allowed = subst Allowed (sym s.counts) (allowed_counts bytes s.ok)

  pub sized : Sized c u.model
  sized = spelled_sized c s.machine.lists u.model s.stands.model allowed

  pub ready : Ready c u.model
  ready = formed_ready c s.machine.lists u.model sized s.stands.model

  pub linking : Linking c u.model.links
  linking = (s.machine.lists.sets, s.stands.model.links)

  pub its_judged : Judged c u.model.axis
  its_judged = ready_judged c u.model ready

  pub positions_length : length u.positions ≡ c.processes + 1
  positions_length = ap length s.stands.positions ∙ omega (arith, s.stands.positions_all)

  pub words_length : length u.words ≡ run_words
  words_length = ap length s.stands.words ∙ flat_length s.machine.triples ∙ omega (arith, s.stands.triples_all)

  -- the record that current is at
  pub now_in : record_at_now c u ≤ records_of bytes
  now_in = go (first_of (half c) u.model.axis)
    where
      at : (f : ℕ) → get_or (0 ∷ s.machine.positions) f 0 ≤ records_of bytes
      at zero = omega arith
      at (suc i) = s.stands.positions_in i

      go : (f : ℕ) → get_or u.positions f 0 ≤ records_of bytes
      go f = subst (λ (l : List ℕ). get_or l f 0 ≤ records_of bytes) (sym s.stands.positions) (at f)

  module _ (r : ℕ) (most : r ≤ records_of bytes) where
    some : r ≢ 0 → 1 ≤ r
    some n = omega arith

    pub its_range : r ≢ 0 → Ranged (record { counts = c; records = records_of bytes }) (record_with c.processes bytes r)
    its_range n =
        subst (λ (k : Counts). Ranged (record { counts = k; records = records_of bytes }) (record_with k.processes bytes r))
        (sym s.counts)
        (record_in bytes s.ok r (some n) most)

    pub inside : r ≢ 0 → record_offset c.processes r + record_bytes ≤ length bytes
    inside n = subst (λ (k : Counts). record_offset k.processes r + record_bytes ≤ length bytes) (sym s.counts)
        (record_inside bytes s.ok r (some n) most)

  -- ---- at current's place

  module _ (f : ℕ) (is : f ≡ first_of (half c) u.model.axis) where
    pub place_in : f ≤ c.processes
    place_in = omega (arith, ready.first_in_lem)

    pub in_positions : f < length u.positions
    in_positions = omega (arith, positions_length, place_in)

    pub in_times : f < length u.model.times
    in_times = omega (arith, sized.lengths.times_is, place_in)

    pub time_is : get_or u.model.times f 0 ≡ time_of (half c) u.model.axis u.model.times
    time_is = ap (λ (n : ℕ). get_or u.model.times n 0) is

    pub number_in : c.heads + f < 4294967296
    number_in = omega (arith, allowed.heads_in, allowed.processes_in, place_in)

    -- ---- and with r, the record that it is at

    module _ (r : ℕ) (at : r ≡ record_at_now c u) where
      pub its_record : r ≢ 0 → record_offset c.processes r + record_bytes ≤ length bytes
      its_record = inside r (subst (λ (n : ℕ). n ≤ records_of bytes) (sym at) now_in)

      pub its_call_lem : r ≢ 0 → Callable c bytes (record_offset c.processes r) f u.model
      its_call_lem n =
          record {
            ready = ready;
            inside = its_record n;
            records = records_of bytes;
            ranged = its_range r (subst (λ (k : ℕ). k ≤ records_of bytes) (sym at) now_in) n;
            place_is = is;
          }

      pub its_step : (time : ℕ) → time ≡ time_of (half c) u.model.axis u.model.times → r ≢ 0
          → Performable c bytes (record_offset c.processes r) f time u.model u.words
      its_step time et n = record { callable = its_call_lem n; time_is = et; words_all = words_length }
