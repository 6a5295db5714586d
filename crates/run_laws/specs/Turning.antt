-- The loop over turns: what is left to do from here comes to the whole, and the tables are still a machine's.
use Rattle.std.specs.Prelude.{ℕ, ◌+◌, ◌/◌, ◌≤◌, ◌≡◌, refl, List, length}
use Rattle.std.proofs.Math.Path.{sym, ap}
use Rattle.std.proofs.Common.{◌∙◌, arith}
use Rattle.model.specs.declared.Counts.{Counts}
use Rattle.machine.specs.Run.{line_size, trace_limit}
use Rattle.run_laws.specs.Run.{RunTables, RanOn}
use Rattle.run_laws.specs.Run.{turns_on}
use Rattle.run_laws.specs.Standing.{Standing, sized, positions_length, words_length}

-- ---- an accepted step leaves tables of a machine

-- ---- tables of one sheet have one size

pub record SameLengths (u v : RunTables) : Type 0 where
  pub links_same : length v.model.links ≡ length u.model.links
  pub axis_same : length v.model.axis ≡ length u.model.axis
  pub times_same : length v.model.times ≡ length u.model.times
  pub marks_same : length v.model.marks ≡ length u.model.marks
  pub positions_same : length v.positions ≡ length u.positions
  pub words_same : length v.words ≡ length u.words

pub same_lengths : (c : Counts) (bytes : List ℕ) (u v : RunTables) → Standing c bytes u → Standing c bytes v → SameLengths u v
same_lengths c bytes u v s w =
    let a = (sized c bytes u s).lengths in
    let b = (sized c bytes v w).lengths in
    record {
      links_same = b.links_is ∙ sym a.links_is;
      axis_same = b.axis_is ∙ sym a.axis_is;
      times_same = b.times_is ∙ sym a.times_is;
      marks_same = b.marks_is ∙ sym a.marks_is;
      positions_same = positions_length c bytes v w ∙ sym (positions_length c bytes u s);
      words_same = words_length c bytes v w ∙ sym (words_length c bytes u s);
    }

-- ---- the loop

pub record Turning (c : Counts) (bytes : List ℕ) (room n : ℕ) (whole : RanOn) (u₀ : RunTables) (tr₀ : List ℕ) (u : RunTables)
    (tr : List ℕ) : Type 0 where
  pub begun : Standing c bytes u₀
  pub stands : Standing c bytes u
  pub size : length tr ≡ length tr₀
  pub room_in : room ≤ length tr₀ / line_size
  pub short : length tr₀ ≤ trace_limit
  pub few : n ≤ room
  pub same : (k : ℕ) → n + k ≡ room → turns_on c bytes n k u tr ≡ whole

-- with n lines written, and room for j more
pub turning_start : (c : Counts) (bytes : List ℕ) (room n j : ℕ) (u : RunTables) (tr : List ℕ) → Standing c bytes u → length tr ≤ trace_limit
    → room ≤ length tr / line_size → n + j ≡ room → Turning c bytes room n (turns_on c bytes n j u tr) u tr u tr
turning_start c bytes room n j u tr s l h q =
    record {
      begun = s;
      stands = s;
      size = refl;
      room_in = h;
      short = l;
      few = omega arith;
      same = λ k e. let z : k ≡ j = omega arith in ap (λ (i : ℕ). turns_on c bytes n i u tr) z;
    }

-- turns that go on from where others stopped
pub turning_then : (c : Counts) (bytes : List ℕ) (room n m : ℕ) (whole part : RanOn) (u₀ : RunTables) (tr₀ : List ℕ) (u : RunTables)
    (tr : List ℕ) (v : RunTables) (tv : List ℕ)
    → Turning c bytes room n whole u₀ tr₀ u tr → part ≡ whole → Standing c bytes v → length tv ≡ length tr → m ≤ room
    → ((k : ℕ) → m + k ≡ room → turns_on c bytes m k v tv ≡ part) → Turning c bytes room m whole u₀ tr₀ v tv
turning_then c bytes room n m whole part u₀ tr₀ u tr v tv t e s z l g =
    record { begun = t.begun; stands = s; size = z ∙ t.size; room_in = t.room_in; short = t.short; few = l; same = λ k q. g k q ∙ e }
