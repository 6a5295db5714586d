-- A piece of a run: one call with the first bytes of the trace buffer. What it leaves, and what the program needs of that.
use Rattle.std.specs.Prelude.{ℕ, ◌*◌, ◌≤◌, ◌<◌, ◌≡◌, refl, List, length, take, zero, suc, ◌-◌, ◌^◌}
use Rattle.std.proofs.Common.{sym, arith}
use Rattle.std.proofs.Math.Path.{ap, subst}
use Rattle.std.proofs.Math.Seq.{length-take-le}
use Rattle.std.proofs.Math.Numerals.{unary_clauses}
use Rattle.ring_laws.specs.Lists.{below}
use Rattle.model.specs.declared.Counts.{Counts}
use Rattle.model_laws.specs.Now.{half, first_of}
use Rattle.simulation_laws.specs.Promise.{Judged}
use Rattle.machine.specs.Run.{line_size}
use Rattle.run_laws.specs.declared.Ran.{Ran}
use Rattle.run_laws.specs.Run.{RunTables, RanOn, run_on}
use Rattle.run_laws.specs.Standing.{Standing, its_judged, in_positions}
use Rattle.run_laws.proofs.GoesOn.{run_stands, run_room}

-- the tables and the answer
pub record PieceLeft : Type 0 where
  pub run : RunTables
  pub result : Ran

abbrev pub left_of : RanOn → PieceLeft
left_of o = record { run = o.run; result = o.result }

-- the call on k bytes of the trace
unfoldable pub left_by : List ℕ → RunTables → List ℕ → ℕ → PieceLeft
left_by bytes u tr k = left_of (run_on bytes u (take k tr))

pub left_is : (bytes : List ℕ) (u : RunTables) (tr : List ℕ) (k : ℕ) (v : RunTables) (t : List ℕ) (r : Ran)
    → record { run = v; trace = t; result = r } ≡ run_on bytes u (take k tr) → record { run = v; result = r } ≡ left_by bytes u tr k
unfolding left_by
left_is bytes u tr k v t r e = ap left_of e

module _ (bytes : List ℕ) (u : RunTables) (tr : List ℕ) (k : ℕ) (v : RunTables) (r : Ran)
    (e : record { run = v; result = r } ≡ left_by bytes u tr k) where
  -- the next piece finds tables of a run again
  pub left_stands : (c : Counts) → Standing c bytes u → Standing c bytes v
  unfolding left_by
  left_stands c s = subst (Standing c bytes) (sym (ap (λ (l : PieceLeft). l.run) e)) (run_stands c bytes u (take k tr) s)

  -- and its lines stand in the trace
  pub left_room : k ≤ length tr → line_size * r.lines ≤ length tr
  unfolding left_by
  left_room h =
      omega (arith, run_room bytes u (take k tr), ap (λ (l : PieceLeft). l.result.lines) e, length-take-le k tr h)

-- ---- the record that current is at

-- current's place is read from the axis, its record from the positions
pub record Located (c : Counts) (axis positions : List ℕ) : Type 0 where
  pub judged : Judged c axis
  pub first_in_lem : first_of (half c) axis < length positions

pub stands_located : (c : Counts) (bytes : List ℕ) (u : RunTables) → Standing c bytes u → Located c u.model.axis u.positions
stands_located c bytes u s =
    record {
      judged = its_judged c bytes u s;
      first_in_lem = in_positions c bytes u s (first_of (half c) u.model.axis) refl;
    }

-- ---- a number of 64 bits has at most 20 digits

above : (m : ℕ) → 20 ≤ m → 18446744073709551616 ≤ 10 ^ m
above zero h = omega arith
above (suc m) h =
    let e : 10 ^ suc m ≡ 10 * 10 ^ m = simp unary_clauses (omega arith) in
    below 19 m
    (λ l. omega (arith, e, above m l))
    (λ l. let q : 19 ≡ m = omega arith in subst (λ (k : ℕ). 18446744073709551616 ≤ 10 ^ suc k) q (omega arith))

-- k is the fewest digits of n: it is below 10 ^ k, and has no digit less
pub few_digits : (n k : ℕ) → n < 18446744073709551616 → (1 ≤ k) × (n < 10 ^ k) × (1 < k → 10 ^ (k - 1) ≤ n) → k ≤ 20
few_digits n k s f =
    below 20 k
    (λ l. absurd (no (f.2 (omega arith)) (above (k - 1) (omega arith))))
    (λ l. l)
  where
    no : 10 ^ (k - 1) ≤ n → 18446744073709551616 ≤ 10 ^ (k - 1) → ⊥
    no a b = omega arith
