-- What the functions promise.
use Rattle.std.specs.Prelude.{ℕ, suc, ◌≤◌, ◌<◌, ◌+◌, ◌-◌, ◌≡◌, Bool, ◌&&◌, List, leb, length, get_or, set, if◌then◌else◌}
use Rattle.std.proofs.Common.{sym, subst, ◌∙◌, arith, le-leb}
use Rattle.std.proofs.Math.ListN.{get_or-eq_default}
use Rattle.std.proofs.Math.Seq.{set_out}
use Rattle.std.proofs.lemmas.Bool.{lt-leb}
use Rattle.ring_laws.specs.Lists.{below}
use Rattle.model.specs.declared.Counts.{Counts}
use Rattle.model.specs.Counts.{limit, Allowed}
use Rattle.model_laws.specs.Tables.{Tables}
use Rattle.model_laws.specs.Ready.{Ready}
use Rattle.model.specs.Answers.{Answered}
use Rattle.model_laws.specs.Now.{AxisSound, half, first_of, prev_place, idle_on, lone_on}
use Rattle.simulation_laws.specs.Procedures.{Sqs, Outcome, vain, due_at}

abbrev pub sqs : List ℕ → List ℕ → Sqs
sqs a t = record { axis = a; times = t }

-- the tables are as wanted, and safe to go on with
pub record Left (m : ℕ) (want : Sqs) (axis times : List ℕ) : Type 0 where
  pub is : sqs axis times ≡ want
  pub sound : AxisSound m axis

-- and the answer is
pub record Answers (m : ℕ) (want : Outcome) (axis times : List ℕ) (r : Answered) : Type 0 where
  pub is : record { answer = r; left = sqs axis times } ≡ want
  pub sound : AxisSound m axis

-- a place of the table
pub record Place (m want r : ℕ) : Type 0 where
  pub is : r ≡ want
  pub within : r < m

-- a time, or the first past the limit for all that are past it
unfoldable pub capped : ℕ → ℕ
capped n = if leb n limit then n else suc limit

pub capped_fine : (n : ℕ) → n ≤ limit → capped n ≡ n
unfolding capped
capped_fine n l = rw (le-leb n limit l)

pub capped_over : (n : ℕ) → limit < n → capped n ≡ suc limit
unfolding capped
capped_over n l = rw (lt-leb n limit l)

-- what a cap within the limit says
pub capped_in : (n r : ℕ) → r ≡ capped n → r ≤ limit → n ≡ r
capped_in n r e l =
    below limit n
    (λ o. absurd (omega (arith, capped_over n o)))
    (λ f. sym (e ∙ capped_fine n f))

pub capped_out : (n r : ℕ) → r ≡ capped n → limit < r → limit < n
capped_out n r e l =
    below limit n
    (λ o. o)
    (λ f. absurd (omega (arith, capped_fine n f)))

-- a word read: 0 past the end; a word stored: nothing past the end
pub record Read (i : ℕ) (t : List ℕ) (r : ℕ) : Type 0 where
  pub is : r ≡ get_or t i 0

pub record Stored (i v : ℕ) (old new : List ℕ) : Type 0 where
  pub is : new ≡ set old i v

pub read_past : (i : ℕ) (t : List ℕ) → length t ≤ i → Read i t 0
read_past i t l = record { is = sym (get_or-eq_default t 0 {n = i} l) }

pub stored_past : (i v : ℕ) (t : List ℕ) → length t ≤ i → Stored i v t t
stored_past i v t l = record { is = sym (set_out t i v l) }

-- a test's answer about the first places of the axis
pub record Lone (m : ℕ) (t : List ℕ) (r : Bool) : Type 0 where
  pub is : r ≡ lone_on m t

pub record Vain (again : Bool) (k x y : ℕ) (marks axis : List ℕ) (r : Bool) : Type 0 where
  pub is : r ≡ vain again k x y marks axis

-- the clause is before or after, and y is idle
pub record BesideIdle (k y : ℕ) (axis : List ℕ) (r : Bool) : Type 0 where
  pub is : r ≡ (leb 5 k && idle_on axis y)

pub record Due (k y d now : ℕ) (times : List ℕ) (r : ℕ) : Type 0 where
  pub is : r ≡ capped (due_at k y d now times)

-- the tables are as wanted, and the answer, and the marks
pub record AnswersMarked (m : ℕ) (want : Outcome) (wantMarks : List ℕ) (axis times marks : List ℕ) (r : Answered) : Type 0 where
  pub is : record { answer = r; left = sqs axis times } ≡ want
  pub sound : AxisSound m axis
  pub marked : marks ≡ wantMarks

-- x's place is the first: the axis's own head, whose number is small, stands before it; and it has a word in the table of times
pub record First (m x : ℕ) (axis times : List ℕ) : Type 0 where
  pub within : x < m
  pub small : m ≤ 1026
  pub led : prev_place m axis x ≡ m - 1
  pub timed : x < length times
  pub full : length times + 1 ≡ m

-- the place behind the head is the first
abbrev pub Led : ℕ → List ℕ → List ℕ → Type 0
Led m a t = First m (first_of m a) a t

-- x's notice is the first, and this is its time
pub record Noticed (m x time : ℕ) (axis times : List ℕ) : Type 0 where
  pub place : Place m (first_of m axis) x
  pub read : Read x times time
  pub within : time ≤ limit

pub first_at_lem : (m x : ℕ) (a t : List ℕ) → Led m a t → Place m (first_of m a) x → First m x a t
first_at_lem m x a t l p = subst (λ (y : ℕ). First m y a t) (sym p.is) l

-- ---- what a judged model gives the calls: limits, a sound axis, and a first notice

pub record Judged (c : Counts) (axis : List ℕ) : Type 0 where
  pub allowed : Allowed c
  pub sound : AxisSound (half c) axis
  pub first_some : 0 < first_of (half c) axis
  pub first_in_lem : first_of (half c) axis ≤ c.processes

-- and those that take the first notice away: that it stands behind the head
pub record Takeable (c : Counts) (axis times : List ℕ) : Type 0 where
  pub judged : Judged c axis
  pub first_led : Led (half c) axis times

module _ (c : Counts) (t : Tables) (r : Ready c t) where
  pub ready_judged : Judged c t.axis
  ready_judged = record { allowed = r.allowed; sound = r.axis_sound; first_some = r.first_some; first_in_lem = r.first_in_lem }

  pub ready_takeable : Takeable c t.axis t.times
  ready_takeable =
      record {
        judged = ready_judged;
        first_led =
            record {
              within = omega (arith, r.first_in_lem);
              small = omega (arith, r.allowed.processes_in);
              led = r.first_led;
              timed = omega (arith, r.first_in_lem, r.lengths.times_is);
              full = omega (arith, r.lengths.times_is);
            };
      }
