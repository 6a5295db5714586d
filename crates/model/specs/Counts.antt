-- A model's counts H, P and L, their limits, and the kinds of numbers: "heads first, then processes, then plain links, from 1;
-- 0 means none".
use Rattle.std.specs.Prelude.{ℕ, ◌+◌, ◌-◌, ◌≤◌, ◌<◌, ◌≡◌, refl, Bool, true, false, not, ◌&&◌, leb, ltb, if◌then◌else◌, Ok, Err, Result}
use Rattle.std.proofs.Common.{sym, ◌∙◌}
use borrow.Author.Tests.{leb-true, le-leb, lt-leb, not-true, not-false}
use Rattle.ring_laws.specs.Lists.{test, clash}
use Rattle.model.specs.declared.Counts.{Counts}
use Rattle.model.specs.declared.Refusal.TheVariants.{Size}
use Rattle.model.specs.Refusals.{refusal_number}
use Rattle.model.specs.declared.Refusal.{Refusal}

-- "at most 64 heads, 1 to 1,024 processes and at most 3,008 plain links"
unfoldable pub in_limits : Counts → Bool
in_limits c = leb c.heads 64 && (leb 1 c.processes && (leb c.processes 1024 && leb c.plains 3008))

-- the counts, or refusal 1
unfoldable pub made_of : Counts → Result Counts Refusal
made_of c = if in_limits c then Ok c else Err Size

-- the papers' number of what the constructor answers; 0 is accepted
abbrev pub made_code : Result Counts Refusal → ℕ
made_code (Ok c) = 0
made_code (Err r) = refusal_number r

-- N = H + P + L
abbrev pub total : Counts → ℕ
total c = c.heads + c.processes + c.plains

-- "Main is the first process, number H + 1"
abbrev pub main : Counts → ℕ
main c = c.heads + 1

abbrev pub is_head : Counts → ℕ → Bool
is_head c v = leb 1 v && leb v c.heads

abbrev pub is_process : Counts → ℕ → Bool
is_process c v = ltb c.heads v && leb v (c.heads + c.processes)

-- "Links are processes and plain links"
abbrev pub is_link : Counts → ℕ → Bool
is_link c v = ltb c.heads v && leb v (total c)

abbrev pub is_linkage : Counts → ℕ → Bool
is_linkage c v = leb 1 v && leb v (total c)

-- "the p-th process at p": the place of a process in the axis, and back
abbrev pub place_of : Counts → ℕ → ℕ
place_of c v = v - c.heads

abbrev pub linkage_at : Counts → ℕ → ℕ
linkage_at c p = c.heads + p

-- "Time is a whole number of ticks, 0 to 1,099,511,627,775 (2^40 − 1)"
abbrev pub limit : ℕ
limit = 1099511627775

-- "Make 512 the most members a set may have"
abbrev pub most_members : ℕ
most_members = 512

-- ---- what the limits say

pub record Allowed (c : Counts) : Type 0 where
  pub heads_in : c.heads ≤ 64
  pub some : 1 ≤ c.processes
  pub processes_in : c.processes ≤ 1024
  pub plains_in : c.plains ≤ 3008

pub both : (a b : Bool) → (a && b) ≡ true → (a ≡ true) × (b ≡ true)
both true b e = (refl, e)
both false b e = clash e

-- one test after another
pub and_off : (a b : Bool) → a ≡ false → false ≡ (a && b)
and_off a b e = rw e

pub and_on : (a b r : Bool) → a ≡ true → r ≡ b → r ≡ (a && b)
and_on a b r e f = rw e f

pub limits_allowed : (c : Counts) → in_limits c ≡ true → Allowed c
unfolding in_limits
limits_allowed c e =
    let p = both (leb c.heads 64) _ e in
    let q = both (leb 1 c.processes) _ p.1 in
    let r = both (leb c.processes 1024) _ q.1 in
    record {
      heads_in = leb-true _ _ p.0;
      some = leb-true _ _ q.0;
      processes_in = leb-true _ _ r.0;
      plains_in = leb-true _ _ r.1;
    }

pub allowed_limits : (c : Counts) → Allowed c → in_limits c ≡ true
unfolding in_limits
allowed_limits c a =
    rw (le-leb _ _ a.heads_in, le-leb _ _ a.some, le-leb _ _ a.processes_in) (le-leb _ _ a.plains_in)

-- counts that were made are the ones asked for, within the limits
pub made_allowed : (c n : Counts) → made_of c ≡ Ok n → (n ≡ c) × Allowed c
unfolding made_of
made_allowed c n e =
    test (in_limits c)
    (λ t. let q : Ok c ≡ Ok n = sym (rw t) ∙ e in (cc, limits_allowed c t))
    (λ t. let q : Err Size ≡ Ok n = sym (rw t) ∙ e in let z : false ≡ true = cc in clash z)

-- the constructor's number is 0 exactly within the limits, else 1
pub made_code_lem : (c : Counts) → made_code (made_of c) ≡ (if in_limits c then 0 else 1)
unfolding made_of
made_code_lem c = test (in_limits c) (λ t. rw t) (λ t. rw t)

-- the tests, one by one
module _ (c : Counts) where
  pub limits_heads : 64 < c.heads → false ≡ in_limits c
  unfolding in_limits
  limits_heads l = rw (lt-leb c.heads 64 l)

  module _ (h : c.heads ≤ 64) where
    pub limits_none : c.processes < 1 → false ≡ in_limits c
    unfolding in_limits
    limits_none l = rw (le-leb c.heads 64 h, lt-leb 1 c.processes l)

    module _ (s : 1 ≤ c.processes) where
      pub limits_processes : 1024 < c.processes → false ≡ in_limits c
      unfolding in_limits
      limits_processes l = rw (le-leb c.heads 64 h, le-leb 1 c.processes s, lt-leb c.processes 1024 l)

      pub limits_plains : c.processes ≤ 1024 → leb c.plains 3008 ≡ in_limits c
      unfolding in_limits
      limits_plains l = rw (le-leb c.heads 64 h, le-leb 1 c.processes s, le-leb c.processes 1024 l)

  module _ (ok : Bool) (e : ok ≡ in_limits c) where
    pub made_not : not ok ≡ true → Err Size ≡ made_of c
    unfolding made_of
    made_not n = rw (sym e ∙ not-true ok n)

    pub made_fine : not ok ≡ false → Ok c ≡ made_of c
    unfolding made_of
    made_fine n = rw (sym e ∙ not-false ok n)
