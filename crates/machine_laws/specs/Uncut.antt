-- A list of calls, joined, is the beginning of the machine never cut: its lines are the first ones, and the machine after the calls is
-- that machine after as many steps.
use Prim.Native.Nat.{ℕ, zero, suc, ◌/◌}
use Rattle.std.specs.Prelude.{◌≡◌, true, false, leb, length, if◌then◌else◌}
use Rattle.std.proofs.Math.Path.{refl, sym, ap}
use Rattle.std.proofs.Common.{◌∙◌, subst}
use Rattle.std.proofs.Math.Bool.{Bool}
use mathlib.Core.List.{List, [], ◌∷◌, ◌++◌}
use Rattle.model.specs.declared.Refusal.TheVariants.{Size}
use Rattle.sheet.specs.Sheet.{Sheet}
use Rattle.machine.specs.declared.End.TheVariants.{Full, Refused}
use Rattle.machine.specs.Machine.{Machine}
use Rattle.machine.specs.Steps.{Line, Turn, ended, stepped}
use Rattle.machine.specs.Run.{turn, Ran, stopped, also_line, turns, call, calls, last_of, lines_of, onward, uncut, uncut_lines, line_size}
use Rattle.machine.specs.Run.{trace_limit}

module _ (s : Sheet) where
  -- accepted steps lead from m to k and write these lines
  abbrev pub Path : Machine → List Line → Machine → Type 0
  Path m [] k = m ≡ k
  Path m (l ∷ ls) k = (n : Machine) × (turn s 1 m ≡ stepped l n) × Path n ls k

  path_join : (m : Machine) (ls : List Line) (k : Machine) (ls' : List Line) (n : Machine) → Path m ls k → Path k ls' n
      → Path m (ls ++ ls') n
  path_join m [] k ls' n e b = subst (λ (x : Machine). Path x ls' n) (sym e) b
  path_join m (l ∷ ls) k ls' n a b = (a.0, a.1, path_join a.0 ls k ls' n a.2 b)

  -- how much room there is makes no difference, if there is some
  roomy : (room : ℕ) (m : Machine) → turn s (suc room) m ≡ turn s 1 m
  unfolding turn
  roomy room m = refl

  uncut_on : (n : ℕ) (m : Machine) → uncut s (suc n) m ≡ uncut s n (onward m (turn s 1 m))
  unfolding uncut
  uncut_on zero m = refl
  uncut_on (suc n) m = ap (λ (k : Machine). onward k (turn s 1 k)) (uncut_on n m)

  -- such a path is the beginning of the machine never cut
  pub path_uncut : (m : Machine) (ls : List Line) (k : Machine) → Path m ls k
      → (ls ≡ uncut_lines s (length ls) m) × (k ≡ uncut s (length ls) m)
  unfolding uncut uncut_lines
  path_uncut m [] k e = (refl, sym e)
  path_uncut m (l ∷ ls) k a =
      let r = path_uncut a.0 ls k a.2 in (
        rw (a.1, uncut_lines) (ap (λ (x : List Line). l ∷ x) r.0),
        r.1 ∙ sym (uncut_on (length ls) m ∙ ap (λ (t : Turn). uncut s (length ls) (onward m t)) a.1),
      )

  -- ---- turns, a call and a list of calls are paths

  path_turns : (room : ℕ) (m : Machine) → Path m (turns s room m).lines (turns s room m).machine
  unfolding turns
  path_turns zero m = go (turn s zero m)
    where
      ran : Turn → Ran
      ran t = elim t [ ended e ↦ stopped e m | stepped l k ↦ stopped Full m ]

      go : (t : Turn) → Path m (ran t).lines (ran t).machine
      go (ended e) = refl
      go (stepped l k) = refl
  path_turns (suc room) m = go (turn s (suc room) m) (sym (roomy room m)) (path_turns room)
    where
      ran : Turn → Ran
      ran t = elim t [ ended e ↦ stopped e m | stepped l k ↦ also_line l (turns s room k) ]

      go : (t : Turn) → turn s 1 m ≡ t → ((k : Machine) → Path k (turns s room k).lines (turns s room k).machine)
          → Path m (ran t).lines (ran t).machine
      go (ended e) q f = refl
      go (stepped l k) q f = (k, q, f k)

  pub path_call : (len : ℕ) (m : Machine) → Path m (call s len m).lines (call s len m).machine
  unfolding call
  path_call len m = go (leb len trace_limit)
    where
      ran : Bool → Ran
      ran b = if b then turns s (len / line_size) m else stopped (Refused Size) m

      go : (b : Bool) → Path m (ran b).lines (ran b).machine
      go true = path_turns (len / line_size) m
      go false = refl

  path_calls : (lens : List ℕ) (m : Machine) → Path m (lines_of (calls s m lens)) (last_of m (calls s m lens))
  unfolding calls
  path_calls [] m = refl
  path_calls (len ∷ lens) m =
      let k = (call s len m).machine in
      path_join m (call s len m).lines k (lines_of (calls s k lens)) (last_of k (calls s k lens)) (path_call len m) (path_calls lens k)

  -- "All lines joined are the first of a machine never cut"
  pub record Joined (m : Machine) (lens : List ℕ) : Type 0 where
    pub lines : lines_of (calls s m lens) ≡ uncut_lines s (length (lines_of (calls s m lens))) m
    pub machine : last_of m (calls s m lens) ≡ uncut s (length (lines_of (calls s m lens))) m

  pub calls_joined : (m : Machine) (lens : List ℕ) → Joined m lens
  calls_joined m lens =
      let r = path_uncut m (lines_of (calls s m lens)) (last_of m (calls s m lens)) (path_calls lens m) in
      record { lines = r.0; machine = r.1 }
