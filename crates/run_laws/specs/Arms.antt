-- Each arm of the match over operations: what its function leaves, and what that means for current, is what the record's call comes to.
use Rattle.std.specs.Prelude.{ℕ, ◌≡◌, false, List, ℤ, pos}
use Rattle.std.proofs.Math.Path.{refl}
use Rattle.model.specs.declared.Counts.{Counts}
use Rattle.simulation_laws.specs.Procedures.{Sqs, due_at, activated}
use Rattle.simulation_laws.specs.Calls.{timed_step}

pub direct : (c : Counts) (x y : ℕ) (t : ℤ) (marks : List ℕ) (s : Sqs)
    → timed_step c false 0 x 0 (pos 0) marks s ≡ timed_step c false 0 x y t marks s
unfolding timed_step activated due_at
direct c x y t marks s = refl

pub delayed : (c : Counts) (x y : ℕ) (t : ℤ) (marks : List ℕ) (s : Sqs) → timed_step c false 2 x 0 t marks s ≡ timed_step c false 2 x y t marks s
unfolding timed_step
delayed c x y t marks s = refl
