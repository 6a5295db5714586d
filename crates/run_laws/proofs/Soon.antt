-- Activate with no clause or after a delay, in a stretch: made where x with no walk is a process or none, and else left.
use Rattle.std.specs.Prelude.{ℕ, ◌≡◌, refl, Bool, true, false, not, List, ℤ, pos, Ok}
use Rattle.std.proofs.Common.{ap, ◌∙◌, subst}
use Rattle.model.specs.declared.Counts.{Counts}
use Rattle.model.specs.Counts.{is_process}
use Rattle.model.specs.Answers.{Answered}
use Rattle.model_laws.specs.Tables.{Tables, model_of}
use Rattle.model_laws.specs.Now.{half}
use Rattle.simset_laws.specs.Calls.{or_none}
use Rattle.simset_laws.specs.Promise.{failed, passed}
use Rattle.simulation_laws.specs.Promise.{sqs, Answers}
use Rattle.simulation_laws.specs.Calls.{timed_step}
use Rattle.sheet.specs.declared.records.Record.{Record}
use Rattle.run_laws.specs.OnTables.{operand_with}
use Rattle.run_laws.specs.declared.Effect.TheVariants.{Moves, Apart}
use Rattle.run_laws.specs.Performed.{Meant, unless_refused}
use Rattle.run_laws.specs.Tried.{at_hand, tried}
use Rattle.run_laws.proofs.Tried.{here_soon, left_far, tried_not, tried_made}
use Rattle.run_laws.proofs.Arms.{arm_10, arm_delay}

module _ (c : Counts) (q : Record) (f : ℕ) (links axis times marks : List ℕ) (w : List ℤ) (known : Bool) (op : q.operation ≡ 10)
    (x : ℕ) (is : x ≡ operand_with c false links f q.x) (ok : Bool) (told : ok ≡ or_none (is_process c x) x) where
  abbrev t : Tables
  t = model_of links axis times marks

  seen : ok ≡ at_hand c q f links
  seen = told ∙ ap (λ (v : ℕ). or_none (is_process c v) v) is

  pub soon_left : not ok ≡ true → record { tables = t; words = w; effect = (Ok Apart) } ≡ tried c q f t w known
  soon_left n = tried_not c q f t w known (left_far c q f links known op (failed ok (at_hand c q f links) seen n))

  module _ (n : not ok ≡ false) (r : Answered) (v : Meant) (a u : List ℕ) (ev : v ≡ unless_refused r (Ok Moves)) where
    hand : at_hand c q f links ≡ true
    hand = passed ok (at_hand c q f links) seen n

    abbrev Made : Type 0
    Made = record { tables = model_of links a u marks; words = w; effect = v } ≡ tried c q f t w known

    pub soon_direct : q.clause ≡ 0 → Answers (half c) (timed_step c false 0 x 0 (pos 0) marks (sqs axis times)) a u r → Made
    soon_direct k m =
        tried_made c q f t w known (here_soon c q f links known 0 refl op k hand) _
        (arm_10 c q f links axis times marks w r v a u ev op k hand
        (subst (λ (p : ℕ). Answers (half c) (timed_step c false 0 p 0 (pos 0) marks (sqs axis times)) a u r) is m))

    pub soon_delayed : q.clause ≡ 2 → Answers (half c) (timed_step c false 2 x 0 q.t marks (sqs axis times)) a u r → Made
    soon_delayed k m =
        tried_made c q f t w known (here_soon c q f links known 2 refl op k hand) _
        (arm_delay c q f links axis times marks w r v a u ev op k hand
        (subst (λ (p : ℕ). Answers (half c) (timed_step c false 2 p 0 q.t marks (sqs axis times)) a u r) is m))
