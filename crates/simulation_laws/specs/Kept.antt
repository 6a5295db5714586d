-- A refused sequencing call changes no word, whatever the tables.
use Prim.Native.Nat.{ℕ}
use Rattle.std.specs.Prelude.{◌≡◌, refl, Bool, List, if◌then◌else◌, Err}
use Rattle.std.proofs.Common.{ap}
use Rattle.std.proofs.Math.Bool.{true, false}
use Rattle.ring_laws.specs.Lists.{clash}
use Rattle.model.specs.declared.Refusal.{Refusal}
use Rattle.model_laws.specs.Result.{KeepsRefused}
use Rattle.model_laws.specs.Tables.{model_of}
use Rattle.simulation_laws.specs.Procedures.{Sqs, Outcome, made, turned_down}
use Rattle.simulation_laws.specs.Calls.{sqs_of, on_sqs}

-- ---- on the sequencing set

abbrev pub Keeps : Sqs → Outcome → Type 0
Keeps a o = (r : Refusal) → o.answer ≡ Err r → o.left ≡ a

pub made_kept : (a b : Sqs) → Keeps a (made b)
made_kept a b r e = let z : false ≡ true = cc in clash z

pub down_kept : (a : Sqs) (q : Refusal) → Keeps a (turned_down q a)
down_kept a q r e = refl

pub if_kept : (a : Sqs) (b : Bool) (o p : Outcome) → Keeps a o → Keeps a p → Keeps a (if b then o else p)
if_kept a true o p f g = f
if_kept a false o p f g = g

-- ---- on the whole model

pub sqs_kept : (f : List ℕ → Sqs → Outcome) → ((k : List ℕ) (a : Sqs) → Keeps a (f k a)) → KeepsRefused (on_sqs f)
sqs_kept f g t r e = ap (λ (a : Sqs). model_of t.links a.axis a.times t.marks)
    (g t.marks (sqs_of t) r e)
