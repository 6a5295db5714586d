-- Demand 2 by value: for every well-formed model each public sequencing call does what the plain call does to the lists, leaves what the
-- published procedure leaves and tells what request 2.1 asks for; a refused one keeps every word of any tables; and each query tells what
-- the lists say.
use Rattle.std.specs.Prelude.{◌≡◌, ℕ, List, Ok, Err}
use Rattle.std.proofs.Common.{ap, ◌∙◌}
use Rattle.model.specs.declared.Counts.{Counts}
use Rattle.ring_laws.specs.Lists.{clash}
use Rattle.model.specs.declared.Refusal.{Refusal}
use Rattle.model.specs.Answers.{Answered}
use Rattle.model.specs.declared.answer.Answer.TheVariants.{Done, Linkage, Number, Truth}
use Rattle.model.specs.declared.call.SequencingCall.{SequencingCall}
use Rattle.model.specs.declared.call.SequencingCall.TheVariants.{Hold, Passivate, Wait, Cancel, Activate, Reactivate, Finish}
use Rattle.model.specs.declared.call.Query.{Query}
use Rattle.model_laws.specs.Tables.{Tables, After}
use Rattle.model_laws.specs.Called.{if_accepted}
use Rattle.simulation_laws.specs.Calls.{wait_told}
use Rattle.simulation_laws.specs.PublicCalls.{sequencing_after, sequencing_told, sequencing_answered}
use Rattle.simulation_laws.specs.PublicCalls.{query_told}

-- no refusal is told, so that a refused answer is the step's own
pub own_or : (a v : Answered) (r : Refusal) → (v ≡ Err r → ⊥) → if_accepted a v ≡ Err r → a ≡ Err r
own_or (Ok a) v r n e = absurd (n e)
own_or (Err q) v r n e = e

pub no_refusal : (c : Counts) (k : SequencingCall) (t : Tables) (r : Refusal) → sequencing_told c k t.links t.axis ≡ Err r → ⊥
unfolding wait_told
no_refusal c (Hold z) t r e = clash (cc)
no_refusal c Passivate t r e = clash (cc)
no_refusal c (Wait y) t r e = clash (cc)
no_refusal c (Cancel x) t r e = clash (cc)
no_refusal c (Activate k x y z) t r e = clash (cc)
no_refusal c (Reactivate k x y z) t r e = clash (cc)
no_refusal c Finish t r e = clash (cc)

-- a call, or a query, that turned out to be this one
pub call_as : (c : Counts) (k j : SequencingCall) (t : Tables) (a : After Answered) → k ≡ j → a ≡ sequencing_after c j t
    → a ≡ sequencing_after c k t
call_as c k j t a e w = rw e w

pub told_as : (c : Counts) (k j : SequencingCall) (links axis : List ℕ) (a : Answered) → k ≡ j → a ≡ sequencing_told c j links axis
    → a ≡ sequencing_told c k links axis
told_as c k j links axis a e w = rw e w

pub query_as : (c : Counts) (q j : Query) (t : Tables) (a : Answered) → q ≡ j → a ≡ query_told c j t → a ≡ query_told c q t
query_as c q j t a e w = rw e w

-- a call that was made, answered by what was told before it
pub call_telling : (c : Counts) (k : SequencingCall) (t u : Tables) (a v r : Answered) → v ≡ sequencing_told c k t.links t.axis
    → record { tables = u; answer = a } ≡ sequencing_after c k t → r ≡ if_accepted a v
    → record { tables = u; answer = r } ≡ sequencing_answered c k t
call_telling c k t u a v r e w q =
    ap (λ (b : Answered). record { tables = u; answer = b }) (q ∙ ap (if_accepted a) e)
    ∙ ap (λ (g : After Answered). record { tables = g.tables; answer = if_accepted g.answer (sequencing_told c k t.links t.axis) }) w
