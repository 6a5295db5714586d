-- Demand 2 by value: for every well-formed model each public sequencing call does what the plain call does to the lists, leaves what the
-- published procedure leaves and tells what request 2.1 asks for; a refused one keeps every word of any tables; and each query tells what
-- the lists say.
use Rattle.std.specs.Prelude.{◌≡◌, refl}
use Rattle.std.proofs.Math.Bool.{true, false}
use Rattle.model.specs.declared.Counts.{Counts}
use Rattle.model.specs.declared.call.SequencingCall.{SequencingCall}
use Rattle.model.specs.declared.call.SequencingCall.TheVariants.{Hold, Passivate, Wait, Cancel, Activate, Reactivate, Finish}
use Rattle.model.specs.declared.call.Query.{Query}
use Rattle.model.specs.declared.call.Query.TheVariants.{First, Last, Suc, Pred, Empty, Cardinal, Current, Time, Idle, Terminated, Evtime}
use Rattle.model.specs.declared.call.Query.TheVariants.{Nextev}
use Rattle.model_laws.specs.Tables.{Tables, Lists, Sized, Spells}
use Rattle.model_laws.specs.Called.{called, asked}
use Rattle.model_laws.specs.Result.{Result, Tells, Follows, answering_follows, KeepsRefused, answering_kept, called_kept}
use Rattle.simset_laws.proofs.Meaning.{called_is, first_means, last_means, suc_means, pred_means, empty_means, cardinal_means}
use Rattle.simulation_laws.proofs.Kept.{hold_steps, passivate_steps, cancel_steps, timed_steps, finish_steps, wait_steps}
use Rattle.simulation_laws.proofs.Meaning.{hold_means, passivate_means, wait_means, wait_says, cancel_means, finish_means, timed_means}
use Rattle.simulation_laws.proofs.PublishedCalls.{hold_leaves, passivate_leaves, wait_leaves, cancel_leaves, finish_leaves}
use Rattle.simulation_laws.proofs.PublishedCalls.{activate_leaves}
use Rattle.simulation_laws.proofs.QueryMeaning.{current_means, time_means, idle_means, terminated_means, evtime_means, nextev_means}
use Rattle.simulation_laws.specs.PublicCalls.{sequencing_after, sequencing_told, sequencing_answered, sequencing_tells}
use Rattle.simulation_laws.specs.PublicCalls.{sequencing_call, published_call, query_told, query_on}
use Rattle.simulation_laws.specs.PublicLaws.{own_or, no_refusal}

steps_kept : (c : Counts) (k : SequencingCall) → KeepsRefused (sequencing_after c k)
steps_kept c (Hold z) = hold_steps c z
steps_kept c Passivate = passivate_steps c
steps_kept c (Wait y) = wait_steps c y
steps_kept c (Cancel x) = cancel_steps c x
steps_kept c (Activate k x y z) = timed_steps c false k x y z
steps_kept c (Reactivate k x y z) = timed_steps c true k x y z
steps_kept c Finish = finish_steps c

pub sequencing_kept : (c : Counts) (k : SequencingCall) → KeepsRefused (called c (sequencing_answered c k))
sequencing_kept c k =
    called_kept c (sequencing_answered c k)
    (answering_kept (λ u. sequencing_told c k u.links u.axis) (sequencing_after c k)
    (λ t r e. own_or (sequencing_after c k t).answer _ r (no_refusal c k t r) e)
    (steps_kept c k))

module _ (c : Counts) (l : Lists) (t : Tables) (w : Sized c t) (s : Spells c l t) where
  -- the steps do what the plain calls do, and leave what the published procedures leave
  means : (k : SequencingCall) → Follows c t (sequencing_call c k l) (called c (sequencing_after c k) t)
  unfolding sequencing_call
  means (Hold z) = hold_means c l t w s z
  means Passivate = passivate_means c l t w s
  means (Wait y) = wait_means c l t w s y
  means (Cancel x) = cancel_means c l t w s x
  means (Activate k x y z) = timed_means c l t w s false k x y z
  means (Reactivate k x y z) = timed_means c l t w s true k x y z
  means Finish = finish_means c l t w s

  leaves : (k : SequencingCall) → Follows c t (published_call c k l) (called c (sequencing_after c k) t)
  unfolding published_call
  leaves (Hold z) = hold_leaves c l t w s z
  leaves Passivate = passivate_leaves c l t w s
  leaves (Wait y) = wait_leaves c l t w s y
  leaves (Cancel x) = cancel_leaves c l t w s x
  leaves (Activate k x y z) = activate_leaves c l t w s false k x y z
  leaves (Reactivate k x y z) = activate_leaves c l t w s true k x y z
  leaves Finish = finish_leaves c l t w s

  -- and wait tells the head of the set that current left
  told : (k : SequencingCall) → sequencing_told c k t.links t.axis ≡ sequencing_tells k l
  told (Hold z) = refl
  told Passivate = refl
  told (Wait y) = wait_says c l t w s
  told (Cancel x) = refl
  told (Activate k x y z) = refl
  told (Reactivate k x y z) = refl
  told Finish = refl

  telling : (k : SequencingCall) (r : Result Lists) → Follows c t r (called c (sequencing_after c k) t)
      → Tells c t (sequencing_tells k l) r (called c (sequencing_answered c k) t)
  telling k r f =
      rw (called_is c l t w s (sequencing_answered c k))
      (answering_follows c t (sequencing_tells k l) (λ u. sequencing_told c k u.links u.axis) (sequencing_after c k) r (λ m e. told k)
      (rw (called_is c l t w s (sequencing_after c k)) at f))

  pub sequencing_means : (k : SequencingCall) → Tells c t (sequencing_tells k l) (sequencing_call c k l) (called c (sequencing_answered c k) t)
  sequencing_means k = telling k (sequencing_call c k l) (means k)

  pub sequencing_leaves : (k : SequencingCall) → Tells c t (sequencing_tells k l) (published_call c k l) (called c (sequencing_answered c k) t)
  sequencing_leaves k = telling k (published_call c k l) (leaves k)

  pub query_means : (q : Query) → asked c (query_told c q) t ≡ query_on c q l
  unfolding query_on
  query_means (First x) = first_means c l t w s x
  query_means (Last x) = last_means c l t w s x
  query_means (Suc x) = suc_means c l t w s x
  query_means (Pred x) = pred_means c l t w s x
  query_means (Empty x) = empty_means c l t w s x
  query_means (Cardinal x) = cardinal_means c l t w s x
  query_means Current = current_means c l t w s
  query_means Time = time_means c l t w s
  query_means (Idle x) = idle_means c l t w s x
  query_means (Terminated x) = terminated_means c l t w s x
  query_means (Evtime x) = evtime_means c l t w s x
  query_means (Nextev x) = nextev_means c l t w s x
