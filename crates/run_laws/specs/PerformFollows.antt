-- Every call on tables that spell the machine does what the machine's call does, with the same refusals.
use Rattle.std.specs.Prelude.{◌≡◌, List, ℤ, Ok, Err}
use Rattle.std.proofs.Math.Path.{refl, subst}
use Rattle.ring_laws.specs.Lists.{test}
use Rattle.model.specs.declared.Counts.{Counts}
use Rattle.model.specs.Counts.{is_head}
use Rattle.model.specs.Answers.{Answered}
use Rattle.model.specs.declared.answer.Answer.TheVariants.{Done}
use Rattle.model_laws.specs.Tables.{Tables, Lists, After, Sized, Spells}
use Rattle.model_laws.specs.Called.{called}
use Rattle.model_laws.specs.Result.{Follows, done, refused, Result}
use Rattle.simset_laws.proofs.Meaning.{called_is, set_follows}
use Rattle.simulation_laws.specs.Plain as plain
use Rattle.simulation_laws.specs.Calls.{hold_step, passivate_step, cancel_step, timed_step, finish_step, wait_step, on_sqs, on_marks, on_sets}
use Rattle.simulation_laws.proofs.Meaning.{hold_means, passivate_means, wait_means, cancel_means, timed_means, finish_means}
use Rattle.accum_laws.specs.Triples.{flat}
use Rattle.machine.specs.Machine.{Machine}
use Rattle.machine.specs.Calls.{ListCall, on_set, hold, passivate, wait, cancel, activate, if_empty, finish, lists_after}
use Rattle.run_laws.specs.OnTables.{tables_after, Carried}

-- ---- the calls on lists

module _ (c : Counts) (l : Lists) (t : Tables) (w : Sized c t) (s : Spells c l t) where
  -- what holds of the public call holds of the step, which judges nothing
  by_call : (r : Result Lists) (f : Tables → After Answered) → Follows c t r (called c f t) → Follows c t r (f t)
  by_call r f a = subst (Follows c t r) (called_is c l t w s f) a

  pub lists_follow : (k : ListCall) → Follows c t (lists_after c k l) (tables_after c k t)
  unfolding lists_after tables_after
  lists_follow (on_set k) = set_follows c l t w s k
  lists_follow (hold z) = by_call (plain.hold z l) (on_sqs (λ m a. hold_step c z a)) (hold_means c l t w s z)
  lists_follow passivate = by_call (plain.passivate l) (on_sqs (λ m a. passivate_step c a)) (passivate_means c l t w s)
  lists_follow (wait y) = by_call (plain.wait c y l) (on_sets (λ k a. wait_step c y k a)) (wait_means c l t w s y)
  lists_follow (cancel x) = by_call (plain.cancel c x l) (on_sqs (λ m a. cancel_step c x a)) (cancel_means c l t w s x)
  lists_follow (activate again k x y z) =
      by_call (plain.timed c again k x y z l) (on_sqs (λ m a. timed_step c again k x y z m a)) (timed_means c l t w s again k x y z)
  lists_follow (if_empty x) = test (is_head c x) (λ e. rw e (refl, s)) (λ e. rw e (refl, refl))
  lists_follow finish = by_call (plain.finish c l) (on_marks (λ k a. finish_step c k a)) (finish_means c l t w s)

-- ---- the calls on the machine

-- refused: the refusal, and every word as it was; done: the tables spell the machine's lists, the words are its triples'
abbrev pub FollowsRun : Counts → Tables → List ℤ → Result Machine → Carried → Type 0
FollowsRun c t v (refused r) a = (a.answer ≡ Err r) × (a.tables ≡ t) × (a.words ≡ v)
FollowsRun c t v (done m) a = (a.answer ≡ (Ok Done)) × Spells c m.lists a.tables × (a.words ≡ flat m.triples)
