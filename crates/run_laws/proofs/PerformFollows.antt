-- Every call on tables that spell the machine does what the machine's call does, with the same refusals.
use Rattle.std.specs.Prelude.{ℕ, List, ℤ, Ok, Err}
use Rattle.std.proofs.Math.Path.{refl, subst}
use Rattle.std.proofs.Common.{sym, ap, ◌∙◌}
use Rattle.model.specs.declared.Counts.{Counts}
use Rattle.model_laws.specs.Tables.{Tables, Lists, Sized, Spells}
use Rattle.model_laws.specs.Result.{Follows, done, refused, Result}
use Rattle.model_laws.specs.Now.{time}
use Rattle.accum_laws.specs.Update.{Updated, updated_of}
use Rattle.accum_laws.specs.Flat.{Changed, updated_in}
use Rattle.accum_laws.specs.Triples.{flat, numbered, list_after, updated_at, flat_updated}
use Rattle.machine.specs.Machine.{Machine}
use Rattle.machine.specs.Calls.{Call, on_list, accum, lists_after}
use Rattle.machine.specs.Calls.{lifted, storing, perform}
use Rattle.run_laws.specs.OnTables.{tables_after, carried_out}
use Rattle.run_laws.proofs.Resolving.{time_at}
-- ---- the calls on lists
use Rattle.run_laws.specs.PerformFollows.{lists_follow, FollowsRun}

module _ (c : Counts) (m : Machine) (t : Tables) (w : Sized c t) (s : Spells c m.lists t) where
  abbrev words : List ℤ
  words = flat m.triples

  pub perform_follows : (k : Call) → FollowsRun c t words (perform c k m) (carried_out c k t words)
  unfolding perform carried_out updated_at
  perform_follows (on_list k) = go (lists_after c k m.lists) (lists_follow c m.lists t w s k)
    where
      go : (r : Result Lists) → Follows c t r (tables_after c k t)
          → FollowsRun c t words (lifted m r) (record {
            tables = (tables_after c k t).tables;
            words = words;
            answer = (tables_after c k t).answer;
          })
      go (refused r) a = (a.0, a.1, refl)
      go (done l) a = (a.0, a.1, refl)
  perform_follows (accum k d) =
      subst (λ (u : Changed). FollowsRun c t words (storing m k (updated_of (numbered k m.triples) (time m.lists) d))
      (record { tables = t; words = u.words; answer = u.answer }))
      (sym (ap (λ (now : ℕ). updated_in k now d words) (time_at c m.lists t w s) ∙ flat_updated k (time m.lists) d m.triples))
      (go (updated_of (numbered k m.triples) (time m.lists) d))
    where
      go : (u : Updated)
          → FollowsRun c t words (storing m k u)
          (record { tables = t; words = flat (list_after u k m.triples).list; answer = (list_after u k m.triples).answer })
      go (Ok v) = (refl, s, refl)
      go (Err q) = (refl, refl, refl)
