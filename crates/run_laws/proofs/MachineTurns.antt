-- What a turn does, whatever its call: the lists stay those of well-formed tables, the notices move as History says, time does not go
-- back, positions stay in the sheet, and accumulators as required.
use Rattle.std.specs.Prelude.{◌-◌, ◌≤◌, refl, length, get_or, Ok, Err}
use Rattle.std.proofs.Common.{ap, ◌∙◌, arith}
use Rattle.std.proofs.Math.ListN.{length-set}
use Rattle.ring_laws.specs.Lists.{In}
use Rattle.model.specs.declared.Counts.{Counts}
use Rattle.model.specs.Counts.{Allowed}
use Rattle.model_laws.specs.Tables.{Tables, Lists, Spells}
use Rattle.axis_laws.specs.Notices.{whos}
use Rattle.model_laws.specs.Formed.{notice_each, notice_process}
use Rattle.model_laws.specs.Once.{spelled_sized}
use Rattle.model_laws.specs.NowLaws.{splits}
use Rattle.model_laws.specs.Result.{Follows, done, refused, Result}
use Rattle.model_laws.specs.Now.{time}
use Rattle.simulation_laws.specs.Forward.{Later}
use Rattle.accum_laws.specs.Update.{Updated, updated_of}
use Rattle.accum_laws.specs.Keeps.{zero_accumulator, required_later}
use Rattle.accum_laws.specs.Triples.{numbered, list_after, updated_at}
use Rattle.accum_laws.specs.Runs.{Each}
use Rattle.accum_laws.proofs.Runs.{each_kept}
use Rattle.sheet.specs.Sheet.{Sheet}
use Rattle.machine.specs.declared.End.{End}
use Rattle.machine.specs.Machine.{Machine}
use Rattle.machine.specs.Calls.{Call, on_list, accum, lists_after, lifted, storing, perform}
use Rattle.machine.specs.Steps.{call_now, line_now, Turn, ended, stepped, moved_on}
use Rattle.machine.specs.Run.{turn, onward}
use Rattle.machine.specs.History.{Stepwise, placing, placing_of, list_placing, if_stepped}
use Rattle.machine_laws.specs.StepLaws.{stepwise_same}
use Rattle.machine_laws.specs.CallLaws.{Notices, call_notices, call_forward}
use Rattle.run_laws.specs.OnTables.{tables_after}
use Rattle.run_laws.specs.PerformFollows.{lists_follow}
use Rattle.machine_laws.specs.Invariant.{InRange}
use Rattle.machine_laws.specs.TurnCases.{Then, turn_cases}
use Rattle.run_laws.specs.MachineTurns.{CallMade, Going, set_in, next_in_lem, then_so}

module _ (c : Counts) (a : Allowed c) (m : Machine) (t : Tables) (s : Spells c m.lists t) (q : Each m.triples (time m.lists)) where
  abbrev l : Lists
  l = m.lists

  perform_laws : (k : Call) → Then (CallMade c k m) (perform c k m)
  unfolding perform updated_at
  perform_laws (on_list k) =
      let f = splits l.notices s.some in
      let no_zero : In 0 (whos l.notices) → ⊥ = λ i. omega (arith, notice_process c l t s 0 i) in
      go (lists_after c k l) (lists_follow c l t (spelled_sized c l t s a) s k)
      (call_notices c l f.head f.rest f.is s.in_order (notice_each c l t s) no_zero k)
      (call_forward c l f.head f.rest f.is s.in_order (notice_each c l t s) no_zero k)
    where
      go : (r : Result Lists) → Follows c t r (tables_after c k t) → Notices (list_placing k l) l.notices r → Later (time l) r
          → Then (CallMade c (on_list k) m) (lifted m r)
      go (refused r) f g h = tt
      go (done j) f g h =
          record {
            spelled = ((tables_after c k t).tables, f.1);
            notices = g;
            forward = h;
            positions = refl;
            triples_all = refl;
            required = λ i. required_later (get_or m.triples i zero_accumulator) (time l) (time j) h (q i);
          }
  perform_laws (accum k d) =
      go (updated_of (numbered k m.triples) (time l) d) (each_kept k (time l) (time l) d m.triples (omega arith) q)
    where
      go : (u : Updated) → Each (list_after u k m.triples).list (time l) → Then (CallMade c (accum k d) m) (storing m k u)
      go (Ok v) g =
          record {
            spelled = (t, s);
            notices = stepwise_same l.notices;
            forward = omega arith;
            positions = refl;
            triples_all = length-set m.triples (k - 1) v;
            required = g;
          }
      go (Err r) g = tt

module _ (s : Sheet) (r : InRange s) (m : Machine) (g : Going s m) where
  its_call_lem : Then (CallMade s.counts (call_now s m) m) (perform s.counts (call_now s m) m)
  its_call_lem = perform_laws s.counts r.allowed m g.spelled.0 g.spelled.1 g.required (call_now s m)

  -- what holds at an end and after every call of this kind holds after the turn
  by_call : (Q : Turn → Type 0) → ((e : End) → Q (ended e))
      → ((k : Machine) → CallMade s.counts (call_now s m) m k → Q (stepped (line_now s m) (moved_on s m k)))
      → Q (turn s 1 m)
  by_call Q f h = turn_cases s m Q f (then_so _ _ (perform s.counts (call_now s m) m) h its_call_lem)

  pub turn_going : Going s (onward m (turn s 1 m))
  turn_going =
      by_call (λ t. Going s (onward m t)) (λ e. g)
      (λ k p. record {
        spelled = p.spelled;
        positions_all = length-set k.positions _ _ ∙ ap length p.positions ∙ g.positions_all;
        positions_in = set_in k.positions _ _ _ (rw p.positions g.positions_in) (next_in_lem s r m (g.positions_in _));
        triples_all = p.triples_all ∙ g.triples_all;
        required = p.required;
      })

  pub turn_stepwise : Stepwise (placing s m) m.lists.notices (onward m (turn s 1 m)).lists.notices
  unfolding placing
  turn_stepwise =
      by_call (λ t. Stepwise (if_stepped t (placing_of (call_now s m) m.lists)) m.lists.notices (onward m t).lists.notices)
      (λ e. stepwise_same m.lists.notices) (λ k p. p.notices)

  pub turn_forward : time m.lists ≤ time (onward m (turn s 1 m)).lists
  turn_forward = by_call (λ t. time m.lists ≤ time (onward m t).lists) (λ e. omega arith) (λ k p. p.forward)
