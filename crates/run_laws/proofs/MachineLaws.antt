-- The laws of the machine, for every accepted sheet and any number of steps: what is kept, that time never goes back, and the order of
-- ties. This file answers the auditor's two questions on the machine.
use Prim.Native.Nat.{ℕ, zero, suc, ◌≤◌}
use Rattle.std.specs.Prelude.{◌≡◌, true, List}
use Rattle.std.proofs.Math.ListN.{length-replicate}
use Rattle.model_laws.specs.Formed.{notice_each, notice_process}
use Rattle.model_laws.specs.Once.{links_once, set_links}
use Rattle.model_laws.specs.Fresh.{fresh_tables, fresh_spells}
use Rattle.model_laws.specs.Now.{time}
use Rattle.accum_laws.specs.Keeps.{zero_accumulator}
use Rattle.accum_laws.specs.Runs.{fresh_each}
use Rattle.sheet.specs.Sheet.{Sheet, sheet_of}
use Rattle.sheet.specs.Accepted.{accepted}
use Rattle.machine.specs.Machine.{Machine, fresh}
use Rattle.machine.specs.Run.{uncut, state}
use Rattle.machine.specs.History.{Stepwise, placing, notices_at}
use Rattle.machine_laws.specs.HistoryLaw.{ties_of}
use Rattle.machine_laws.specs.Invariant.{InRange, Invariant}
use Rattle.machine_laws.specs.GoesFirst.{goes_first}
use Rattle.run_laws.specs.MachineTurns.{Going}
use Rattle.run_laws.proofs.MachineTurns.{turn_going, turn_stepwise, turn_forward}
use Rattle.run_laws.specs.MachineLaws.{Laws, accepted_range}

-- ---- what a run needs holds at first and after every step

module _ (s : Sheet) (r : InRange s) where
  going : (n : ℕ) → Going s (state s n)
  unfolding uncut fresh
  going zero =
      record {
        spelled = (fresh_tables s.counts, fresh_spells s.counts r.allowed);
        positions_all = r.starts_all;
        positions_in = r.starts_in_lem;
        triples_all = length-replicate 64 zero_accumulator;
        required = fresh_each 64 0;
      }
  going (suc n) = turn_going s r (state s n) (going n)

  steps : (n : ℕ) → Stepwise (placing s (state s n)) (notices_at s n) (notices_at s (suc n))
  unfolding uncut
  steps n = turn_stepwise s r (state s n) (going n)

  forward : (n : ℕ) → time (state s n).lists ≤ time (state s (suc n)).lists
  unfolding uncut
  forward n = turn_forward s r (state s n) (going n)

  -- lists that well-formed tables spell are as Kept says
  pub going_kept : (m : Machine) → Going s m → Invariant s m
  going_kept m g =
      let c = s.counts in
      let t = g.spelled.0 in
      let w = g.spelled.1 in
      record {
        links_once = links_once c m.lists t w;
        only_links = set_links c m.lists t w;
        limited = w.limited;
        notice_each = notice_each c m.lists t w;
        only_processes = notice_process c m.lists t w;
        some = w.some;
        in_order = w.in_order;
        within = w.within;
        ended_idle = λ x i. (w.ended x i).3;
        ended_other = λ x i. (w.ended x i).2;
        sets_all = w.links.all;
        positions_all = g.positions_all;
        positions_in = g.positions_in;
        triples_all = g.triples_all;
        required = g.required;
      }

  laws : (n : ℕ) → Laws s n
  laws n =
      let k = going_kept (state s n) (going n) in
      record { kept = k; forward = forward n; ties = ties_of s steps n; goes_first = goes_first s n k.notice_each }

pub machine_laws : (bytes : List ℕ) → accepted bytes ≡ true → (n : ℕ) → Laws (sheet_of bytes) n
machine_laws bytes is n = laws (sheet_of bytes) (accepted_range bytes is) n
