-- Demand 3: one theorem about a whole list of run calls, refused ones included, for every accepted sheet and every list of trace buffers.
use Rattle.std.specs.Prelude.{ℕ, ◌<◌, ◌≡◌, refl, true, length, Ok}
use mathlib.Core.List.{List, [], ◌∷◌, Nodup}
use Rattle.ring_laws.specs.Lists.{In}
use Rattle.ring_laws.specs.Distinct.{joined}
use Rattle.ring_laws.specs.Members.{dist_nodup}
use Rattle.axis_laws.specs.Notices.{whos}
use Rattle.sheet.specs.Sheet.{counts_of, records_of, sheet_of}
use Rattle.sheet.specs.Accepted.{accepted}
use Rattle.machine.specs.Machine.{Machine, fresh}
use Rattle.machine.specs.Run.{call, calls, state}
use Rattle.machine_laws.specs.Uncut.{calls_joined}
use Rattle.machine.specs.History.{scheduled, notices_at}
use Rattle.run_laws.proofs.MachineLaws.{machine_laws}
use Rattle.run_laws.specs.Run.{RunTables, run_judged, run_on}
use Rattle.run_laws.specs.Judging.{judged_fine, passed_standing}
use Rattle.run_laws.specs.Standing.{Stands}
use Rattle.run_laws.specs.Fresh.{fresh_run, fresh_stands}
use Rattle.run_laws.specs.CallFollows.{Agrees}
use Rattle.run_laws.proofs.CallFollows.{call_agrees}
use Rattle.run_laws.specs.Demand3.{runs, lengths, AllAgree, Demand3, WhichFirst}

-- ---- the theorem

module _ (bytes : List ℕ) (ok : accepted bytes ≡ true) where
  all_agree : (bs : List (List ℕ)) (m : Machine) (u : RunTables) → Stands (counts_of bytes) (records_of bytes) m u
      → AllAgree bytes bs (calls (sheet_of bytes) m (lengths bs)) (runs bytes u bs)
  unfolding calls runs
  all_agree [] m u g = tt
  all_agree (b ∷ bs) m u g =
      let a = call_agrees bytes ok m u g b in
      (a, all_agree bs (call (sheet_of bytes) (length b) m).machine (run_on bytes u b).run a.tables)

  pub demand3 : (buffers : List (List ℕ)) → Demand3 bytes buffers
  demand3 buffers =
      record {
        begins = fresh_stands bytes ok;
        agree = all_agree buffers (fresh (sheet_of bytes)) (fresh_run (counts_of bytes) bytes) (fresh_stands bytes ok);
        joined_lines = calls_joined (sheet_of bytes) (fresh (sheet_of bytes)) (lengths buffers);
        laws = machine_laws bytes ok;
      }

-- a call from any tables that the judge passes, whoever wrote them, is the call of the machine that they spell
pub any_run : (bytes : List ℕ) → accepted bytes ≡ true → (u : RunTables) (b : List ℕ)
    → run_judged (counts_of bytes) (records_of bytes) u (length b) ≡ (Ok tt)
    → (m : Machine) × Stands (counts_of bytes) (records_of bytes) m u × Agrees bytes b (call (sheet_of bytes) (length b) m) (run_on bytes u b)
any_run bytes ok u b e =
    let s = passed_standing bytes (counts_of bytes) ok refl u (length b) (judged_fine (counts_of bytes) (records_of bytes) u (length b) e) in
    (s.machine, s.stands, call_agrees bytes ok s.machine u s.stands b)

pub which_first : (bytes : List ℕ) → accepted bytes ≡ true → (n a b : ℕ) → In a (whos (notices_at (sheet_of bytes) n))
    → In b (whos (notices_at (sheet_of bytes) n))
    → (scheduled (sheet_of bytes) n a).by < (scheduled (sheet_of bytes) n b).by → WhichFirst (sheet_of bytes) n a b
which_first bytes ok n a b i j l = let w = machine_laws bytes ok n in record { tie = w.ties.tie a b i j l; goes_first = w.goes_first }

-- Can a crate stand in two queues and be counted twice? No link stands twice in the sets, all sets together, after any number of steps
pub stands_once : (bytes : List ℕ) → accepted bytes ≡ true → (n : ℕ) → Nodup (joined (state (sheet_of bytes) n).lists.sets)
stands_once bytes ok n = dist_nodup (joined (state (sheet_of bytes) n).lists.sets) (machine_laws bytes ok n).kept.links_once
