-- The calls that a step can make, and what each does to the machine's lists. A refused call changes nothing.
use Rattle.std.specs.Prelude.{ℕ, ◌-◌, Bool, ℤ, set, Ok, Err}
use Rattle.model.specs.declared.Counts.{Counts}
use Rattle.model.specs.Counts.{is_head}
use Rattle.model.specs.declared.call.SetCall.{SetCall}
use Rattle.model_laws.specs.Tables.{Lists}
use Rattle.model_laws.specs.Result.{need, done, refused, Result}
use Rattle.model_laws.specs.Now.{time}
use Rattle.simset_laws.specs.Plain.{set_call}
use Rattle.simulation_laws.specs.Plain as plain
use Rattle.accum_laws.specs.Update.{Updated, updated_of}
use Rattle.accum_laws.specs.Triples.{numbered}
use Rattle.machine.specs.Machine.{Machine, with_lists, with_triples}

-- ---- the calls of a step: a record's, with its operands resolved, or finish

pub data ListCall : Type 0 where
  on_set : SetCall → ListCall
  hold : ℤ → ListCall
  passivate : ListCall
  wait : ℕ → ListCall
  cancel : ℕ → ListCall
  activate : Bool → ℕ → ℕ → ℕ → ℤ → ListCall  -- again (reactivate), clause, X, Y, T
  if_empty : ℕ → ListCall
  finish : ListCall

pub data Call : Type 0 where
  on_list : ListCall → Call
  accum : ℕ → ℤ → Call

-- ---- on lists

-- the sequencing calls are simulation's; "12 changes no list", but its x is a head
unfoldable pub lists_after : Counts → ListCall → Lists → Result Lists
lists_after c (on_set k) l = set_call c k l
lists_after c (hold t) l = plain.hold t l
lists_after c passivate l = plain.passivate l
lists_after c (wait y) l = plain.wait c y l
lists_after c (cancel x) l = plain.cancel c x l
lists_after c (activate again k x y t) l = plain.timed c again k x y t l
lists_after c (if_empty x) l = need (is_head c x) (done l)
lists_after c finish l = plain.finish c l

-- ---- on the machine

abbrev pub lifted : Machine → Result Lists → Result Machine
lifted m (refused r) = refused r
lifted m (done l) = done (with_lists m l)

abbrev pub storing : Machine → ℕ → Updated → Result Machine
storing m k (Ok v) = done (with_triples m (set m.triples (k - 1) v))
storing m k (Err r) = refused r

-- "13 is accum on triple x"
unfoldable pub perform : Counts → Call → Machine → Result Machine
perform c (on_list k) m = lifted m (lists_after c k m.lists)
perform c (accum k d) m = storing m k (updated_of (numbered k m.triples) (time m.lists) d)
