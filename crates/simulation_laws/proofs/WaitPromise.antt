-- What wait's code answers, from its tests and calls: refused by 3, 10 or 4 in this order, or done.
use Rattle.std.specs.Prelude.{ℕ, ◌+◌, ◌≡◌, Bool, true, false, Ok, Err}
use Rattle.std.proofs.Math.Path.{sym, ap}
use Rattle.std.proofs.Common.{◌∙◌}
use mathlib.Core.List.{List}
use Rattle.ring_laws.specs.Table.{Sound, Made}
use Rattle.model.specs.declared.Counts.{Counts}
use Rattle.model.specs.declared.Refusal.TheVariants.{Operand, NoNotice, Full}
use Rattle.model.specs.Counts.{total, is_head, linkage_at}
use Rattle.model.specs.declared.answer.Answer.TheVariants.{Done}
use Rattle.model_laws.specs.Now.{AxisSound, half, first_of}
use Rattle.simset_laws.specs.Calls.{or_none}
use Rattle.simset_laws.specs.Procedures.{preceded}
use Rattle.simset_laws.specs.Full.{set_at, full_for}
use Rattle.simset_laws.specs.Promise.{none_or, head_in}
use Rattle.simset_laws.specs.BoundLaws.{Covers, Linking, covers_less}
use Rattle.simset_laws.proofs.BoundLaws.{covers_preceded}
use Rattle.simset_laws.specs.Entering.{Tested}
use Rattle.simulation_laws.specs.Procedures.{drop_on}
use Rattle.simulation_laws.specs.Calls.{wait_step}
use Rattle.simulation_laws.specs.Promise.{sqs, Left, Place, Lone, Judged}
use Rattle.simulation_laws.specs.WaitPromise.{WaitEntered, current_link, made_3, made_10, made_4, made_0}

-- with the bounds
module _ (c : Counts) (y : ℕ) (links axis times bounds : List ℕ) (sound : Sound (total c + 1) links) where
  pub wait_3 : AxisSound (half c) axis → Covers c 0 links bounds → or_none (is_head c y) y ≡ false
      → WaitEntered c links (wait_step c y links (sqs axis times)) links axis times bounds (Err Operand)
  wait_3 s v e = record { waited = made_3 c y links axis times sound s e; covers = λ w. v }

  module _ (e : or_none (is_head c y) y ≡ true) (j : Judged c axis) (f x : ℕ) (p : Place (half c) (first_of (half c) axis) f)
      (ex : x ≡ c.heads + f) (full : Bool)
      (t : Tested c (set_at (total c + 1) c.heads y links) links (full_for c x y links) bounds full) where
    its_full : full_for c (linkage_at c (first_of (half c) axis)) y links ≡ full
    its_full = ap (λ (i : ℕ). full_for c (c.heads + i) y links) (sym p.is) ∙ ap (λ (i : ℕ). full_for c i y links) (sym ex) ∙ sym t.is

    not_entered : Linking c links → Covers c 0 links bounds
    not_entered w = covers_less c (set_at (total c + 1) c.heads y links) links bounds t.covers

    pub wait_10 : full ≡ true → WaitEntered c links (wait_step c y links (sqs axis times)) links axis times bounds (Err Full)
    wait_10 q = record { waited = made_10 c y links axis times sound e j full its_full q; covers = not_entered }

    module _ (room : full ≡ false) (b : Bool) (l : Lone (half c) axis b) where
      pub wait_4 : b ≡ true → WaitEntered c links (wait_step c y links (sqs axis times)) links axis times bounds (Err NoNotice)
      wait_4 q = record { waited = made_4 c y links axis times sound e j full its_full room b l q; covers = not_entered }

      pub wait_0 : (k a t' : List ℕ) → b ≡ false → Made (total c + 1) (preceded (total c + 1) x y links) k
          → Left (half c) (drop_on (half c) f (sqs axis times)) a t'
          → WaitEntered c links (wait_step c y links (sqs axis times)) k a t' bounds (Ok Done)
      wait_0 k a t' q mk lf =
          record {
            waited = made_0 c y links axis times sound e j full its_full room b l f x k a t' q p ex mk lf;
            covers = covers_preceded c x y links bounds (current_link c axis j f x p ex)
                (none_or (is_head c y) y (total c) (head_in c y) e) t.covers k mk.is;
          }
