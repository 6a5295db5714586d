-- What the core functions need of tables that were judged fine: ranges, and a first notice that stands behind its head.
use Rattle.std.specs.Prelude.{◌≡◌, Ok}
use Rattle.model.specs.declared.Counts.{Counts}
use Rattle.model_laws.specs.Tables.{Tables}
use Rattle.model_laws.specs.Judge.{judged}
use Rattle.model_laws.proofs.Verdict.{judged_says}
use Rattle.model_laws.specs.Ready.{Ready, formed_ready}

-- a verdict that is fine hands the core functions what they need
pub judged_ready : (c : Counts) (t : Tables) → judged c t ≡ (Ok tt) → Ready c t
judged_ready c t e =
    let b = (judged_says c t).fine_only e in
    formed_ready c b.1.0 t b.0 b.1.1
