-- What `?` hands on.
use Rattle.std.specs.Prelude.{◌≡◌, Result, Err, IsErrAnd}
use Rattle.std.proofs.Common.{ap, ◌∙◌}
use Rattle.std.proofs.lemmas.Result.{err_from_is_err_and}
use Rattle.model.specs.declared.Refusal.{Refusal}

-- a call that is turned down because another was is turned down for the same reason
pub passed_on : {A : Type 0} (r : Result A Refusal) (q : Refusal) → IsErrAnd r (λ p. p ≡ q) → r ≡ Err q
passed_on r q h = let e = err_from_is_err_and r h in e.1 ∙ ap Err e.2
