-- What the exit of a `?` returns.
use Rattle.std.proofs.Common.{◌≡◌, ◌∙◌, ap, Result, Err}
use Rattle.std.specs.Result.{IsErrAnd}
use Rattle.std.proofs.lemmas.Result.{err_from_is_err_and}

-- the error itself, where its type does not change
pub err-as : {T E : Type 0} → (r : Result T E) (x : E) → IsErrAnd r (λ y. y ≡ x) → r ≡ Err x
err-as r x h = let (y, is, same) = err_from_is_err_and {Q = λ y. y ≡ x} r h in is ∙ ap Err same
