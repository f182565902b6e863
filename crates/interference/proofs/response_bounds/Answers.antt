-- `interference::response_bounds`: the test of the table that was loaded is the answer.
use Rattle.std.proofs.Common.{ap, sym, subst}
use Rattle.model.proofs.Exits.{err-as}
use Rattle.table.specs.Fitting.{loaded_in}
use Rattle.interference.specs.Bounds.{BoundsOf, answered}
use Rattle.interference.proofs.Contract.{loaded-contract, refused-contract}
use Rattle.interference.proofs.response_bounds.Goals as goal

pub returns-in_err-fitting : goal.returns-in_err-fitting
returns-in_err-fitting c =
    let is = err-as c.from_residual.result c.in_err-fitting.field-0.0 c.from_residual.ensures.1 in
    subst (λ r. BoundsOf c.args.words.now (answered r)) (sym is)
    (refused-contract c.args.words.now (loaded_in c.load.result) c.load.ensures c.in_err-fitting.field-0.0 (ap loaded_in c.in_err-fitting.was))

pub test-requires : goal.test-requires
test-requires c = c.in_ok-fitting.fitting.fit

pub returns : goal.returns
returns c = loaded-contract c.args.words.now (loaded_in c.load.result) c.load.ensures c.in_ok-fitting.fitting.loaded (ap loaded_in c.in_ok-fitting.was) c.test.result c.test.ensures.value
