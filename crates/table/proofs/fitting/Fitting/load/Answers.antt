use Rattle.table.proofs.Contract.{load-ok}
use Rattle.table.proofs.Fit.{fit}
use Rattle.table.proofs.fitting.Fitting.load.Goals as goal

pub invariant_of-result : goal.invariant_of-result
invariant_of-result c =
    let (h, none, e) = load-ok c.args.words.now c.load.result c.load.ensures c.in_ok-loaded.loaded c.in_ok-loaded.was in
    record { fit = fit c.args.words.now c.in_ok-loaded.loaded h none }
