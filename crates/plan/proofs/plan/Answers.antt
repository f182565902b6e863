-- `plan::plan`: the contract of `load` fits the plan of a table, and a refusal of the table is the plan's.
use Rattle.std.proofs.Common.{ap, sym, subst, refl}
use Rattle.model.proofs.Exits.{err-as}
use Rattle.table.specs.Fitting.{loaded_in}
use Rattle.plan.specs.Plan.{PlanOf, planned}
use Rattle.plan.proofs.Contract.{passed-plan, refused-plan}
use Rattle.plan.proofs.plan.Goals as goal

pub returns-in_err-fitting : goal.returns-in_err-fitting
returns-in_err-fitting c =
    let is = err-as c.from_residual.result c.in_err-fitting.field-0.0 c.from_residual.ensures.1 in
    let x = c.args in
    subst (λ r. PlanOf x.words.now x.a x.b x.out.now x.out.now (planned r)) (sym is)
    (refused-plan x.words.now (loaded_in c.load.result) c.load.ensures x.a x.b x.out.now x.out.now c.in_err-fitting.field-0.0 (ap loaded_in c.in_err-fitting.was) refl)

pub returns : goal.returns
returns c =
    let x = c.args in
    passed-plan x.words.now (loaded_in c.load.result) c.load.ensures x.a x.b x.out.now _ c.in_ok-fitting.fitting.loaded (ap loaded_in c.in_ok-fitting.was) (planned c.by_table.result) c.by_table.ensures
