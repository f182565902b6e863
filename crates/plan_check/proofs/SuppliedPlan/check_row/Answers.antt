-- 14 and 9 for any row (`PlanExtent`), then the row; the value has the whole contract (`take-of`).
use Rattle.std.proofs.Common.{ap, refl, ◌∙◌}
use Rattle.model.proofs.Exits.{err-as}
use Rattle.plan_check.specs.RowAnswer.{entered_in}
use Rattle.plan_check.proofs.PlanExtent.{extent-turns-down}
use Rattle.plan_check.proofs.Taking.{take-of}
use Rattle.plan_check.proofs.SuppliedPlan.check_row.Goals as goal

pub returns-in_err-extent : goal.returns-in_err-extent
returns-in_err-extent c =
    let w = c.args.self in
    let row = c.args.row.now in
    let e = c.in_err-extent.field-0.0 in
    take-of w row _ (ap (entered_in w) (err-as c.from_residual.result e c.from_residual.ensures.1) ∙ extent-turns-down w row e c.in_err-extent.ensures)

pub enter-requires : goal.enter-requires
enter-requires c = c.in_ok-extent.ensures.ready refl

pub returns : goal.returns
returns c = take-of c.args.self c.args.row.now (entered_in c.args.self c.enter.result) c.enter.ensures.0
