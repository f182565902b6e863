-- `capi::plans::sivorandra_check_row`: the plan and the answer are those of the row, and its three words are written where there is space.
use Rattle.std.proofs.Common.{rules}
use Rattle.capi.specs.CheckRow.{check_row_call}
use Rattle.capi.proofs.Calls.{lending-any}
use Rattle.capi.proofs.plans.sivorandra_check_row.Goals as goal

pub returns : goal.returns
unfolding check_row_call
returns c =
    let a = c.args in
    lending-any a.plan.now a.answer.now c.answered.ensures.fits c.answered.ensures.short _ _ (λ w gave. (search rules, search rules))
