-- 14, then the tasks.
use Rattle.std.proofs.Common.{sym, ◌∙◌, arith}
use Rattle.plan_check.proofs.PlanExtent.{extent-refused, number-14}
use Rattle.plan_check.proofs.SuppliedPlan.extent.Goals as goal

pub returns-then-out : goal.returns-then-out
returns-then-out c =
    let r = c.args.self.run in
    let n = number-14 r (sym c.out.ensures ∙ c.if-out.true) in
    record { value = extent-refused r 14 n (omega arith); number = sym n; ready = λ e. absurd (omega arith) }
