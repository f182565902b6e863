-- What a buffer that holds a plan has; 14 and 9 turn it down for any row.
use Rattle.std.proofs.Common.{sym, ap, ◌∙◌}
use Rattle.model.proofs.Exits.{err-as}
use Rattle.plan_check.proofs.StateTests.{few}
use Rattle.plan_check.specs.RowAnswer.{answer_in}
use Rattle.buffers.proofs.Supplying.{plan-held, plan-long, take-extent}
use Rattle.buffers.proofs.plan_buffer.take.Goals as goal

pub returns-in_err-extent : goal.returns-in_err-extent
returns-in_err-extent c =
    let x = c.in_err-extent.field-0.0 in
    let ws = c.args.words.now in
    let (h, same) = plan-held ws c.in-Some.plan (sym c.in-Some.is ∙ c.plan_in.ensures) in
    ap (λ r. record { answer = answer_in r; buffer = ws }) (err-as c.from_residual.result x c.from_residual.ensures.1)
    ∙ take-extent ws c.args.row.now c.in-Some.plan x h same c.in_err-extent.ensures

pub put_plan-requires : goal.put_plan-requires
put_plan-requires c =
    let (h, same) = plan-held c.args.words.now c.in-Some.plan (sym c.in-Some.is ∙ c.plan_in.ensures) in
    (few c.in_ok-progress.next.run c.in_ok-progress.ensures.1.passes, plan-long c.args.words.now h)
