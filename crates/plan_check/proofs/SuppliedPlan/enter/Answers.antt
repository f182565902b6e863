-- 10, then 11, then what the row shows (`Cases`); what is returned is ready for the next (`enter-of`).
use Rattle.std.proofs.Common.{sym, arith}
use Rattle.plan_check.specs.RowAnswer.{entered_in}
use Rattle.plan_check.proofs.Cases.{take_past, take-size}
use Rattle.plan_check.proofs.Taking.{enter-of}
use Rattle.plan_check.proofs.SuppliedPlan.enter.Goals as goal

pub returns-then-extent-self : goal.returns-then-extent-self
returns-then-extent-self c =
    let w = c.args.self in
    let row = c.args.row.now in
    enter-of w row _ _ c.requires _ (sym (take_past w row c.requires.passes c.requires.within (omega (arith, c.requires.horizon, c.if-extent-self.true))))

pub returns-then-row-self : goal.returns-then-row-self
returns-then-row-self c =
    let w = c.args.self in
    let row = c.args.row.now in
    enter-of w row _ _ c.requires _
    (sym (take-size w row c.requires.passes c.requires.within (omega (arith, c.requires.horizon, c.if-extent-self.false)) c.if-row-self.true))

pub returns : goal.returns
returns c = enter-of c.args.self c.args.row.now _ _ c.requires (entered_in c.args.self c.shown.result) c.shown.ensures
