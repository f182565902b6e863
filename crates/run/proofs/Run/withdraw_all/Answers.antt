-- `run::Run::withdraw_all`: each return is a case of the withdrawal's definition, in its order (`Cases`).
use Rattle.std.proofs.Common.{◌∙◌, ap, subst, sym}
use Rattle.model.specs.Refusal.{number_of, position_of}
use Rattle.model.proofs.Exits.{err-as}
use Rattle.run.specs.declared.Run.{Run}
use Rattle.run.specs.Advance.{Advanced, advanced}
use Rattle.run.specs.Answer.{Taken, answer_in}
use Rattle.run.specs.Numbers.{past_count}
use Rattle.run.specs.Withdraw.{WithdrawAllOf}
use Rattle.run.proofs.Cases.{may-withdraw, withdraw-all-first, withdraw-all-past, withdraw-all-taken, withdraw-refused}
use Rattle.run.proofs.WithdrawSet.{withdraw-set}
use Rattle.run.proofs.Run.withdraw_all.Goals as goal

-- a run that a withdrawal gives
abbrev taken : Run → Advanced
taken r = record { answer = Taken; run = r }

pub returns-in_err-may_withdraw : goal.returns-in_err-may_withdraw
returns-in_err-may_withdraw c =
    let a = c.args in
    let x = c.in_err-may_withdraw.field-0.0 in
    let refused = sym c.may_withdraw.ensures ∙ ap answer_in c.in_err-may_withdraw.was in
    subst (λ w. WithdrawAllOf a.self a.set (advanced a.self w)) (sym (err-as c.from_residual.result x c.from_residual.ensures.1))
    (withdraw-set a.self a.set _ (sym (withdraw-all-first a.self a.set (number_of x) (position_of x) (withdraw-refused a.self (past_count a.self.count a.set) _ _ refused))))

pub returns-then-past : goal.returns-then-past
returns-then-past c =
    let a = c.args in
    let passes = may-withdraw a.self c.may_withdraw.result c.may_withdraw.ensures c.in_ok-may_withdraw.was in
    withdraw-set a.self a.set _
    (sym (withdraw-all-past a.self a.set passes.0 passes.1 (sym c.past.ensures ∙ c.if-past.true)))

pub returns : goal.returns
returns c =
    let a = c.args in
    let passes = may-withdraw a.self c.may_withdraw.result c.may_withdraw.ensures c.in_ok-may_withdraw.was in
    withdraw-set a.self a.set _
    (ap taken c.with_withdrawn.ensures
    ∙ sym (withdraw-all-taken a.self a.set passes.0 passes.1 (sym c.past.ensures ∙ c.if-past.false)))
