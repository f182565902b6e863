-- `run::Run::withdraw`: each return is a case of the withdrawal's definition, in its order (`Cases`).
use Rattle.std.proofs.Common.{◌∙◌, ◌-◌, ℕ, ap, arith, subst, sym}
use Rattle.model.specs.Refusal.{number_of, position_of}
use Rattle.model.proofs.Digits.{shifted_one}
use Rattle.model.proofs.Exits.{err-as}
use Rattle.run.specs.declared.Run.{Run}
use Rattle.run.specs.Advance.{Advanced, advanced}
use Rattle.run.specs.Answer.{Taken, answer_in}
use Rattle.run.specs.Numbers.{unknown_in}
use Rattle.run.specs.Run.{withdrawn_in}
use Rattle.run.specs.Withdraw.{WithdrawOf}
use Rattle.run.proofs.RunOut.{few}
use Rattle.run.proofs.Cases.{may-withdraw, withdraw-first, withdraw-refused, withdraw-unknown, withdraw-taken}
use Rattle.run.proofs.WithdrawExact.{known_from, withdraw-of}
use Rattle.run.proofs.Run.withdraw.Goals as goal

-- a run that a withdrawal gives
abbrev taken : Run → Advanced
taken r = record { answer = Taken; run = r }

pub returns-in_err-may_withdraw : goal.returns-in_err-may_withdraw
returns-in_err-may_withdraw c =
    let a = c.args in
    let x = c.in_err-may_withdraw.field-0.0 in
    let refused = sym c.may_withdraw.ensures ∙ ap answer_in c.in_err-may_withdraw.was in
    subst (λ w. WithdrawOf a.self a.position (advanced a.self w)) (sym (err-as c.from_residual.result x c.from_residual.ensures.1))
    (withdraw-of a.self a.position _ (sym (withdraw-first a.self a.position (number_of x) (position_of x) (withdraw-refused a.self (unknown_in a.self a.position) _ _ refused))))

pub overflow_cast-self : goal.overflow_cast-self
overflow_cast-self c = omega (arith, few c.args.self (may-withdraw c.args.self c.may_withdraw.result c.may_withdraw.ensures c.in_ok-may_withdraw.was).0)

pub returns-then-position-self : goal.returns-then-position-self
returns-then-position-self c =
    let a = c.args in
    let passes = may-withdraw c.args.self c.may_withdraw.result c.may_withdraw.ensures c.in_ok-may_withdraw.was in
    withdraw-of a.self a.position _
    (sym (withdraw-unknown a.self a.position passes.0 passes.1 c.if-position-self.true))

pub overflow_shl-position : goal.overflow_shl-position
overflow_shl-position c =
    let known = known_from c.args.self c.args.position c.if-position-self.false in
    omega (arith, known.0, known.1, few c.args.self (may-withdraw c.args.self c.may_withdraw.result c.may_withdraw.ensures c.in_ok-may_withdraw.was).0)

pub returns : goal.returns
returns c =
    let a = c.args in
    let passes = may-withdraw c.args.self c.may_withdraw.result c.may_withdraw.ensures c.in_ok-may_withdraw.was in
    let known = known_from a.self a.position c.if-position-self.false in
    let one = shifted_one 32 (a.position - 1) (omega (arith, known.0, known.1, few a.self passes.0)) in
    withdraw-of a.self a.position _
    (ap taken (c.with_withdrawn.ensures ∙ ap (λ (x : ℕ). withdrawn_in x a.self) one)
    ∙ sym (withdraw-taken a.self a.position passes.0 passes.1 c.if-position-self.false))
