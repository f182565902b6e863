-- `run::Run::may_withdraw`: each return is a case of the answer's definition.
use Rattle.std.proofs.Common.{◌∙◌, refl, sym}
use Rattle.run.specs.Withdraw.{withdraw_answer}
use Rattle.run.proofs.RunOut.{few}
use Rattle.run.proofs.Run.may_withdraw.Goals as goal

pub returns-then-out : goal.returns-then-out
unfolding withdraw_answer
returns-then-out c = let e = sym c.out.ensures ∙ c.if-out.true in rw e refl

pub is_firm-requires : goal.is_firm-requires
is_firm-requires c = few c.args.self (sym c.out.ensures ∙ c.if-out.false)

pub returns-then-not-is_firm : goal.returns-then-not-is_firm
unfolding withdraw_answer
returns-then-not-is_firm c =
    let e = sym c.out.ensures ∙ c.if-out.false in
    let f = sym c.is_firm.ensures ∙ c.if-not-is_firm.true in
    rw (e, f) refl

pub returns : goal.returns
unfolding withdraw_answer
returns c =
    let e = sym c.out.ensures ∙ c.if-out.false in
    let f = sym c.is_firm.ensures ∙ c.if-not-is_firm.false in
    rw (e, f) refl
