-- The run, then what is withdrawn, then each place (`StateTests`).
use Rattle.std.proofs.Common.{◌≡◌, ◌∙◌, sym, true}
use mathlib.Core.Logic.{⊎_elim}
use Rattle.run.proofs.RunOut.{few}
use Rattle.plan_check.specs.Numbers.{state_out}
use Rattle.plan_check.proofs.StateTests.{out-unreachable, out-run, out-withdrawn}
use Rattle.plan_check.proofs.bounds.out.Goals as goal

pub any_unreachable-requires : goal.any_unreachable-requires
any_unreachable-requires c = few c.args.run (sym c.out.ensures ∙ c.if-run-ne0.false.0)

pub returns-then-run-ne0 : goal.returns-then-run-ne0
returns-then-run-ne0 c =
    let r = c.args.run in
    let e : state_out r ≡ true =
    ⊎_elim (λ o. out-run r (sym c.out.ensures ∙ o)) (λ o. out-withdrawn r (sym c.out.ensures ∙ o.0) o.1) c.if-run-ne0.either in
    cc

pub returns-else-run-ne0 : goal.returns-else-run-ne0
returns-else-run-ne0 c =
    c.any_unreachable.ensures ∙ sym (out-unreachable c.args.run (sym c.out.ensures ∙ c.if-run-ne0.false.0) c.if-run-ne0.false.1)
