-- The plan is closed exactly at the horizon.
use Rattle.std.proofs.Common.{sym, ◌∙◌, eq-eqb}
use borrow.Author.Tests.{ne_eqb}
use Rattle.plan_check.specs.CheckRow.{answer_at}
use Rattle.plan_check.proofs.SuppliedPlan.answer_at.Goals as goal

pub returns-then-self-horizon : goal.returns-then-self-horizon
unfolding answer_at
returns-then-self-horizon c = simp (c.final_answer.ensures, eq-eqb _ _ (c.if-self-horizon.true ∙ c.requires.fact_2))

pub returns : goal.returns
unfolding answer_at
returns c = simp (ne_eqb _ _ (λ e. c.if-self-horizon.false (e ∙ sym c.requires.fact_2)))
