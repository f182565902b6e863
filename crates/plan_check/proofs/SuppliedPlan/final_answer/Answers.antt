-- The branches are the tests of the definition, in its order.
use Rattle.plan_check.specs.CheckRow.{final_answer}
use Rattle.plan_check.proofs.SuppliedPlan.final_answer.Goals as goal

pub returns-then-missed : goal.returns-then-missed
unfolding final_answer
returns-then-missed c = simp (← c.missed.ensures, c.if-missed.true)

pub returns-then-differs : goal.returns-then-differs
unfolding final_answer
returns-then-differs c = simp (← c.missed.ensures, c.if-missed.false, ← c.differs.ensures, c.if-differs.true)

pub returns : goal.returns
unfolding final_answer
returns c = simp (← c.missed.ensures, c.if-missed.false, ← c.differs.ensures, c.if-differs.false)
