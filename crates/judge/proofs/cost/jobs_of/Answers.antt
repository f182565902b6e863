use borrow.Author.Tests.{eq-eqb, ne_eqb}
use native.Mathlib.Nat.{div-le_self}
use native.Mathlib.Omega.{arith}
use Rattle.judge.specs.Cost.{sample, jobs_of}
use Rattle.judge.proofs.cost.jobs_of.Goals as goal

pub returns-then-period-eq0 : goal.returns-then-period-eq0
unfolding jobs_of
returns-then-period-eq0 c = (simp (eq-eqb c.args.task.period 0 c.if-period-eq0.true), omega arith)

pub returns : goal.returns
unfolding jobs_of
returns c = (simp (ne_eqb c.args.task.period 0 c.if-period-eq0.false), div-le_self sample c.args.task.period)
