use borrow.Author.Tests.{eq-eqb, ne_eqb}
use native.Mathlib.Omega.{arith}
use Rattle.judge.specs.Cost.{event_cost}
use Rattle.judge.proofs.cost.event_cost.Goals as goal

pub returns-then-deadline-period : goal.returns-then-deadline-period
unfolding event_cost
returns-then-deadline-period c =
    let t = c.args.task in
    let e = c.jobs_of-jobs.ensures in
    (simp (e.0, eq-eqb t.deadline t.period c.if-deadline-period.true), omega (arith, e.1))

pub returns : goal.returns
unfolding event_cost
returns c =
    let t = c.args.task in
    let e = c.jobs_of-jobs.ensures in
    (simp (e.0, ne_eqb t.deadline t.period c.if-deadline-period.false), omega (arith, e.1))
