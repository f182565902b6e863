use Rattle.std.proofs.Common.{◌+◌, ◌-◌, ◌≤◌, ap, subst, arith}
use Rattle.model.specs.Task as model
use Rattle.model.specs.Task.{task}
use Rattle.table.specs.Fit.{loaded_table}
use Rattle.slack.proofs.Bisection.{Between, between-end, between_start, length-short}
use Rattle.slack.proofs.LongerIn.{in_table, own-deadline, own-task}
use Rattle.slack.proofs.growth.slack_at.Goals as goal

pub overflow_sub-late : goal.overflow_sub-late
overflow_sub-late c =
    let t = c.args.table.loaded in
    let p = c.args.place in
    let fit = c.args.table.fit in
    subst (λ (τ : model.Task). τ.length ≤ τ.deadline) (own-task t fit p c.requires.0)
    (length-short (loaded_table t) fit.valid c.requires.1 p (in_table t fit p c.requires.0) (own-deadline t fit p c.requires.0))

pub overflow_add-late : goal.overflow_add-late
overflow_add-late c =
    let t = c.args.table.loaded in
    let p = c.args.place in
    omega (arith, ap (λ (τ : model.Task). τ.deadline) (own-task t c.args.table.fit p c.requires.0), own-deadline t c.args.table.fit p c.requires.0)

pub loop-fits-init : goal.loop-fits-init
loop-fits-init c =
    let t = c.args.table.loaded in
    let p = c.args.place in
    let fit = c.args.table.fit in
    subst (λ (τ : model.Task). Between (loaded_table t) p 0 (τ.deadline - τ.length + 1)) (own-task t fit p c.requires.0)
    (between_start (loaded_table t) fit.valid c.requires.1 p (in_table t fit p c.requires.0) (own-deadline t fit p c.requires.0))

pub returns : goal.returns
returns c =
    let l = c.loop-fits in
    let t = c.args.table.loaded in
    let p = c.args.place in
    let fit = c.args.table.fit in
    between-end (loaded_table t) fit.valid c.requires.1 p (in_table t fit p c.requires.0) (own-deadline t fit p c.requires.0) l.fits l.late l.invariant
    (omega (arith, c.loop-fits-test.false))
