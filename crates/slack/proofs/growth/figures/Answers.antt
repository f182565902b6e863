use Rattle.std.proofs.Common.{◌≡◌, arith, length}
use Rattle.table.proofs.Places.{tasks-length}
use Rattle.table.specs.Fit.{loaded_table}
use Rattle.slack.proofs.Listed.{filled-start, filled-end}
use Rattle.slack.proofs.growth.figures.Goals as goal

pub loop-place-init : goal.loop-place-init
loop-place-init c = filled-start (loaded_table c.args.table.loaded)

pub returns : goal.returns
returns c =
    let l = c.loop-place in
    let t = c.args.table.loaded in
    let fit = c.args.table.fit in
    let n : length (loaded_table t).tasks ≡ t.count = tasks-length t.tasks t.count (omega (arith, fit.few, fit.places)) in
    filled-end (loaded_table t) l.figures l.place (omega (arith, fit.few)) (omega arith) l.invariant
