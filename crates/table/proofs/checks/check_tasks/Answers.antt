-- The first task with a width or a time out of its limits is the first that is turned down, by 7 or 8.
use Rattle.std.proofs.Common.{◌≡◌, ◌∙◌, sym, ap, List, map, ℕ, false, get_or, arith, add-one}
use lib.ListN.{length-map, get_or-map}
use Rattle.model.specs.Task.{absent_task}
use Rattle.table.specs.declared.Task.{Task}
use Rattle.table.specs.Task.{task_of, no_task}
use Rattle.table.specs.Limits.{task_number, task_out}
use Rattle.table.proofs.FirstOut.{none-more, out-here, passed-none}
use Rattle.table.proofs.Loads.{width-number, time-number, in-number}
use Rattle.table.proofs.checks.check_tasks.Goals as goal

at : (tasks : List Task) (p : ℕ) → get_or (map task_of tasks) p absent_task ≡ task_of (get_or tasks p no_task)
at tasks p = get_or-map task_of tasks p no_task

pub loop-place-init : goal.loop-place-init
loop-place-init c = λ p l. absurd (omega arith)

pub returns-then-width_out : goal.returns-then-width_out
returns-then-width_out c =
    let m = c.args.wide in
    let tasks = c.args.tasks.now in
    let i = c.loop-place.place in
    let n = ap (task_number m) (at tasks i) ∙ width-number m (task_of (get_or tasks i no_task)) (sym c.width_out.ensures ∙ c.if-width_out.true) in
    rw (add-one i) (out-here m (map task_of tasks) i 7 (omega (arith, length-map tasks task_of)) c.loop-place.invariant n (omega arith))

pub returns-then-times_out : goal.returns-then-times_out
returns-then-times_out c =
    let m = c.args.wide in
    let tasks = c.args.tasks.now in
    let i = c.loop-place.place in
    let n = ap (task_number m) (at tasks i) ∙ time-number m (task_of (get_or tasks i no_task)) (sym c.width_out.ensures ∙ c.if-width_out.false) (sym c.times_out.ensures ∙ c.if-times_out.true) in
    rw (add-one i) (out-here m (map task_of tasks) i 8 (omega (arith, length-map tasks task_of)) c.loop-place.invariant n (omega arith))

pub loop-place-preserved : goal.loop-place-preserved
loop-place-preserved c =
    let m = c.args.wide in
    let tasks = c.args.tasks.now in
    let i = c.loop-place.place in
    let here : task_out m (get_or (map task_of tasks) i absent_task) ≡ false =
    ap (task_out m) (at tasks i) ∙ in-number m (task_of (get_or tasks i no_task)) (sym c.width_out.ensures ∙ c.if-width_out.false) (sym c.times_out.ensures ∙ c.if-times_out.false) in
    none-more m (map task_of tasks) i c.loop-place.invariant here

pub returns : goal.returns
returns c =
    let tasks = c.args.tasks.now in
    passed-none c.args.wide (map task_of tasks) (λ p l. c.loop-place.invariant p (omega (arith, length-map tasks task_of)))
