use Rattle.std.proofs.Common.{refl, ◌≡◌, ap, ◌∙◌, arith, rules, length, get_or, take, get_or-set_other, length-set}
use Rattle.std.proofs.Math.Seq.{get_or-take}
use Rattle.model.specs.Sizes.{most_tasks}
use Rattle.table.specs.Task.{no_task}
use Rattle.phase.specs.Task.{task_of, past_end}
use Rattle.run.specs.Run.{run_task_at}
use Rattle.run.proofs.PlaceSets.{none-there, tasks-known-more, tasks-known, tasks-stored}
use Rattle.run.proofs.Run.parameters.Goals as goal

pub loop-i-init : goal.loop-i-init
loop-i-init c =
    let none : c.default-tasks.result ≡ no_task = search (rules, c.default-tasks.ensures) in
    record { size = refl; known = λ p h. absurd (omega arith); none = λ p h. none-there most_tasks p c.default-tasks.result none }

pub loop-i-preserved : goal.loop-i-preserved
loop-i-preserved c =
    let l = c.loop-i in
    let r = c.args.self in
    let here = ap task_of (get_or-take r.count r.tasks l.i past_end (omega arith)) in
    let stored = (get_or (take r.count r.tasks) l.i past_end).parameters in
    record {
      size = simp length-set l.invariant.size;
      known = tasks-known-more l.tasks (run_task_at r) l.i stored (omega arith) here l.invariant.known;
      none = λ p h. get_or-set_other l.tasks l.i p stored no_task (λ (e : p ≡ l.i). omega arith) ∙ l.invariant.none p (omega arith);
    }

pub returns : goal.returns
returns c =
    let l = c.loop-i in
    let r = c.args.self in
    let e : l.i ≡ r.count = omega arith in
    let places : length r.tasks ≡ most_tasks = search rules in
    let known = tasks-known r l.tasks c.requires l.invariant.size places (rw e at l.invariant.known) in
    (tasks-stored r l.tasks c.requires l.invariant.size known (λ p h. l.invariant.none p (omega arith)), known)
