-- `start` is S of the place before the next.
use Rattle.std.proofs.Common.{◌≡◌, map}
use Rattle.model.specs.Horizon.{S}
use Rattle.table.specs.Task.{task_of}
use Rattle.table.proofs.positions.last_start.Given as goal

abbrev pub invariant-loop-task : goal.invariant-loop-task
invariant-loop-task l = l.start ≡ S (map task_of l.tasks) l.task-index
