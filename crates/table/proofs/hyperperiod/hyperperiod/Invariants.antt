-- `multiple` is the hyperperiod of the tasks so far, and at most the limit.
use Rattle.std.proofs.Common.{◌≡◌, ◌≤◌, map, take}
use Rattle.model.specs.Horizon.{hyperperiod}
use Rattle.table.specs.Limits.{most_horizon}
use Rattle.table.specs.Task.{task_of}
use Rattle.table.proofs.hyperperiod.hyperperiod.Given as goal

abbrev pub invariant-loop-task : goal.invariant-loop-task
invariant-loop-task l = record {
  within : l.multiple ≤ most_horizon;
  is : l.multiple ≡ hyperperiod (take l.task-index (map task_of l.tasks));
}
