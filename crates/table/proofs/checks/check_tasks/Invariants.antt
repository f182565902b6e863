-- No task before the place is turned down.
use Rattle.std.proofs.Common.{map}
use Rattle.table.specs.Task.{task_of}
use Rattle.table.proofs.FirstOut.{NoneOutTo}
use Rattle.table.proofs.checks.check_tasks.Given as goal

abbrev pub invariant-loop-place : goal.invariant-loop-place
invariant-loop-place l = NoneOutTo l.wide (map task_of l.tasks) l.place
