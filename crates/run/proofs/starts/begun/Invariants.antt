-- the places passed have their tasks as they start, and the others are as they were made
use Rattle.std.proofs.Common.{◌≡◌, ◌++◌, map, drop, replicate}
use Rattle.model.specs.Sizes.{most_tasks}
use Rattle.table.specs.Task.{tasks_of}
use Rattle.phase.specs.Task.{unused, start_task}
use Rattle.run.proofs.starts.begun.Given as goal

abbrev pub invariant-loop-i : goal.invariant-loop-i
invariant-loop-i l = l.places ≡ map start_task (tasks_of l.fn.table.tasks l.i) ++ drop l.i (replicate most_tasks unused)
