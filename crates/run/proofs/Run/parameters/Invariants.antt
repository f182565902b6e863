-- the places passed have the tasks of the table that the run's tasks are, the others none
use Rattle.std.proofs.Common.{◌≡◌, ℕ, ◌<◌, ◌≤◌, get_or, length}
use Rattle.model.specs.Sizes.{most_tasks}
use Rattle.table.specs.Task.{task_of, no_task}
use Rattle.run.specs.Run.{run_task_at}
use Rattle.run.proofs.Run.parameters.Given as goal

abbrev pub invariant-loop-i : goal.invariant-loop-i
invariant-loop-i l = record {
  size : length l.tasks ≡ most_tasks;
  known : (p : ℕ) → p < l.i → task_of (get_or l.tasks p no_task) ≡ run_task_at l.fn.self p;
  none : (p : ℕ) → l.i ≤ p → get_or l.tasks p no_task ≡ no_task;
}
