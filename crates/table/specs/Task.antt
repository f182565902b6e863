-- The tasks that code stores, 32 places with a count, as the model's tasks.
use Rattle.std.specs.Prelude.{List, map, ℕ, ◌≤◌, ◌<◌, get_or, take}
use Rattle.model.specs.Task as model
use Rattle.table.specs.declared.Task.{Task}
use Rattle.table.specs.Limits.{most_time}

-- a task's six numbers, as the model has them; as in phase/specs/Task: the model's task of a task in code
abbrev pub task_of : Task → model.Task
task_of t = record {
  offset = t.offset;
  odd_width = t.width;
  length = t.length;
  deadline = t.deadline;
  period = t.period;
  even_width = t.second;
}

-- the tasks of the first count places, in priority order
abbrev pub tasks_of : List Task → ℕ → List model.Task
tasks_of tasks count = map task_of (take count tasks)

-- no task: the value past the count
abbrev pub no_task : Task
no_task = record { offset = 0; width = 0; length = 0; deadline = 0; period = 0; second = 0 }

-- the limits on one task that S and P need: O at most 1,000,000, T from 1 to 1,000,000
pub record TimesWithin (t : Task) : Type 0 where
  pub offset-most : t.offset ≤ most_time
  pub period-least : 1 ≤ t.period
  pub period-most : t.period ≤ most_time

-- each of the first count tasks is within them
abbrev pub InLimits : List Task → ℕ → Type 0
InLimits tasks count = (p : ℕ) → p < count → TimesWithin (get_or tasks p no_task)
