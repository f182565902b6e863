-- A task with its phase (scope, 'The run in the cab'): the task of the table that it is, its limits, its start, and one tick of it.
use Rattle.std.specs.Prelude.{Bool, false, ◌||◌, not, cond, ℕ}
use Rattle.model.specs.Task as model
use Rattle.table.specs.Limits.{task_out}
use Rattle.table.specs.declared.Task as table
use Rattle.table.specs.Task as tasks
use Rattle.phase.specs.declared.Phase.TheVariants.{Coming, Resting}
use Rattle.phase.specs.declared.TaskState.{TaskState}
use Rattle.phase.specs.declared.Task.{Task}
use Rattle.phase.specs.Phase.{phase_in, task_state, start_state, phase_emptied, next_state}

-- the model's task of a task with its phase
abbrev pub task_of : Task → model.Task
task_of t = tasks.task_of t.parameters

-- .. and the task in code of a task of the model
abbrev pub parameters_of : model.Task → table.Task
parameters_of τ = record {
  offset = τ.offset;
  width = τ.odd_width;
  length = τ.length;
  deadline = τ.deadline;
  period = τ.period;
  second = τ.even_width;
}

-- a task of the table in this state
abbrev pub with_state : TaskState → model.Task → Task
with_state w τ = record {
  parameters = parameters_of τ;
  even = w.even;
  phase = w.phase;
}

-- zeros, odd and Resting(0): a place past the count
abbrev pub unused : Task
unused = with_state (task_state false (Resting 0)) model.absent_task

-- what an array's read past its last place gives
abbrev pub past_end : Task
past_end = with_state (task_state false (Coming 0)) model.absent_task

-- the width of the task's job
abbrev pub width_now : Task → ℕ
width_now t = cond t.even t.parameters.second t.parameters.width

-- the task breaks 7 or 8 on this number of unfenced cores, or its phase or its parity is outside the limits
abbrev pub out_in : ℕ → model.Rule → Task → Bool
out_in wide r t = task_out wide (task_of t) || not (phase_in r (task_of t) t.even t.phase)

-- a task as it starts
abbrev pub start_task : model.Task → Task
start_task τ = with_state (start_state τ.offset) τ

-- the task one tick on, by whether its job is empty if it is released in this tick, whether it is given cores, whether it borrows some and whether it
-- is reported
abbrev pub next_task : model.Rule → Bool → Bool → Bool → Bool → Task → Task
next_task r empty given lent reported t =
    with_state (next_state r (task_of t) given lent reported t.even (phase_emptied r empty t.phase)) (task_of t)
