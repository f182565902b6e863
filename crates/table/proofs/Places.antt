-- The tasks of an array's first places: how many there are, and which is at a place.
use mathlib.Core.Path.{◌≡◌, ap, ◌∙◌}
use mathlib.Core.List.{List}
use Prim.Native.Nat.{ℕ, ◌≤◌, ◌<◌}
use lib.ListN.{length, get_or, take, length-map, get_or-map}
use lib.Seq.{length-take-le, get_or-take}
use Rattle.model.specs.Task.{absent_task}
use Rattle.table.specs.declared.Task.{Task}
use Rattle.table.specs.Task.{task_of, tasks_of, no_task}

pub tasks-length : (tasks : List Task) (count : ℕ) → count ≤ length tasks → length (tasks_of tasks count) ≡ count
tasks-length tasks count h = length-map (take count tasks) task_of ∙ length-take-le count tasks h

pub task-at : (tasks : List Task) (count p : ℕ) → p < count → get_or (tasks_of tasks count) p absent_task ≡ task_of (get_or tasks p no_task)
task-at tasks count p h = get_or-map task_of (take count tasks) p no_task ∙ ap task_of (get_or-take count tasks p no_task h)

-- the default task is none
pub none-is : (t : Task) → (t.offset ≡ 0) × ((t.width ≡ 0) × ((t.length ≡ 0) × ((t.deadline ≡ 0) × ((t.period ≡ 0) × (t.second ≡ 0))))) → t ≡ no_task
none-is t e = λ i. record { offset = e.0 i; width = e.1.0 i; length = e.1.1.0 i; deadline = e.1.1.1.0 i; period = e.1.1.1.1.0 i; second = e.1.1.1.1.1 i }
