-- The tasks of a run as it starts are those of its table.
use mathlib.Core.Path.{◌≡◌, ap, refl}
use mathlib.Core.List.{List, [], ◌∷◌, map}
use Rattle.model.specs.Task as model
use Rattle.phase.specs.Task.{start_task, task_of}

pub started-tasks : (τs : List model.Task) → map task_of (map start_task τs) ≡ τs
started-tasks [] = refl
started-tasks (τ ∷ τs) = ap (λ (l : List model.Task). τ ∷ l) (started-tasks τs)
