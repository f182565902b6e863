-- The effect of the counting in code on the counts of 32 places.
use Rattle.std.specs.Prelude.{cond, List, ◌++◌, ℕ, ◌+◌, ◌-◌, ◌≤◌, ◌<◌, take, replicate}
use Rattle.model.specs.Search.{bit}
use Rattle.model.specs.Task.{task}
use Rattle.model.specs.Sizes.{most_tasks}
use Rattle.table.specs.declared.Loaded.{Loaded}
use Rattle.table.specs.Limits.{most_time}
use Rattle.simulation.specs.Places.{map_places}
use Rattle.table.specs.Fit.{loaded_table}

-- one more for each place of a set
abbrev pub added : ℕ → List ℕ → List ℕ
added granted ran = map_places (λ q n. cond (bit granted q) (n + 1) n) ran

-- the counts of the places before p, and zeros from p on
abbrev pub above : ℕ → List ℕ → List ℕ
above p ran = take p ran ++ replicate (most_tasks - p) 0

-- each length C of the table that was loaded is within its limit
abbrev pub LengthsWithin : Loaded → Type 0
LengthsWithin t = (p : ℕ) → p < t.count → (task (loaded_table t) p).length ≤ most_time
