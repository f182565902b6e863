-- What a loaded table promises: the table of the model that it is, and what a run of it needs.
use Rattle.std.specs.Prelude.{◌≡◌, ℕ, ◌≤◌, ◌<◌, length}
use Rattle.model.specs.Task.{Table, AllValid, task, rule_of}
use Rattle.model.specs.Horizon.{last_s, hyperperiod, horizon}
use Rattle.model.specs.Sizes.{most_cores, most_tasks}
use Rattle.table.specs.declared.Loaded.{Loaded}
use Rattle.table.specs.Task.{tasks_of}
use Rattle.table.specs.Limits.{most_time}

-- the table that was loaded
abbrev pub loaded_table : Loaded → Table
loaded_table t = record { tasks = tasks_of t.tasks t.count; cores = t.cores; fence = t.fence; rule = rule_of t.rule }

-- what a run needs of it
pub record Fit (t : Loaded) : Type 0 where
  pub places : length t.tasks ≡ most_tasks
  pub some : 0 < t.count
  pub few : t.count ≤ most_tasks
  pub narrow : t.cores ≤ most_cores
  pub valid : AllValid (loaded_table t)
  pub short : (p : ℕ) → p < t.count → (task (loaded_table t) p).period ≤ most_time
  pub start : t.start ≡ last_s (loaded_table t).tasks
  pub period : t.period ≡ hyperperiod (loaded_table t).tasks
  pub horizon : t.horizon ≡ horizon (loaded_table t)
  pub limit : t.horizon ≤ 1000000000
