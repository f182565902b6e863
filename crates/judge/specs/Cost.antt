-- The cost of the two judges in a sample of 1,000,000 ticks, by which the faster one is chosen. No answer depends on it.
use Rattle.std.specs.Prelude.{Bool, cond, List, ℕ, zero, suc, ◌+◌, ◌*◌, ◌/◌, eqb, leb, get_or}
use Rattle.model.specs.Sizes.{most_tasks}
use Rattle.table.specs.declared.Loaded.{Loaded}
use Rattle.table.specs.declared.Task.{Task}
use Rattle.table.specs.Task.{no_task}

-- the sample
abbrev pub sample : ℕ
sample = 1000000

-- the jobs of a task in it; a place without a task has none
unfoldable pub jobs_of : Task → ℕ
jobs_of t = cond (eqb t.period 0) 0 (sample / t.period)

-- the cost of its jobs for the event judge: a release and an end, and a deadline, which is no event of its own where the next job is released then
unfoldable pub event_cost : Task → ℕ
event_cost t = jobs_of t * cond (eqb t.deadline t.period) 16 36

-- their cost for the tick judge: the ticks that they need
unfoldable pub tick_cost : Task → ℕ
tick_cost t = jobs_of t * t.length

-- a sum over the first n places
unfoldable pub sum_to : (Task → ℕ) → ℕ → List Task → ℕ
sum_to f zero ts = 0
sum_to f (suc n) ts = sum_to f n ts + f (get_or ts n no_task)

-- the cost of the tick judge: every tick, and in it every job that works
abbrev pub tick_judge_cost : Loaded → ℕ
tick_judge_cost t = sample + sum_to tick_cost most_tasks t.tasks

-- the cost of the event judge, weighted by measurement
abbrev pub event_judge_cost : Loaded → ℕ
event_judge_cost t = sum_to event_cost most_tasks t.tasks

-- the tick judge is the faster one
abbrev pub ticks_cheaper : Loaded → Bool
ticks_cheaper t = leb (tick_judge_cost t) (event_judge_cost t)
