-- What the choice counts, computed at its edges.
use mathlib.Core.List.{[], ◌∷◌}
use mathlib.Core.Path.{◌≡◌, refl}
use Prim.Native.Nat.{ℕ}
use Rattle.table.specs.declared.Task.{Task}
use Rattle.table.specs.Task.{no_task}
use Rattle.judge.specs.Cost.{jobs_of, event_cost, tick_cost, sum_to}

-- a task of this length, deadline and period, with widths 1 and w, and with one width
abbrev task₂ : ℕ → ℕ → ℕ → ℕ → Task
task₂ w c d p = record { offset = 0; width = 1; length = c; deadline = d; period = p; second = w }

abbrev task : ℕ → ℕ → ℕ → Task
task c d p = task₂ 1 c d p

-- a period of 8 has 125,000 jobs, and each costs more where its deadline is no release
pub at-period : event_cost (task 3 8 8) ≡ 2000000
unfolding event_cost jobs_of
at-period = refl

pub before-period : event_cost (task 3 7 8) ≡ 4500000
unfolding event_cost jobs_of
before-period = refl

-- jobs are counted, not their widths: where these differ the period is still T
pub two-widths : event_cost (task₂ 2 3 8 8) ≡ 2000000
unfolding event_cost jobs_of
two-widths = refl

-- one job in the sample, and no task
pub longest : event_cost (task 1 1000000 1000000) ≡ 16
unfolding event_cost jobs_of
longest = refl

pub nothing : event_cost no_task ≡ 0
unfolding event_cost jobs_of
nothing = refl

-- the work of a task, and of two places of which the second has none
pub working : tick_cost (task 3 8 8) ≡ 375000
unfolding tick_cost jobs_of
working = refl

pub summed : sum_to tick_cost 2 (task 3 8 8 ∷ []) ≡ 375000
unfolding sum_to tick_cost jobs_of
summed = refl
