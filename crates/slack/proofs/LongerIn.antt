-- A table that was loaded, with one task longer: it is the table that has grown, and fit to be run.
use mathlib.Core.List.{List, [], ◌∷◌}
use mathlib.Core.Path.{◌≡◌, ap, refl, subst, sym, ◌∙◌}
use Prim.Native.Nat.{ℕ, suc, zero, ◌+◌, ◌<◌, ◌≤◌}
use native.Mathlib.Nat.{le_trans}
use native.Mathlib.Omega.{arith}
use lib.ListN.{get_or, length, length-set, set}
use Rattle.model.specs.Horizon.{horizon, hyperperiod, last_s}
use Rattle.model.specs.Task as model
use Rattle.model.specs.Task.{AllValid, Table, task}
use Rattle.table.proofs.Places.{task-at, tasks-length}
use Rattle.table.specs.declared.Loaded.{Loaded}
use Rattle.table.specs.declared.Task.{Task}
use Rattle.table.specs.Limits.{most_time}
use Rattle.table.specs.Task.{no_task, task_of, tasks_of}
use Rattle.table.specs.Fit.{Fit, loaded_table}
use Rattle.slack.specs.Longer.{TableLengthened, grown, lengthen}
use Rattle.slack.proofs.Grown.{grown-longer, horizon-longer, period-longer, valid-grown, start-longer}

-- a task as code keeps it, with C grown by g ticks
abbrev pub longer_task : ℕ → Task → Task
longer_task g x = record { offset = x.offset; width = x.width; length = x.length + g; deadline = x.deadline; period = x.period; second = x.second }

-- and the table with that of place p
abbrev pub longer_in : Loaded → ℕ → ℕ → Loaded
longer_in t p g = record {
  count = t.count;
  cores = t.cores;
  fence = t.fence;
  rule = t.rule;
  tasks = set t.tasks p (longer_task g (get_or t.tasks p no_task));
  start = t.start;
  period = t.period;
  horizon = t.horizon;
}

-- the tasks of an array in which one is replaced
tasks-set : (n : ℕ) (xs : List Task) (p : ℕ) (x : Task) → tasks_of (set xs p x) n ≡ set (tasks_of xs n) p (task_of x)
tasks-set zero xs p x = refl
tasks-set (suc n) [] p x = refl
tasks-set (suc n) (y ∷ xs) zero x = refl
tasks-set (suc n) (y ∷ xs) (suc p) x = ap {B = List model.Task} (λ τs. task_of y ∷ τs) (tasks-set n xs p x)

module _ (t : Loaded) (fit : Fit t) (p : ℕ) (l : p < t.count) where
  abbrev s : Table
  s = loaded_table t

  -- the place is one of the table, and its task within the limits
  pub in_table : p < length s.tasks
  in_table = omega (arith, tasks-length t.tasks t.count (omega (arith, fit.few, fit.places)))

  pub own-task : task s p ≡ task_of (get_or t.tasks p no_task)
  own-task = task-at t.tasks t.count p l

  pub own-deadline : (task s p).deadline ≤ most_time
  own-deadline = le_trans (fit.valid p in_table).constrained (fit.short p l)

  module _ (g : ℕ) where
    -- it is the table that has grown
    pub longer-table : loaded_table (longer_in t p g) ≡ grown s p g
    longer-table =
        ap (λ (τs : List model.Task). record { tasks = τs; cores = s.cores; fence = s.fence; rule = s.rule })
        (tasks-set t.count t.tasks p (longer_task g (get_or t.tasks p no_task)) ∙ ap (λ (τ : model.Task). set s.tasks p (lengthen g τ)) (sym own-task))

    longer : TableLengthened s (grown s p g)
    longer = grown-longer s p g

    same : {A : Type 0} (f : Table → A) → f s ≡ f (grown s p g) → f s ≡ f (loaded_table (longer_in t p g))
    same f e = e ∙ ap f (sym longer-table)

    -- and fit to be run
    pub longer-fit : Fit (longer_in t p g)
    longer-fit = record {
      places = length-set t.tasks p (longer_task g (get_or t.tasks p no_task)) ∙ fit.places;
      some = fit.some;
      few = fit.few;
      narrow = fit.narrow;
      valid = subst AllValid (sym longer-table) (valid-grown s fit.valid p g);
      short = λ q m.
          subst (λ (w : Table). (task w q).period ≤ most_time) (sym longer-table)
          (subst (λ (n : ℕ). n ≤ most_time) (longer.places q).period (fit.short q m));
      start = fit.start ∙ same (λ w. last_s w.tasks) (start-longer s (grown s p g) longer);
      period = fit.period ∙ same (λ w. hyperperiod w.tasks) (period-longer s (grown s p g) longer);
      horizon = fit.horizon ∙ same horizon (horizon-longer s (grown s p g) longer);
      limit = fit.limit;
    }
