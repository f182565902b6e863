-- A table that passed is the table of its words, and fit to be run.
use native.Mathlib.Omega.{arith}
use mathlib.Core.Path.{◌≡◌, sym, ap, ◌∙◌, subst}
use mathlib.Core.List.{List, ◌++◌}
use Prim.Native.Nat.{ℕ, ◌-◌, ◌≤◌, ◌<◌}
use lib.ListN.{length, take, drop, length-append, length-replicate, length-map, take-append-drop}
use Rattle.model.specs.Task.{Table, rule_of, AllValid, task}
use Rattle.model.specs.Horizon.{last_s, hyperperiod, horizon}
use Rattle.model.specs.Sizes.{most_tasks}
use Rattle.table.specs.declared.Loaded.{Loaded}
use Rattle.table.specs.Task.{task_of, tasks_of, no_task}
use Rattle.table.specs.Words.{table_of}
use Rattle.table.specs.Numbers.{NoneApplies}
use Rattle.table.specs.Limits.{most_time}
use Rattle.table.specs.Load.{LoadedAs}
use Rattle.table.specs.Fit.{loaded_table, Fit}
use Rattle.table.proofs.Passed.{passed-cores, passed-valid, passed-inside}

module _ (ws : List ℕ) (r : Loaded) (h : LoadedAs ws r) (none : NoneApplies ws) where
  -- it is the table of the words
  pub same-table : loaded_table r ≡ table_of ws
  unfolding table_of
  same-table = λ i. record { tasks = tasks' i; cores = h.cores i; fence = h.fence i; rule = rule_of (h.rule i) }
    where
      tasks' : tasks_of r.tasks r.count ≡ (table_of ws).tasks
      tasks' = h.tasks

  -- of 32 places
  place-count : length r.tasks ≡ most_tasks
  place-count =
      let front : length (take r.count r.tasks) ≡ r.count = sym (length-map (take r.count r.tasks) task_of) ∙ (ap length h.tasks ∙ sym h.count) in
      let whole : length (take r.count r.tasks ++ drop r.count r.tasks) ≡ length r.tasks = ap length (take-append-drop r.count r.tasks) in
      let back : length (drop r.count r.tasks) ≡ most_tasks - r.count = ap length h.past ∙ length-replicate (most_tasks - r.count) no_task in
      omega (arith, length-append (take r.count r.tasks) (drop r.count r.tasks), whole, front, back, h.count-from)

  -- and fit to be run
  pub fit : Fit r
  fit = record {
    places = place-count;
    some = h.count-from.0;
    few = h.count-from.1;
    narrow = omega (arith, h.cores, (passed-cores ws none).1);
    valid = subst AllValid (sym same-table) (passed-valid ws none);
    short = λ p q. subst (λ (s : Table). p < length s.tasks → (task s p).period ≤ most_time) (sym same-table)
        (λ i. (passed-inside ws none p i).period-from.1) (omega (arith, h.count, ap (λ (s : Table). length s.tasks) same-table));
    start = h.start ∙ ap (λ (s : Table). last_s s.tasks) (sym same-table);
    period = h.period ∙ ap (λ (s : Table). hyperperiod s.tasks) (sym same-table);
    horizon = h.horizon ∙ ap horizon (sym same-table);
    limit = omega (arith, h.horizon-most);
  }
