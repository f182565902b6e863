-- The run that starts from the words of a table that passes 1 to 9 and 19 passes 14.
use mathlib.Core.Path.{◌≡◌, refl, sym, subst}
use mathlib.Core.Bool.{false}
use mathlib.Core.List.{List, [], ◌∷◌, map, ◌++◌}
use mathlib.Core.Logic.{⊎_elim}
use Prim.Native.Nat.{ℕ, zero, suc, ◌-◌, ◌<◌}
use native.Mathlib.Nat.{not-suc-le-zero, le_of_suc-le-suc}
use native.Mathlib.Omega.{arith}
use lib.ListN.{length, get_or, replicate}
use Rattle.model.specs.Fence.{unfenced_count}
use Rattle.model.specs.Task.{task, absent_task}
use Rattle.model.specs.Task as model
use Rattle.std.proofs.lemmas.Bool.{false_from_ne_true}
use Rattle.model.specs.Sizes.{most_tasks}
use Rattle.table.specs.Words.{core_count, rule, fence, table_of}
use Rattle.table.specs.Limits.{cores_out, rule_out, fence_out, task_out}
use Rattle.table.specs.Numbers.{NoneApplies, two, three, nineteen}
use Rattle.table.proofs.Tests.{from-decides, cores-decides, rule-decides, fence-decides, task-decides}
use Rattle.table.proofs.Passed.{passed-count, passed-inside, passed-valid}
use Rattle.phase.specs.declared.Task.{Task}
use Rattle.phase.specs.Phase.{PhaseIn}
use Rattle.phase.specs.Task.{task_of, past_end, unused, start_task}
use Rattle.run.specs.Start.{started_run}
use Rattle.phase.proofs.Phases.{start-in}
use Rattle.run.proofs.Limits.{Passes}
use Rattle.run.proofs.SetTests.{within_none}

-- the task at a place of a started run
pub started-at : (τs : List model.Task) (us : List Task) (p : ℕ) → p < length τs → get_or (map start_task τs ++ us) p past_end ≡ start_task (get_or τs p absent_task)
started-at [] us p l = absurd (not-suc-le-zero l)
started-at (τ ∷ τs) us zero l = refl
started-at (τ ∷ τs) us (suc p) l = started-at τs us p (le_of_suc-le-suc l)

module _ (ws : List ℕ) (none : NoneApplies ws) where
  -- 2, 3 and 19
  cores-in : cores_out (core_count ws) ≡ false
  cores-in = false_from_ne_true (cores_out (core_count ws)) (λ e. none 2 0 (two ((cores-decides (core_count ws)).0 e)))

  rule-in : rule_out (rule ws) ≡ false
  rule-in = false_from_ne_true (rule_out (rule ws)) (λ e. none 3 0 (three ((rule-decides (rule ws)).0 e)))

  fence-in : fence_out (core_count ws) (fence ws) ≡ false
  fence-in = false_from_ne_true (fence_out (core_count ws) (fence ws)) (λ e. none 19 0 (nineteen ((fence-decides (core_count ws) (fence ws)).0 e)))

  -- 7 and 8
  task-in : (p : ℕ) → p < length (table_of ws).tasks → task_out (unfenced_count (fence ws) (core_count ws)) (task (table_of ws) p) ≡ false
  task-in p l =
      false_from_ne_true (task_out (unfenced_count (fence ws) (core_count ws)) (task (table_of ws) p)) (λ e.
      let i = passed-inside ws none p l in
      ⊎_elim
      (λ w. ⊎_elim (λ x. ⊎_elim (λ y. omega arith) (λ y. omega arith) x) (λ x. ⊎_elim (λ y. omega arith) (λ y. omega arith) x) w)
      (λ w. ⊎_elim (λ x. omega arith) (λ w. ⊎_elim (λ x. x i.length_from) (λ w. ⊎_elim (λ x. x i.period-from) (λ x. x i.deadline-from) w) w) w)
      ((task-decides (unfenced_count (fence ws) (core_count ws)) (task (table_of ws) p)).0 e))

  same-cores : (table_of ws).cores ≡ core_count ws
  unfolding table_of
  same-cores = refl

  same-fence : (table_of ws).fence ≡ fence ws
  unfolding table_of
  same-fence = refl

  -- so it passes 14
  pub start-passes : Passes (started_run (rule ws) (table_of ws))
  unfolding started_run
  start-passes = record {
    count = (from-decides 1 most_tasks (length (table_of ws).tasks)).1 (passed-count ws none);
    cores = rw same-cores cores-in;
    rule = rule-in;
    fence = rw (same-cores, same-fence) fence-in;
    withdrawn = within_none (length (table_of ws).tasks);
    tasks = λ p l. rw (at p l, same-cores, same-fence) (task-in p l);
    phases = λ p l.
        subst (λ (t : Task). PhaseIn (model.rule_of (rule ws)) (task_of t) t.even t.phase) (sym (at p l))
        (start-in (model.rule_of (rule ws)) (task (table_of ws) p) (passed-valid ws none p l));
  }
    where
      at : (p : ℕ) → p < length (table_of ws).tasks
          → get_or (map start_task (table_of ws).tasks ++ replicate (most_tasks - length (table_of ws).tasks) unused) p past_end ≡ start_task (task (table_of ws) p)
      at p l = started-at (table_of ws).tasks (replicate (most_tasks - length (table_of ws).tasks) unused) p l
