-- The run is the one given, with the tasks of the places passed one tick on.
use Rattle.std.proofs.Common.{◌≡◌, ◌≤◌, suc, false, get_or}
use lib.Dec.{ltb}
use Rattle.model.specs.Sizes.{most_tasks}
use Rattle.phase.specs.Task.{next_task}
use Rattle.run.specs.Run.{map_first, rule_in}
use Rattle.plan_check.proofs.moves.worked.Given as goal

abbrev pub invariant-loop-i : goal.invariant-loop-i
invariant-loop-i l = record {
  few : l.run.count ≤ most_tasks;
  done : l.next ≡ record {
    rule = l.run.rule;
    cores = l.run.cores;
    fence = l.run.fence;
    withdrawn = l.run.withdrawn;
    count = l.run.count;
    tasks = map_first (λ p t. next_task (rule_in l.run) false (ltb 0 (get_or l.cells (suc p) 0)) false false t) l.i l.run.tasks;
  };
}
