-- the first i tasks are one tick on
use Rattle.std.proofs.Common.{◌≡◌, ◌≤◌}
use Rattle.model.specs.Search.{bit}
use Rattle.model.specs.Sizes.{most_tasks}
use Rattle.run.specs.Run.{map_first, next_at}
use Rattle.run.proofs.Run.moved.Given as goal

abbrev pub invariant-loop-i : goal.invariant-loop-i
invariant-loop-i l = record {
  few : l.fn.self.count ≤ most_tasks;
  so_far : l.run ≡ record {
    rule = l.fn.self.rule;
    cores = l.fn.self.cores;
    fence = l.fn.self.fence;
    withdrawn = l.fn.self.withdrawn;
    count = l.fn.self.count;
    tasks = map_first (next_at l.fn.self (bit l.reports) l.empties) l.i l.fn.self.tasks;
  };
}
