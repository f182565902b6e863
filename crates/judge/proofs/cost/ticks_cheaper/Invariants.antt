use Rattle.std.proofs.Common.{◌≡◌, ◌*◌, ◌≤◌}
use Rattle.judge.specs.Cost.{event_cost, tick_cost, sum_to}
use Rattle.judge.proofs.cost.ticks_cheaper.Given as goal

-- the sums are those of the places passed, and small enough to fit
abbrev pub invariant-loop-task : goal.invariant-loop-task
invariant-loop-task l = record {
  work : l.work ≡ sum_to tick_cost l.task-index l.fn.table.tasks;
  events : l.events ≡ sum_to event_cost l.task-index l.fn.table.tasks;
  less_work : l.work ≤ 4294967296000000 * l.task-index;
  few_events : l.events ≤ 36000000 * l.task-index;
}
