use Rattle.std.proofs.Common.{◌+◌, ℕ, arith, refl, ap₂, add-one}
use Rattle.judge.specs.Cost.{sum_to}
use Rattle.judge.proofs.cost.ticks_cheaper.Goals as goal

pub loop-task-init : goal.loop-task-init
unfolding sum_to
loop-task-init c = record { work = refl; events = refl; less_work = omega arith; few_events = omega arith }

pub loop-task-preserved : goal.loop-task-preserved
unfolding sum_to
loop-task-preserved c =
    let l = c.loop-task in
    let work = c.tick_cost-work.ensures in
    let events = c.event_cost.ensures in
    record {
      work = rw (add-one l.task-index) (ap₂ (λ (a b : ℕ). a + b) l.invariant.work work.0);
      events = rw (add-one l.task-index) (ap₂ (λ (a b : ℕ). a + b) l.invariant.events events.0);
      less_work = omega (arith, work.1);
      few_events = omega (arith, events.1);
    }
