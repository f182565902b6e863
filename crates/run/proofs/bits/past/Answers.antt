use Rattle.std.proofs.Common.{sym}
use Rattle.model.specs.Sizes.{most_tasks}
use Rattle.run.proofs.SetTests.{past_shift, past_all}
use Rattle.run.proofs.bits.past.Goals as goal

pub returns-then-count-lt-MOST_TASKS : goal.returns-then-count-lt-MOST_TASKS
returns-then-count-lt-MOST_TASKS c = sym (past_shift c.args.count c.args.set)

pub returns-else-count-lt-MOST_TASKS : goal.returns-else-count-lt-MOST_TASKS
returns-else-count-lt-MOST_TASKS c = sym (past_all c.args.count most_tasks c.args.set c.ranges.set.fits c.if-count-lt-MOST_TASKS.false)
