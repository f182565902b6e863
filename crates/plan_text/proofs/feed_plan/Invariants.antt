-- The answer from the start is that of the plan so far from a place on (Feeding).
use Rattle.std.proofs.Common.{◌-◌, length}
use Rattle.plan_text.specs.Check.{ExtentKnown}
use Rattle.plan_text.proofs.Feeding.{Taken}
use Rattle.plan_text.proofs.feed_plan.Given as goal

abbrev pub invariant-loop-at : goal.invariant-loop-at
invariant-loop-at l = Taken l.fn.start l.from l.ended l.bytes l.rows l.at × ExtentKnown l.extent l.rows.plan

abbrev pub decreases-loop-at : goal.decreases-loop-at
decreases-loop-at l = length l.bytes - l.at
