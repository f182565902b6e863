-- `table::chain::walk`: the walk has come to this step, each task met has a place and each record met a mark. A record met for the first
-- time leaves one step fewer, since those met differ.
use Rattle.std.proofs.Common.{◌-◌, length}
use Rattle.table.proofs.Walking.{Walking}
use Rattle.table.proofs.chain.walk.Given as goal

abbrev pub invariant-loop-at : goal.invariant-loop-at
invariant-loop-at l = Walking l.words l.tasks l.seen l.count l.at

abbrev pub decreases-loop-at : goal.decreases-loop-at
decreases-loop-at l = length l.records - l.count
