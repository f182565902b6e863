-- The bytes before a place were taken. Those that are left fall.
use Rattle.std.proofs.Common.{◌-◌, ◌≤◌, length}
use Rattle.stream.proofs.send.Given as goal

abbrev pub invariant-loop-at : goal.invariant-loop-at
invariant-loop-at g l = l.at ≤ length l.bytes

abbrev pub decreases-loop-at : goal.decreases-loop-at
decreases-loop-at g l = length l.bytes - l.at
