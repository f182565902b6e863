-- What is left is the free cores from the place on up to which cores are taken.
use Rattle.std.proofs.Common.{◌≡◌, ◌-◌, ◌≤◌, drop}
use Rattle.cores.specs.Cores.{cores}
use Rattle.cores.proofs.lowest.Given as goal

abbrev pub invariant-loop-wanted : goal.invariant-loop-wanted
invariant-loop-wanted l = record { fewer : l.wanted ≤ l.fn.width; subset : l.rest ≤ l.fn.free; left : cores l.rest ≡ drop (l.fn.width - l.wanted) (cores l.fn.free) }

abbrev pub decreases-loop-wanted : goal.decreases-loop-wanted
decreases-loop-wanted l = l.wanted
