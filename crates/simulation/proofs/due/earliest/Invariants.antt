use Rattle.std.proofs.Common.{◌≡◌}
use Rattle.simulation.specs.EventState.{earliest_of}
use Rattle.simulation.specs.Places.{segment}
use Rattle.simulation.proofs.due.earliest.Given as goal

-- the earliest event of the first i places
abbrev pub invariant-loop-i : goal.invariant-loop-i
invariant-loop-i l = l.event ≡ earliest_of l.i (segment 32 l.places)
