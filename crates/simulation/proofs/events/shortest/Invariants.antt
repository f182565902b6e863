use Rattle.simulation.specs.Places.{segment}
use Rattle.simulation.proofs.SetWalk.{taken, Left}
use Rattle.simulation.proofs.Shortest.{Shortest}
use Rattle.simulation.proofs.events.shortest.Given as goal

-- the least of what is left at the places taken off the granted set
abbrev pub invariant-loop-place : goal.invariant-loop-place
invariant-loop-place l =
    Left l.granted l.place-iterator.rest
    × Shortest (taken l.granted l.place-iterator.rest) l.most (segment 0 l.places) l.ticks
