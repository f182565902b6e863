use Rattle.std.proofs.Common.{◌≡◌}
use Rattle.simulation.specs.Machine.{machine_of, worked_tick}
use Rattle.simulation.proofs.SetWalk.{taken, Left}
use Rattle.simulation.proofs.ticks.work.Given as goal

-- the places taken off the granted set have been served
abbrev pub invariant-loop-place : goal.invariant-loop-place
invariant-loop-place l =
    Left l.granted l.place-iterator.rest
    × (machine_of l.places l.set ≡ worked_tick (taken l.granted l.place-iterator.rest) (machine_of l.fn.places l.fn.claiming))
