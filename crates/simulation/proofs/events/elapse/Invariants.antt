use Rattle.std.proofs.Common.{◌≡◌}
use Rattle.simulation.specs.Machine.{machine_of}
use Rattle.simulation.specs.Jump.{elapsed}
use Rattle.simulation.proofs.SetWalk.{taken, Left}
use Rattle.simulation.proofs.events.elapse.Given as goal

-- the places taken off the granted set have had their ticks
abbrev pub invariant-loop-place : goal.invariant-loop-place
invariant-loop-place l =
    Left l.granted l.place-iterator.rest
    × (machine_of l.places l.set ≡ elapsed l.ticks (taken l.granted l.place-iterator.rest) (machine_of l.fn.places l.fn.claiming))
