use Rattle.std.proofs.Common.{◌≡◌}
use Rattle.simulation.specs.Places.{segment, second, third}
use Rattle.simulation.specs.Machine.{machine_of}
use Rattle.simulation.specs.Jump.{handled_all}
use Rattle.simulation.proofs.SetWalk.{taken, Left}
use Rattle.simulation.proofs.due.handle_due.Given as goal

-- the places taken off the due set have been handled
abbrev pub invariant-loop-place : goal.invariant-loop-place
invariant-loop-place l =
    Left l.due l.place-iterator.rest
    × (machine_of l.places l.set
    ≡ handled_all l.tick (taken l.due l.place-iterator.rest) (segment 0 l.times) (segment second l.times) (segment third l.times) (machine_of l.fn.places l.fn.claiming))
