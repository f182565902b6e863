use Rattle.std.proofs.Common.{◌≡◌}
use Rattle.simulation.specs.Machine.{machine_of, released_due, earliest}
use Rattle.simulation.specs.Places.{segment}
use Rattle.simulation.proofs.ticks.release_due.Given as goal

-- the first i places have been handled, and the event is the earliest of theirs
abbrev pub invariant-loop-i : goal.invariant-loop-i
invariant-loop-i l = record {
  machines :
      machine_of l.places l.set
      ≡ released_due l.tick (segment 0 l.times) (segment 32 l.times) (segment 64 l.times) l.i (machine_of l.initial.places l.claiming);
  event : l.event ≡ earliest l.i (segment 32 l.places);
}
