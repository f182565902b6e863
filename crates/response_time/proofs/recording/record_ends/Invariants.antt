use Rattle.std.proofs.Common.{◌≡◌}
use Rattle.simulation.specs.Places.{segment, third}
use Rattle.simulation.proofs.SetWalk.{taken, Left}
use Rattle.response_time.specs.Recording.{recorded}
use Rattle.response_time.proofs.recording.record_ends.Given as goal

-- the times of the places taken off the set are recorded
abbrev pub invariant-loop-place : goal.invariant-loop-place
invariant-loop-place l =
    Left l.ended l.place-iterator.rest
    × (l.responses ≡ recorded (taken l.ended l.place-iterator.rest) l.tick (segment third l.times) (segment third l.places) l.fn.responses)
