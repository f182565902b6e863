use Rattle.simulation.specs.Machine.{machine_of}
use Rattle.judge.proofs.LateByEvents.{RemainingDue}
use Rattle.response_time.proofs.recording.any_left.Given as goal

-- the places that have been handled have no tick left
abbrev pub invariant-loop-place : goal.invariant-loop-place
invariant-loop-place l = RemainingDue (machine_of l.places 0) l.set l.place-iterator.rest
