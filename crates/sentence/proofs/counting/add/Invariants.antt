use Rattle.std.proofs.Common.{◌≡◌}
use Rattle.simulation.proofs.SetWalk.{taken, Left}
use Rattle.sentence.proofs.Adding.{counted}
use Rattle.sentence.proofs.counting.add.Given as goal

-- the places taken off the set have one more
abbrev pub invariant-loop-place : goal.invariant-loop-place
invariant-loop-place l =
    Left l.granted l.place-iterator.rest × (l.ran ≡ counted (taken l.granted l.place-iterator.rest) l.fn.ran)
