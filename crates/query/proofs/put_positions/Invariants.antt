-- The positions of some members are put, and the iterator has the others.
use Rattle.query.proofs.Positions.{Placing}
use Rattle.query.proofs.put_positions.Given as goal

abbrev pub invariant-loop-place : goal.invariant-loop-place
invariant-loop-place l = Placing l.set l.place-iterator.rest l.initial.line l.line l.at
