use Rattle.interference.proofs.Passing.{Reached}
use Rattle.interference.proofs.test.Given as goal

-- the places passed have windows that pass
abbrev pub invariant-loop-place : goal.invariant-loop-place
invariant-loop-place l = Reached l.table l.bounds l.widest l.place
