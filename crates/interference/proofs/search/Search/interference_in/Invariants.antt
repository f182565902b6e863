use Rattle.interference.proofs.Sums.{Summed}
use Rattle.interference.proofs.search.Search.interference_in.Given as goal

-- the sum is that of the first i places
abbrev pub invariant-loop-i : goal.invariant-loop-i
invariant-loop-i l = Summed l.self.table.tasks l.self.ends l.window l.waits l.sum l.i
