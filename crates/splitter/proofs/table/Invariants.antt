use Prim.Native.Nat.{◌-◌}
use lib.ListN.{length}
use Rattle.splitter.proofs.Tables.{Whole}
use Rattle.splitter.proofs.table.Given as goal

-- up to this place the bytes are whole lines of the table
abbrev pub invariant-loop-at : goal.invariant-loop-at
invariant-loop-at l = Whole l.fn.bytes l.at

abbrev pub decreases-loop-at : goal.decreases-loop-at
decreases-loop-at l = length l.fn.bytes - l.at
