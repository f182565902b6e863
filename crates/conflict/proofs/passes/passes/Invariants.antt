-- `conflict::passes::passes`: what further passes leave of this set is the answer; the set falls.
use Rattle.table.specs.Words.{table_of}
use Rattle.conflict.proofs.Dropping.{Going}
use Rattle.conflict.proofs.passes.passes.Given as goal

abbrev pub invariant-loop-kept : goal.invariant-loop-kept
invariant-loop-kept l = Going (table_of l.words) l.kept

abbrev pub decreases-loop-kept : goal.decreases-loop-kept
decreases-loop-kept l = l.kept
