-- what the rest of the pass leaves of the set is what the whole pass does
use Rattle.std.proofs.Common.{◌≡◌}
use Rattle.table.specs.Words.{table_of}
use Rattle.conflict.specs.Conflict.{pass}
use Rattle.conflict.proofs.passes.pass.Given as goal

abbrev pub invariant-loop-place : goal.invariant-loop-place
invariant-loop-place l = pass (table_of l.whole.words.now) l.place l.left ≡ pass (table_of l.whole.words.now) l.fn.count l.whole.kept
