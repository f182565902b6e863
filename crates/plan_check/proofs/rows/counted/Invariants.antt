-- No core passed shows an unknown position, and the bytes of the cores passed are counted.
use Rattle.std.proofs.Common.{◌≡◌, ◌<◌, ℕ, false, take}
use Rattle.plan_check.specs.Row.{unknown_byte_at}
use Rattle.plan_check.proofs.Counting.{Counted}
use Rattle.plan_check.proofs.rows.counted.Given as goal

abbrev pub invariant-loop-core : goal.invariant-loop-core
invariant-loop-core l = record {
  known : (k : ℕ) → k < l.core → unknown_byte_at l.fence l.count l.row k ≡ false;
  counts : Counted l.cells (take l.core l.row);
}
