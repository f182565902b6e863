use Rattle.std.proofs.Common.{◌≡◌, length}
use Rattle.simulation.specs.Places.{segment}
use Rattle.simulation.proofs.Fields.{Filled}
use Rattle.simulation.proofs.columns.columns_of.Given as goal

-- the first i places of each part of the widths and of the times have the field of the tasks
abbrev pub invariant-loop-i : goal.invariant-loop-i
invariant-loop-i l = record {
  size : length l.widths ≡ 64;
  width : Filled (λ t. t.width) l.fn.table.tasks l.i (segment 0 l.widths);
  second : Filled (λ t. t.second) l.fn.table.tasks l.i (segment 32 l.widths);
  lengths : Filled (λ t. t.length) l.fn.table.tasks l.i (segment 0 l.times);
  deadlines : Filled (λ t. t.deadline) l.fn.table.tasks l.i (segment 32 l.times);
  periods : Filled (λ t. t.period) l.fn.table.tasks l.i (segment 64 l.times);
}
