use Rattle.std.proofs.Common.{◌≡◌, length, replicate}
use Rattle.simulation.specs.Places.{segment}
use Rattle.simulation.proofs.Fields.{Filled}
use Rattle.simulation.proofs.machine.start.Given as goal

-- the first i events and next releases are the tasks' offsets, and no tick is left
abbrev pub invariant-loop-i : goal.invariant-loop-i
invariant-loop-i l = record {
  size : length l.places ≡ 96;
  left : segment 0 l.places ≡ replicate 32 0;
  events : Filled (λ t. t.offset) l.fn.table.tasks l.i (segment 32 l.places);
  releases : Filled (λ t. t.offset) l.fn.table.tasks l.i (segment 64 l.places);
}
