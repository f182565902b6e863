-- Before each tick the run represents the table's full-length run, and the waiting ticks so far are counted.
use Rattle.std.proofs.Common.{◌-◌}
use Rattle.simulation.specs.TickState.{tick_state_of}
use Rattle.sentence.proofs.CountingPass.{Counting}
use Rattle.sentence.proofs.counting.count.Given as goal

abbrev pub invariant-loop-registers : goal.invariant-loop-registers
invariant-loop-registers l = Counting l.fn.table l.tick l.place (tick_state_of l.registers l.places) l.ran

abbrev pub decreases-loop-registers : goal.decreases-loop-registers
decreases-loop-registers l = l.tick - l.registers.tick
