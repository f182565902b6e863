use Prim.Native.Nat.{◌-◌, ◌≤◌}
use Rattle.simulation.specs.TickState.{tick_state_of}
use Rattle.simulation.proofs.RefinesTick.{RefinesTick}
use Rattle.plan.proofs.Writing.{RowFor, Filled}
use Rattle.plan.proofs.rows.write.Given as goal

-- the run represents the table's full-length run, the row is kept with the claimants and the widths it was made for, and the buffer has the rows so far
abbrev pub invariant-loop-registers : goal.invariant-loop-registers
invariant-loop-registers l =
    RefinesTick l.fn.fitting.loaded (tick_state_of l.registers l.places) × RowFor l.fn.fitting.loaded l.shown l.even l.row × (l.registers.tick ≤ l.fn.b)
    × Filled l.fn.fitting.loaded l.fn.a l.registers.tick l.at l.fn.out l.out

abbrev pub decreases-loop-registers : goal.decreases-loop-registers
decreases-loop-registers l = l.fn.b - l.registers.tick
