use Prim.Native.Nat.{suc, ◌-◌}
use Rattle.simulation.specs.EventState.{event_state_of, StateRepresents}
use Rattle.response_time.proofs.Jumping.{Noted}
use Rattle.response_time.proofs.walk.times_of.Given as goal

-- the run represents the table's full-length run, and the longest times so far are recorded
abbrev pub invariant-loop-registers : goal.invariant-loop-registers
invariant-loop-registers l = StateRepresents l.fn.fitting.loaded (event_state_of l.registers l.places) × Noted l.fn.fitting.loaded l.registers.tick l.responses

abbrev pub decreases-loop-registers : goal.decreases-loop-registers
decreases-loop-registers l = suc l.fn.fitting.loaded.horizon - l.registers.tick
