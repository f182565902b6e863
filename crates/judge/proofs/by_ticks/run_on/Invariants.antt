use Prim.Native.Nat.{◌-◌, ◌≤◌}
use mathlib.Core.Path.{◌≡◌}
use Rattle.table.specs.declared.Loaded.{Loaded}
use Rattle.simulation.specs.Machine.{machine_of}
use Rattle.simulation.specs.TickState.{numbers_of, tick_state_of}
use Rattle.simulation.proofs.RefinesTick.{RefinesTick}
use Rattle.judge.specs.RunOn.{ticks_on, TicksBegin}
use Rattle.judge.proofs.LateByTicks.{RemainingClaimants}
use Rattle.judge.proofs.by_ticks.run_on.Given as goal

-- so many ticks were taken, and of every table whose run begins so
abbrev pub invariant-ticks : goal.invariant-ticks
invariant-ticks l =
    let n = numbers_of l.columns in
    let s = tick_state_of l.initial.registers l.initial.places in
    (tick_state_of l.registers l.places ≡ ticks_on n (l.registers.tick - l.initial.registers.tick) s) × (l.initial.registers.tick ≤ l.registers.tick)
    × ((t : Loaded) → TicksBegin t n s l.end → RefinesTick t (tick_state_of l.registers l.places) × (l.registers.tick ≤ l.end))

abbrev pub decreases-ticks : goal.decreases-ticks
decreases-ticks l = l.end - l.registers.tick

-- none of the claimants so far is at its event
abbrev pub invariant-loop-place : goal.invariant-loop-place
invariant-loop-place l = RemainingClaimants (machine_of l.places l.registers.claiming) l.registers.tick l.place-iterator.rest
