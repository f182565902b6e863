use Prim.Native.Nat.{ℕ, ◌-◌, ◌<◌}
use mathlib.Core.Path.{◌≡◌}
use Rattle.table.specs.declared.Loaded.{Loaded}
use Rattle.simulation.specs.Machine.{machine_of}
use Rattle.simulation.specs.TickState.{Numbers, numbers_of}
use Rattle.simulation.specs.EventState.{EventState, event_state_of, StateRepresents}
use Rattle.judge.specs.RunOn.{jumps_on, JumpsBegin}
use Rattle.judge.proofs.LateByEvents.{RemainingDue}
use Rattle.judge.proofs.by_events.run_on.Given as goal

-- k jumps, each from before tick `end`, lead from one state to another
pub record JumpsTo (n : Numbers) (s : EventState) (end : ℕ) (s' : EventState) : Type 0 where
  pub count : ℕ
  pub run : s' ≡ jumps_on n count s
  pub before : (i : ℕ) → i < count → (jumps_on n i s).tick < end

-- some jumps were taken, and of every table whose run begins so
abbrev pub invariant-jumps : goal.invariant-jumps
invariant-jumps l =
    let n = numbers_of l.columns in
    let s = event_state_of l.initial.registers l.initial.places in
    JumpsTo n s l.end (event_state_of l.registers l.places)
    × ((t : Loaded) → JumpsBegin t n s l.end → StateRepresents t (event_state_of l.registers l.places))

abbrev pub decreases-jumps : goal.decreases-jumps
decreases-jumps l = l.end - l.registers.tick

-- none of the due claimants so far has ticks left
abbrev pub invariant-loop-place : goal.invariant-loop-place
invariant-loop-place l = RemainingDue (machine_of l.places l.registers.claiming) l.registers.due l.place-iterator.rest
