-- The full-length run from a tick on, up to a tick or to its first miss: tick by tick, and from event to event.
use Rattle.std.specs.Prelude.{◌≡◌, ℕ, zero, suc, ◌+◌, ◌-◌, ◌≤◌, ◌<◌}
use Rattle.table.specs.declared.Loaded.{Loaded}
use Rattle.table.specs.Fit.{loaded_table, Fit}
use Rattle.simulation.specs.TickState.{Numbers, loaded_numbers, TickState, next_tick_state}
use Rattle.simulation.specs.EventState.{EventState, StateRepresents}
use Rattle.simulation.specs.Jump.{jumped}
use Rattle.simulation.proofs.RefinesTick.{RefinesTick}
use Rattle.judge.specs.FirstMiss.{Missed}
use Rattle.judge.specs.FirstMiss.{Never, At}
use Rattle.judge.specs.FirstMiss.{MissedOf}

-- TICK BY TICK

-- k ticks
unfoldable pub ticks_on : Numbers → ℕ → TickState → TickState
ticks_on n zero s = s
ticks_on n (suc k) s = next_tick_state n (ticks_on n k s)

-- the run of a table before a tick, no deadline missed before it, that is to go on to tick `end`
pub record TicksBegin (t : Loaded) (n : Numbers) (s : TickState) (end : ℕ) : Type 0 where
  pub fit : Fit t
  pub numbers : n ≡ loaded_numbers t
  pub refines : RefinesTick t s
  pub within : s.tick ≤ end
  pub early : end ≤ t.horizon + 1

-- where it stops: at the end, or at the miss
abbrev pub stop_tick : Missed → ℕ → ℕ
stop_tick Never end = end
stop_tick (At t p) end = t

-- what is missed before the end, and the run there
pub record TicksRun (n : Numbers) (s : TickState) (end : ℕ) (m : Missed) (s' : TickState) : Type 0 where
  pub run : s' ≡ ticks_on n (stop_tick m end - s.tick) s
  pub missed : (t : Loaded) → TicksBegin t n s end → MissedOf (loaded_table t) end m

-- FROM EVENT TO EVENT

-- k jumps
unfoldable pub jumps_on : Numbers → ℕ → EventState → EventState
jumps_on n zero s = s
jumps_on n (suc k) s = jumped n (jumps_on n k s)

-- the run of a table at an event, no deadline missed before it, that is to go on to tick `end`
pub record JumpsBegin (t : Loaded) (n : Numbers) (s : EventState) (end : ℕ) : Type 0 where
  pub fit : Fit t
  pub numbers : n ≡ loaded_numbers t
  pub represents : StateRepresents t s
  pub early : end ≤ t.horizon + 1

-- it stops where it has reached the end, or at the miss
abbrev pub StopsAt : Missed → ℕ → ℕ → Type 0
StopsAt Never end u = end ≤ u
StopsAt (At t p) end u = u ≡ t

-- what is missed before the end, and the run there: after some jumps, each from before the end
pub record JumpsRun (n : Numbers) (s : EventState) (end : ℕ) (m : Missed) (s' : EventState) : Type 0 where
  pub count : ℕ
  pub run : s' ≡ jumps_on n count s
  pub before : (i : ℕ) → i < count → (jumps_on n i s).tick < end
  pub stops : StopsAt m end s'.tick
  pub missed : (t : Loaded) → JumpsBegin t n s end → MissedOf (loaded_table t) end m
