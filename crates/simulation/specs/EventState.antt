-- The state of a run that jumps at a tick, and the relation of its numbers to the book.
-- Its machine is that of the ticks, but the event of a place is the next tick at which a job of it is released or is due, ended or not.
use Rattle.std.specs.Prelude.{◌≡◌, Bool, false, ◌&&◌, cond, List, map, ◌⊎◌, ℕ, zero, suc, ◌≤◌, ◌<◌, min, eqb, ltb, length, get_or}
use Rattle.model.specs.Search.{bit}
use Rattle.model.specs.Sizes.{most_tasks}
use Rattle.model.specs.Task.{Task, Table, task, release, due}
use Rattle.model.specs.Jobs.{Job}
use Rattle.model.specs.Lists.{full, Missed}
use Rattle.table.specs.declared.Loaded.{Loaded}
use Rattle.simulation.specs.Places.{set_where}
use Rattle.simulation.specs.Machine.{Machine, machine_of, started, Sized}
use Rattle.simulation.specs.PlaceRelation.{PlaceRelatedAt, WidthParity}
use Rattle.simulation.specs.TickState.{paired_in, loaded_numbers, choice}
use Rattle.table.specs.Fit.{loaded_table}
use Rattle.simulation.specs.declared.events.Registers.{Registers}

-- the machine; the set of the places whose event this tick is; the next event, the earliest event of all; the claimants that the choice was made for, and
-- those that are granted cores by it; of the places with two widths, those that are at their second
pub record EventState : Type 0 where
  pub tick : ℕ
  pub machine : Machine
  pub due : ℕ
  pub event : ℕ
  pub chosen : ℕ
  pub granted : ℕ
  pub even : ℕ

-- .. as in code: registers, and the numbers of the places in one list
abbrev pub event_state_of : Registers → List ℕ → EventState
event_state_of p places = record {
  tick = p.tick;
  machine = machine_of places p.claiming;
  due = p.due;
  event = p.event;
  chosen = p.chosen;
  granted = p.granted;
  even = p.even;
}

-- the set of those of the first n places whose event is t
unfoldable pub due_at : ℕ → ℕ → List ℕ → ℕ
due_at t n events = set_where most_tasks (λ p. ltb p n && eqb (get_or events p 0) t)

-- the earliest event of the first n places, n at least 1
unfoldable pub earliest_of : ℕ → List ℕ → ℕ
earliest_of zero events = get_or events 0 0
earliest_of (suc n) events = min (earliest_of n events) (get_or events n 0)

-- before tick 0: no place claims or is granted cores, and each task waits for its first release, which turns it to its first width
abbrev pub initial_event_state : Loaded → EventState
initial_event_state t = record {
  tick = 0;
  machine = started (map (λ x. x.offset) t.tasks);
  due = due_at 0 t.count (map (λ x. x.offset) t.tasks);
  event = earliest_of t.count (map (λ x. x.offset) t.tasks);
  chosen = 0;
  granted = 0;
  even = paired_in t.tasks;
}

-- WHAT THE NUMBERS MEAN. `handled_to` is the tick where its due events have not been handled yet, and one more where they have

-- a job of the task is released at u, or is due at u
abbrev pub ReleaseOrDeadline : Task → ℕ → Type 0
ReleaseOrDeadline τ u = (k : ℕ) × ((release τ k ≡ u) ⊎ (due τ k ≡ u))

-- m is the first tick from `handled_to` on that is marked, and n is no later than any release from `handled_to` on
pub record UpcomingEvent (τ : Task) (handled_to m n : ℕ) : Type 0 where
  pub from : handled_to ≤ m
  pub marked : ReleaseOrDeadline τ m
  pub first : (u : ℕ) → handled_to ≤ u → ReleaseOrDeadline τ u → m ≤ u
  pub next : (k : ℕ) → handled_to ≤ release τ k → n ≤ release τ k

-- a place: l ticks are left, m is its event, n its next release, c is true if it claims. While it claims its event is the deadline of the job that
-- it works on, which has had what is not left; else every job released so far has ended
pub record PlaceRepresents (τ : Task) (handled_to : ℕ) (js : ℕ → Job) (l m n : ℕ) (c : Bool) : Type 0 where
  pub related : PlaceRelatedAt τ handled_to js l (cond c m n) n c
  pub ahead : UpcomingEvent τ handled_to m n

-- place p of the machine at tick t
abbrev pub PlaceRepresentsAt : Table → ℕ → ℕ → Machine → ℕ → Type 0
PlaceRepresentsAt s t handled_to m p =
    PlaceRepresents (task s p) handled_to ((full s t).job p) (get_or m.left p 0) (get_or m.event p 0) (get_or m.next p 0) (bit m.claiming p)

-- every place, and past them none claims
pub record MachineRepresents (s : Table) (t handled_to : ℕ) (m : Machine) : Type 0 where
  pub sized : Sized m
  pub places : (p : ℕ) → p < length s.tasks → PlaceRepresentsAt s t handled_to m p
  pub beyond : (p : ℕ) → length s.tasks ≤ p → bit m.claiming p ≡ false

-- no deadline is missed before tick u
abbrev pub MetBefore : Table → ℕ → Type 0
MetBefore s u = (p w : ℕ) → w < u → ¬ Missed s p w

-- a state represents the full-length run of table t at its tick, and no deadline was missed before
pub record StateRepresents (t : Loaded) (s : EventState) : Type 0 where
  pub machines : MachineRepresents (loaded_table t) s.tick s.tick s.machine
  pub dues : s.due ≡ due_at s.tick t.count s.machine.event
  pub next-event : s.event ≡ earliest_of t.count s.machine.event
  pub parity : (p : ℕ) → p < length (loaded_table t).tasks → WidthParity (task (loaded_table t) p) (get_or s.machine.next p 0) (bit s.even p)
  pub kept : s.granted ≡ choice (loaded_numbers t) s.chosen s.even
  pub met : MetBefore (loaded_table t) s.tick
