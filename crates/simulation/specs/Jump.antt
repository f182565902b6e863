-- A jump in numbers, its contract, and the jumps of a whole run.
use Rattle.std.specs.Prelude.{◌≡◌, Bool, true, not, ◌&&◌, ◌||◌, cond, List, ℕ, zero, suc, ◌+◌, ◌-◌, ◌≤◌, ◌<◌, min, eqb, get_or, set}
use Rattle.model.specs.Search.{bit}
use Rattle.model.specs.Sizes.{most_tasks}
use Rattle.model.specs.Task.{Table}
use Rattle.model.specs.Lists.{Missed}
use Rattle.table.specs.declared.Loaded.{Loaded}
use Rattle.simulation.specs.Places.{map_places, set_where}
use Rattle.simulation.specs.Machine.{Machine, machine, with_release}
use Rattle.simulation.specs.TickState.{Numbers, loaded_numbers, toggled_by, choice}
use Rattle.table.specs.Fit.{loaded_table, Fit}
use Rattle.simulation.specs.Event.{Event, NextEvent, SameAllocation}
use Rattle.simulation.specs.EventState.{EventState, due_at, earliest_of, initial_event_state, MetBefore, StateRepresents}

-- THE DUE PLACES, where no job is late. C, D and T list the lengths, deadlines and periods of the tasks

-- place p at its event t: its next job is released where it comes at t; else its last was due at t, and its event is its next release
unfoldable pub handled : ℕ → ℕ → ℕ → ℕ → ℕ → Machine → Machine
handled p t C D T m =
    cond (eqb (get_or m.next p 0) t)
    (with_release p t C D T m)
    (machine m.left (set m.event p (get_or m.next p 0)) m.next m.claiming)

-- a due place has a job that is released at t
abbrev pub releases_at : ℕ → (ℕ → Bool) → Machine → ℕ → Bool
releases_at t due m p = due p && eqb (get_or m.next p 0) t

-- the same at every due place
unfoldable pub handled_all : ℕ → (ℕ → Bool) → List ℕ → List ℕ → List ℕ → Machine → Machine
handled_all t due C D T m = record {
  left = map_places (λ p l. cond (releases_at t due m p) (get_or C p 0) l) m.left;
  event = map_places (λ p x. cond (due p) (cond (eqb (get_or m.next p 0) t) (t + get_or D p 0) (get_or m.next p 0)) x) m.event;
  next = map_places (λ p x. cond (releases_at t due m p) (t + get_or T p 0) x) m.next;
  claiming = set_where most_tasks (λ p. releases_at t due m p || bit m.claiming p);
}

-- THE TICKS OF A JUMP

-- the least of `most` and of what is left of the granted among the first n places
unfoldable pub least_left : ℕ → (ℕ → Bool) → ℕ → List ℕ → ℕ
least_left zero granted most left = most
least_left (suc n) granted most left =
    cond (granted n) (min (least_left n granted most left) (get_or left n 0)) (least_left n granted most left)

-- every place that is granted cores claims, and is owed k ticks or more
abbrev pub GrantedOwe : ℕ → (ℕ → Bool) → Machine → Type 0
GrantedOwe k granted m = (p : ℕ) → granted p ≡ true → (bit m.claiming p ≡ true) × (k ≤ get_or m.left p 0)

-- k ticks of the places that are granted cores: each is owed k less, and a place that is owed none claims no more
unfoldable pub elapsed : ℕ → (ℕ → Bool) → Machine → Machine
elapsed k granted m = record {
  left = map_places (λ p l. cond (granted p) (l - k) l) m.left;
  event = m.event;
  next = m.next;
  claiming = set_where most_tasks (λ p. bit m.claiming p && not (granted p && eqb (get_or m.left p 0) k));
}

-- A JUMP

-- the machine once the due places have been handled, where there are any
unfoldable pub after_handling : Numbers → EventState → Machine
after_handling n s = cond (eqb s.due 0) s.machine (handled_all s.tick (bit s.due) n.lengths n.deadlines n.periods s.machine)

-- .. and the earliest event to come
unfoldable pub next_event_ahead : Numbers → EventState → ℕ
next_event_ahead n s = cond (eqb s.due 0) s.event (earliest_of n.count (after_handling n s).event)

-- the places that are at their second width in the ticks of the jump: a place that begins to claim was released, and has turned
unfoldable pub even_in_jump : Numbers → EventState → ℕ
even_in_jump n s = toggled_by n.paired s.even s.machine.claiming (after_handling n s).claiming

-- the claimants are those of the choice that is kept, and so are their widths
abbrev pub choice_kept_in_jump : Numbers → EventState → Bool
choice_kept_in_jump n s = eqb (after_handling n s).claiming s.chosen && eqb (even_in_jump n s) s.even

-- the places that are granted cores: kept while these are unchanged, or chosen anew
unfoldable pub granted_in_jump : Numbers → EventState → ℕ
granted_in_jump n s = cond (choice_kept_in_jump n s) s.granted (choice n (after_handling n s).claiming (even_in_jump n s))

-- up to the next event, or until the first job that has cores ends
unfoldable pub ticks_in_jump : Numbers → EventState → ℕ
ticks_in_jump n s = least_left most_tasks (bit (granted_in_jump n s)) (next_event_ahead n s - s.tick) (after_handling n s).left

-- the state after the jump
unfoldable pub jumped : Numbers → EventState → EventState
jumped n s = record {
  tick = s.tick + ticks_in_jump n s;
  machine = elapsed (ticks_in_jump n s) (bit (granted_in_jump n s)) (after_handling n s);
  due = cond (eqb (s.tick + ticks_in_jump n s) (next_event_ahead n s)) (due_at (s.tick + ticks_in_jump n s) n.count (after_handling n s).event) 0;
  event = next_event_ahead n s;
  chosen = (after_handling n s).claiming;
  granted = granted_in_jump n s;
  even = even_in_jump n s;
}

-- THE CONTRACT

-- the start of a jump: the state of the full-length run at a tick up to the horizon at which no deadline is missed
pub record JumpStarts (t : Loaded) (n : Numbers) (s : EventState) : Type 0 where
  pub fit : Fit t
  pub numbers : n ≡ loaded_numbers t
  pub represents : StateRepresents t s
  pub met : (p : ℕ) → ¬ Missed (loaded_table t) p s.tick
  pub early : s.tick ≤ t.horizon

-- it leads to the state at the least event after, and at every tick up to it the tasks keep the same cores
pub record JumpLands (t : Loaded) (s s' : EventState) : Type 0 where
  pub next : NextEvent (loaded_table t) s.tick s'.tick
  pub represents : StateRepresents t s'
  pub same : (w : ℕ) → s.tick ≤ w → w < s'.tick → SameAllocation (loaded_table t) s.tick w

-- the value of a jump, and its meaning for every table whose run it is
pub record JumpOf (n : Numbers) (s s' : EventState) : Type 0 where
  pub value : s' ≡ jumped n s
  pub lands : (t : Loaded) → JumpStarts t n s → JumpLands t s s'

-- THE JUMPS OF A RUN

-- the run after n jumps from tick 0
unfoldable pub jumps : Loaded → ℕ → EventState
jumps t zero = initial_event_state t
jumps t (suc n) = jumped (loaded_numbers t) (jumps t n)

-- no deadline of table s is missed at the tick of any of the first n states
abbrev pub Unmissed : Table → Loaded → ℕ → Type 0
Unmissed s t n = (i p : ℕ) → i < n → ¬ Missed s p (jumps t i).tick

-- the jumps of the loaded table t over the events of table s: the ticks reached by repeating the jump are 0 and all events, in order, none skipped, up to the
-- first miss, and between two of them the cores and the row stay the same (`jumps-over-events`: of the words of every table that passes)
pub record AreEvents (s : Table) (t : Loaded) : Type 0 where
  -- the first is 0
  pub begins : (jumps t 0).tick ≡ 0
  -- each other is the least event after the one before
  pub next : (n : ℕ) → Unmissed s t (suc n) → NextEvent s (jumps t n).tick (jumps t (suc n)).tick
  -- at every tick up to it each task has the cores that it had, and the row's bytes are the same
  pub same : (n : ℕ) → Unmissed s t (suc n) → (w : ℕ) → (jumps t n).tick ≤ w → w < (jumps t (suc n)).tick → SameAllocation s (jumps t n).tick w
  -- they rise
  pub rise : (i n : ℕ) → i < n → Unmissed s t n → (jumps t i).tick < (jumps t n).tick
  -- and every event after 0 up to which no deadline is missed is one of them
  pub all : (u : ℕ) → 0 < u → Event s u → MetBefore s u → (n : ℕ) × Unmissed s t n × ((jumps t n).tick ≡ u)
