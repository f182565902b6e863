-- One tick of any run: the machine, with the choice that is kept while the claimants and their widths are unchanged.
-- A tick preserves the relation to the table's full-length run: `refines_on` in proofs/RefinesTick.antt.
use Rattle.std.specs.Prelude.{Bool, not, ◌&&◌, cond, List, ◌++◌, map, ℕ, ◌+◌, ◌^◌, ◌≤◌, ◌<◌, eqb, leb, get_or}
use Rattle.std.specs.Int.Bits.{bit_and, bit_xor}
use Rattle.model.specs.Search.{bit}
use Rattle.model.specs.Fence.{unfenced}
use Rattle.model.specs.Task.{rule_of}
use Rattle.model.specs.Grants.{claimants}
use Rattle.model.specs.Sizes.{most_cores, most_tasks}
use Rattle.table.specs.declared.Loaded.{Loaded}
use Rattle.table.specs.declared.Task.{Task}
use Rattle.table.specs.Task.{no_task}
use Rattle.rule.specs.Granted.{granted}
use Rattle.rule.specs.Widths.{widths_in}
use Rattle.simulation.specs.Places.{segment, set_where, second, third}
use Rattle.simulation.specs.Machine.{Machine, machine_of, started, released_due, earliest, GrantedOwed, worked_tick}
use Rattle.simulation.specs.declared.machine.Registers.{Registers}
use Rattle.simulation.specs.declared.columns.Setting.{Setting}
use Rattle.simulation.specs.declared.columns.Columns.{Columns}

-- the set of the places whose two widths differ
unfoldable pub paired_in : List Task → ℕ
paired_in ts = set_where most_tasks (λ p. not (eqb (get_or ts p no_task).width (get_or ts p no_task).second))

-- the numbers of a table that its run is stepped with: among them the set of the places with two widths, and both widths of each place, the first of
-- every place before the second of any
pub record Numbers : Type 0 where
  pub rule : ℕ
  pub cores : ℕ
  pub fence : ℕ
  pub count : ℕ
  pub paired : ℕ
  pub widths : List ℕ
  pub lengths : List ℕ
  pub deadlines : List ℕ
  pub periods : List ℕ

-- .. as in code: lengths, deadlines and periods in one list
abbrev pub numbers_by : Setting → List ℕ → List ℕ → Numbers
numbers_by x v times = record {
  rule = x.rule;
  cores = x.cores;
  fence = x.fence;
  count = x.count;
  paired = x.paired;
  widths = v;
  lengths = segment 0 times;
  deadlines = segment second times;
  periods = segment third times;
}

-- .. of the columns of a table
abbrev pub numbers_of : Columns → Numbers
numbers_of x = numbers_by x.setting x.widths x.times

-- .. of a table that was loaded, place by place
abbrev pub loaded_numbers : Loaded → Numbers
loaded_numbers t = record {
  rule = t.rule;
  cores = t.cores;
  fence = t.fence;
  count = t.count;
  paired = paired_in t.tasks;
  widths = map (λ x. x.width) t.tasks ++ map (λ x. x.second) t.tasks;
  lengths = map (λ x. x.length) t.tasks;
  deadlines = map (λ x. x.deadline) t.tasks;
  periods = map (λ x. x.period) t.tasks;
}

-- a run before a tick: its machine; the next event, before which nothing is due; the claimants that the choice was made for, and those that are granted cores
-- by it; of the places with two widths, those that are at their second
pub record TickState : Type 0 where
  pub tick : ℕ
  pub machine : Machine
  pub event : ℕ
  pub chosen : ℕ
  pub granted : ℕ
  pub even : ℕ

-- .. as in code: registers, and the numbers of the places in one list
abbrev pub tick_state_of : Registers → List ℕ → TickState
tick_state_of p places = record {
  tick = p.tick;
  machine = machine_of places p.claiming;
  event = p.event;
  chosen = p.chosen;
  granted = p.granted;
  even = p.even;
}

-- before tick 0: no place claims or is granted cores, and the next event has come. Each place with two widths is at its second, so that its first release
-- turns it to its first
abbrev pub initial_tick_state : Loaded → TickState
initial_tick_state t = record {
  tick = 0;
  machine = started (map (λ x. x.offset) t.tasks);
  event = 0;
  chosen = 0;
  granted = 0;
  even = paired_in t.tasks;
}

-- the due events of the tick are handled where the next event has come
unfoldable pub after_events : Numbers → TickState → Machine
after_events n s =
    cond (leb s.event s.tick) (released_due s.tick n.lengths n.deadlines n.periods n.count s.machine) s.machine

-- .. and then the next event is the earliest event to come
unfoldable pub next_event_after : Numbers → TickState → ℕ
next_event_after n s = cond (leb s.event s.tick) (earliest n.count (after_events n s).event) s.event

-- the set `even` where a release turns a place of the set `paired` to its other width: in the due events of a tick the claimants `before` become
-- `behind`, and a claimant that is new among them was released
abbrev pub toggled_by : ℕ → ℕ → ℕ → ℕ → ℕ
toggled_by paired even before behind = bit_xor even (bit_and (bit_xor behind before) paired)

-- the places that are at their second width in the tick
unfoldable pub even_at_tick : Numbers → TickState → ℕ
even_at_tick n s = toggled_by n.paired s.even s.machine.claiming (after_events n s).claiming

-- the claimants are those of the choice that is kept, and so are their widths
abbrev pub choice_kept : Numbers → TickState → Bool
choice_kept n s = eqb (after_events n s).claiming s.chosen && eqb (even_at_tick n s) s.even

-- the set of the places that the rule gives cores where those of the set c claim, and those of the set e are at their second width
abbrev pub choice : Numbers → ℕ → ℕ → ℕ
choice n c e = set_where most_tasks (granted (rule_of n.rule) (claimants (widths_in e n.widths) (bit c)) (unfenced n.fence n.cores))

-- the places that are granted cores: kept, or chosen anew
unfoldable pub granted_at : Numbers → TickState → ℕ
granted_at n s = cond (choice_kept n s) s.granted (choice n (after_events n s).claiming (even_at_tick n s))

-- the run before the next tick
unfoldable pub next_tick_state : Numbers → TickState → TickState
next_tick_state n s = record {
  tick = s.tick + 1;
  machine = worked_tick (bit (granted_at n s)) (after_events n s);
  event = next_event_after n s;
  chosen = (after_events n s).claiming;
  granted = granted_at n s;
  even = even_at_tick n s;
}

-- a run that can be stepped: there are at most 32 tasks and 64 cores, its sums stay small, and every place that is granted cores is owed ticks
pub record Steppable (n : Numbers) (s : TickState) : Type 0 where
  pub few : n.count ≤ most_tasks
  pub narrow : n.cores ≤ most_cores
  pub fits : (p : ℕ) → p < n.count → (s.tick + get_or n.deadlines p 0 < 2 ^ 32) × (s.tick + get_or n.periods p 0 < 2 ^ 32)
  pub tick : s.tick + 1 < 2 ^ 32
  pub owed : GrantedOwed (bit (granted_at n s)) (after_events n s)
