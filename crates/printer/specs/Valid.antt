-- When a printer is valid: its numbers are in the limits within which it can be stepped. `Printer::new` returns valid ones, a piece leaves a valid one
-- valid, and an invalid one, made by its caller, has no bytes left. The next event, the events, the next releases, the places at their second width, the
-- texts and the rule are not tested, and the fence only where 7 limits a width: any values of them determine some rows. The table's
-- S, P and horizon are not read.
use Rattle.std.specs.Prelude.{Bool, true, not, ◌&&◌, List, ◌≡◌, ℕ, ◌≤◌, ◌<◌, eqb, ltb, leb, get_or}
use Rattle.std.specs.Int.Bits.{bit_and}
use Rattle.model.specs.Fence.{unfenced_count}
use Rattle.model.specs.Search.{any}
use Rattle.model.specs.Sizes.{most_cores, most_tasks}
use Rattle.table.specs.declared.Loaded.{Loaded}
use Rattle.table.specs.Limits.{task_out, most_horizon, most_time}
use Rattle.table.specs.Task.{task_of, no_task}
use Rattle.simulation.specs.Places.{segment, set_where}
use Rattle.simulation.specs.Machine.{Sized}
use Rattle.simulation.specs.TickState.{Numbers, TickState}
use Rattle.printer.specs.declared.Printer.{Printer}
use Rattle.text.specs.Output.{longest_cells, longest_line}

-- 7 or 8 turns the task at place p down
abbrev pub out_at : Loaded → ℕ → Bool
out_at t p = task_out (unfenced_count t.fence t.cores) (task_of (get_or t.tasks p no_task))

-- at most 32 tasks and at most 64 cores, and no task below the count that 7 or 8 turns down
unfoldable pub table_valid : Loaded → Bool
table_valid t = leb t.count most_tasks && (leb t.cores most_cores && not (any t.count (out_at t)))

-- the set of the places that are owed ticks
abbrev pub owed : List ℕ → ℕ
owed left = set_where most_tasks (λ p. ltb 0 (get_or left p 0))

-- every place of the set a is in the set b
abbrev pub within : ℕ → ℕ → Bool
within a b = eqb (bit_and a b) a

-- the tick is at most the last, which is at most 1,000,000,000; line and text fit their arrays; every place that claims is owed ticks, and every place that is
-- granted cores is among those that the choice is for
unfoldable pub valid : Printer → Bool
valid p =
    table_valid p.table
    && (leb p.stage.registers.tick p.end
    && (leb p.end most_horizon
    && (leb p.stage.ready longest_line
    && (leb p.given p.stage.ready
    && (leb p.stage.text longest_cells
    && (within p.stage.registers.claiming (owed (segment 0 p.places)) && within p.stage.registers.granted p.stage.registers.chosen))))))

-- what a run needs so that it can be stepped
pub record Safe (n : Numbers) (s : TickState) : Type 0 where
  pub few : n.count ≤ most_tasks
  pub cores : n.cores ≤ most_cores
  pub times : (p : ℕ) → p < n.count → (0 < get_or n.lengths p 0) × (get_or n.deadlines p 0 ≤ most_time) × (get_or n.periods p 0 ≤ most_time)
  pub sized : Sized s.machine
  pub owed : within s.machine.claiming (owed s.machine.left) ≡ true
  pub kept : within s.granted s.chosen ≡ true
