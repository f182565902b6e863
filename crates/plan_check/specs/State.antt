-- A supplied plan between two rows (request 112): a run, its tick, and the phases recorded at the last S. Place p is position p + 1.
use Rattle.std.specs.Prelude.{cond, List, map, ◌++◌, ℕ, eqb, drop, get_or, replicate, take}
use Rattle.model.specs.Horizon.{horizon, last_s}
use Rattle.model.specs.Sizes.{most_tasks}
use Rattle.phase.specs.declared.Phase.{Phase}
use Rattle.phase.specs.declared.Phase.TheVariants.{Coming, Resting}
use Rattle.phase.specs.declared.Task.{Task}
use Rattle.run.specs.declared.Run.{Run}
use Rattle.run.specs.Run.{run_table, tasks_in}
use Rattle.plan_check.specs.declared.Note.{Note}
use Rattle.plan_check.specs.declared.SuppliedPlan.{SuppliedPlan}

-- the last S and the horizon of the run's tasks
abbrev pub start_in : Run → ℕ
start_in r = last_s (tasks_in r)

abbrev pub horizon_in : Run → ℕ
horizon_in r = horizon (run_table r)

-- a phase recorded; without the parity of the job
abbrev pub note : Phase → Note
note ph = record { phase = ph }

-- the phase recorded of a task
abbrev pub note_of : Task → Note
note_of t = note t.phase

-- nothing recorded: Resting(0), which no task below the count has in a run that passes 14
abbrev pub blank : List Note
blank = replicate most_tasks (note (Resting 0))

-- what an array's read past its last place gives
abbrev pub past_note : Note
past_note = note (Coming 0)

-- the phase recorded of place p
abbrev pub noted_at : SuppliedPlan → ℕ → Phase
noted_at w p = (get_or w.noted p past_note).phase

-- the phases of the tasks below the count; the rest of the list stays
abbrev pub noting : Run → List Note → List Note
noting r ns = map note_of (take r.count r.tasks) ++ drop r.count ns

-- a run that arrives at tick t: at the last S its phases are recorded
abbrev pub state_at : Run → ℕ → List Note → SuppliedPlan
state_at r t ns = record { run = r; tick = t; noted = cond (eqb t (start_in r)) (noting r ns) ns }
