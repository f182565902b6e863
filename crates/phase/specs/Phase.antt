-- The phases of a task (scope, 'The run in the cab', and requests 105, 108 and 109): their limits, what a phase claims, the effect of an empty job, and
-- the next phase after a tick with the parity of its job.
use Rattle.std.specs.Prelude.{◌≡◌, Bool, true, false, not, ◌&&◌, ◌||◌, cond, ◌⊎◌, ℕ, ◌+◌, ◌-◌, ◌≤◌, ◌<◌, leb, ltb, eqb}
use Rattle.model.specs.Lending.{lends}
use Rattle.model.specs.Task.{Task, Rule, greedy, limited, idling, lending}
use Rattle.table.specs.Limits.{InRange}
use Rattle.phase.specs.declared.Phase.{Phase}
use Rattle.phase.specs.declared.Phase.TheVariants.{Coming, Working, Holding, Resting}
use Rattle.phase.specs.declared.TaskState.{TaskState}

-- THE LIMITS

-- Coming(left), 1 to O, before the first release; its first job is an odd one. Working(since release z, ticks had, ticks reserved): z 0 to D, had below C and
-- at most z, reserved at most had, and equal to it under rules 1 to 3. Holding(z, reserved), rules 3 and 4 only: z 0 to D−1, reserved 0 to C−1 and at most z.
-- Resting(z), 1 to T−1. (scope: Coming; the field: not yet released. Working: pending. Holding: completed early, processors reserved. Resting: completed)
abbrev pub PhaseIn : Rule → Task → Bool → Phase → Type 0
PhaseIn r τ even (Coming left) = InRange 1 τ.offset left × (even ≡ false)
PhaseIn r τ even (Working z had reserved) =
    InRange 0 τ.deadline z × (had < τ.length) × (had ≤ z) × (reserved ≤ had) × ((r ≡ lending) ⊎ (reserved ≡ had))
PhaseIn r τ even (Holding z reserved) = ((r ≡ idling) ⊎ (r ≡ lending)) × (z < τ.deadline) × (reserved < τ.length) × (reserved ≤ z)
PhaseIn r τ even (Resting z) = InRange 1 (τ.period - 1) z

-- under rules 3 and 4 a job that ended holds its cores
abbrev pub idles : Rule → Bool
idles greedy = false
idles limited = false
idles idling = true
idles lending = true

-- the test that decides the limits (`phase-decides`)
abbrev pub phase_in : Rule → Task → Bool → Phase → Bool
phase_in r τ even (Coming left) = (leb 1 left && leb left τ.offset) && not even
phase_in r τ even (Working z had reserved) =
    leb z τ.deadline && (ltb had τ.length && (leb had z && (leb reserved had && (lends r || eqb reserved had))))
phase_in r τ even (Holding z reserved) = idles r && (ltb z τ.deadline && (ltb reserved τ.length && leb reserved z))
phase_in r τ even (Resting z) = leb 1 z && ltb z τ.period

-- WHAT A PHASE MEANS

-- the task has a job still claiming ticks: it works, or it holds its cores
abbrev pub claiming : Phase → Bool
claiming (Coming left) = false
claiming (Working z had reserved) = true
claiming (Holding z reserved) = true
claiming (Resting z) = false

-- the task is Working
abbrev pub working : Phase → Bool
working (Coming left) = false
working (Working z had reserved) = true
working (Holding z reserved) = false
working (Resting z) = false

-- the task holds its cores
abbrev pub holder : Phase → Bool
holder (Coming left) = false
holder (Working z had reserved) = false
holder (Holding z reserved) = true
holder (Resting z) = false

-- the task, of deadline D, is Working at z = D
abbrev pub late_in : ℕ → Phase → Bool
late_in D (Coming left) = false
late_in D (Working z had reserved) = eqb z D
late_in D (Holding z reserved) = false
late_in D (Resting z) = false

-- the task is Working at (0,0): its job is released in this tick, and has had no tick
abbrev pub released : Phase → Bool
released (Coming left) = false
released (Working z had reserved) = eqb z 0 && eqb had 0
released (Holding z reserved) = false
released (Resting z) = false

-- EMPTY JOBS, applied before cores are chosen

-- an empty job in the tick of its release: under rules 3 and 4 it holds its cores, else it claims nothing (Resting(0) is never stored)
abbrev pub empty_phase : Rule → Phase
empty_phase r = cond (idles r) (Holding 0 0) (Resting 0)

-- the phase as cores are chosen, by whether a job released in this tick is empty
abbrev pub phase_emptied : Rule → Bool → Phase → Phase
phase_emptied r empty ph = cond (empty && released ph) (empty_phase r) ph

-- THE START AND ONE TICK

-- a phase, and whether its job is an even one
abbrev pub task_state : Bool → Phase → TaskState
task_state e ph = record { even = e; phase = ph }

-- coming 0 left becomes Working(0,0) in the same advance; the parity stays
abbrev pub coming : Bool → ℕ → TaskState
coming even left = task_state even (cond (eqb left 0) (Working 0 0 0) (Coming left))

-- the start is Working(0,0) where O is 0, else Coming(O); the first job is an odd one
abbrev pub start_state : ℕ → TaskState
start_state O = coming false O

-- resting at z = T becomes Working(0,0) in the same advance; a job that ends with z = T goes straight to it. At each such release, the second one
-- and every later one, the parity changes
abbrev pub resting : Task → Bool → ℕ → TaskState
resting τ even z = cond (eqb z τ.period) (task_state (not even) (Working 0 0 0)) (task_state even (Resting z))

-- a hold ends at C reserved ticks or at z = D; then the task rests
abbrev pub holding : Task → Bool → ℕ → ℕ → TaskState
holding τ even z reserved = cond (eqb reserved τ.length || eqb z τ.deadline) (resting τ even z) (task_state even (Holding z reserved))

-- a task whose job ended rests, or holds under rules 3 and 4 while fewer than C ticks were reserved
abbrev pub ended : Rule → Task → Bool → ℕ → ℕ → TaskState
ended r τ even z reserved = cond (idles r) (holding τ even z reserved) (resting τ even z)

-- a reported job ends after this tick; a job also ends at C ticks had
abbrev pub worked : Rule → Task → Bool → Bool → ℕ → ℕ → ℕ → TaskState
worked r τ reported even z had reserved =
    cond (reported || eqb had τ.length) (ended r τ even z reserved) (task_state even (Working z had reserved))

-- the state of a task one tick on from the seen phase, by whether it is given cores in this tick (under rule 4 they are reserved for it),
-- whether it borrows some (under rule 4) and whether its bit is set: a lent tick counts as work and not as a reserved tick
abbrev pub next_state : Rule → Task → Bool → Bool → Bool → Bool → Phase → TaskState
next_state r τ given lent reported even (Coming left) = coming even (left - 1)
next_state r τ given lent reported even (Working z had reserved) =
    cond given (worked r τ reported even (z + 1) (had + 1) (reserved + 1))
    (cond lent (worked r τ reported even (z + 1) (had + 1) reserved) (task_state even (Working (z + 1) had reserved)))
next_state r τ given lent reported even (Holding z reserved) = holding τ even (z + 1) (cond given (reserved + 1) reserved)
next_state r τ given lent reported even (Resting z) = resting τ even (z + 1)
