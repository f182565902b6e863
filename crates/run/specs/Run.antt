-- A run by its places: 32 of them, of which the first count are used (scope, 'The run in the cab'). Place p is position p + 1.
use Rattle.std.specs.Prelude.{Bool, ◌||◌, ◌&&◌, not, cond, List, [], ◌∷◌, map, ◌++◌, ℕ, zero, suc, ◌-◌, get_or, replicate, take, ltb}
use Rattle.std.specs.Int.Bits.{bit_or}
use Rattle.model.specs.Task as model
use Rattle.model.specs.Fence.{unfenced}
use Rattle.model.specs.Firm.{firm}
use Rattle.model.specs.Grants.{claimants, grants, some}
use Rattle.model.specs.Lending.{lends, lent, shown_cores}
use Rattle.model.specs.Search.{bit}
use Rattle.model.specs.Sizes.{most_tasks}
use Rattle.table.specs.declared.Task as table
use Rattle.table.specs.Task.{no_task}
use Rattle.phase.specs.declared.Phase.{Phase}
use Rattle.phase.specs.declared.Task.{Task}
use Rattle.run.specs.declared.Run.{Run}
use Rattle.phase.specs.Phase.{claiming, working, holder, phase_emptied}
use Rattle.phase.specs.Task.{task_of, parameters_of, past_end, width_now, next_task}

-- the run's rule
abbrev pub rule_in : Run → model.Rule
rule_in r = model.rule_of r.rule

-- the task at place p, with the parity of its job (request 108) and its phase
abbrev pub place_at : Run → ℕ → Task
place_at r p = get_or r.tasks p past_end

abbrev pub run_task_at : Run → ℕ → model.Task
run_task_at r p = task_of (place_at r p)

abbrev pub even_at : Run → ℕ → Bool
even_at r p = (place_at r p).even

abbrev pub phase_at : Run → ℕ → Phase
phase_at r p = (place_at r p).phase

-- the widths of the tasks below the count, each that of its job
abbrev pub widths_now : Run → List ℕ
widths_now r = map width_now (take r.count r.tasks)

-- the tasks below the count as a table has them, and the table of the run; ..
abbrev pub tasks_in : Run → List model.Task
tasks_in r = map task_of (take r.count r.tasks)

-- .. as code stores the tasks of a table: 32 places, no task past the count
abbrev pub parameters_in : Run → List table.Task
parameters_in r = map parameters_of (tasks_in r) ++ replicate (most_tasks - r.count) no_task

abbrev pub run_table : Run → model.Table
run_table r = record { tasks = tasks_in r; cores = r.cores; fence = r.fence; rule = rule_in r }

-- EMPTY JOBS: sets have bit 0 for position 1

-- the job of place p, if released in this tick, is empty: its bit is set, or its position is withdrawn
abbrev pub empty_at : Run → ℕ → ℕ → Bool
empty_at r e p = bit e p || bit r.withdrawn p

-- the phase of place p as cores are chosen
abbrev pub emptied_at : Run → ℕ → ℕ → Phase
emptied_at r e p = phase_emptied (rule_in r) (empty_at r e p) (phase_at r p)

-- THE CORES OF A TICK

-- the tasks that work or hold claim; the rule gives the cores of each in the present tick, from those outside the fence; under rule 4 it reserves them
unfoldable pub grants_in : Run → ℕ → List (List ℕ)
grants_in r e = grants (rule_in r) (claimants (widths_now r) (λ p. claiming (emptied_at r e p))) (unfenced r.fence r.cores)

-- the task at place p is given cores in this tick
abbrev pub has_cores : Run → ℕ → ℕ → Bool
has_cores r e p = some (get_or (grants_in r e) p [])

-- the cores that place p lends (request 109): under rule 4 those reserved for a holder
unfoldable pub offer_in : Run → ℕ → ℕ → List ℕ
offer_in r e p = cond (lends (rule_in r) && holder (emptied_at r e p)) (get_or (grants_in r e) p []) []

-- place p seeks cores: its task is Working, and is given none
unfoldable pub seeks_in : Run → ℕ → ℕ → Bool
seeks_in r e p = ltb p r.count && (working (emptied_at r e p) && not (has_cores r e p))

-- what each place borrows, once every place has lent, by priority; only rule 4 lends (`lent-lends`)
unfoldable pub lent_in : Run → ℕ → List (List ℕ)
lent_in r e = lent (widths_now r) (seeks_in r e) (offer_in r e) r.count

-- the cores that place p borrows
abbrev pub borrowed_in : Run → ℕ → ℕ → List ℕ
borrowed_in r e p = get_or (lent_in r e) p []

-- the task at place p borrows cores in this tick
abbrev pub has_lent : Run → ℕ → ℕ → Bool
has_lent r e p = some (borrowed_in r e p)

-- the cores of each place as the row shows them: those that it borrows, or its own cores that no place borrows
abbrev pub shown_in : Run → ℕ → List (List ℕ)
shown_in r e = shown_cores (grants_in r e) (lent_in r e)

-- ONE TICK

-- the list with f applied to each of its first n tasks and their places
unfoldable pub map_first : (ℕ → Task → Task) → ℕ → List Task → List Task
map_first f zero ts = ts
map_first f (suc n) [] = []
map_first f (suc n) (t ∷ ts) = f 0 t ∷ map_first (λ p. f (suc p)) n ts

-- the task at place p one tick on
abbrev pub next_at : Run → (ℕ → Bool) → ℕ → ℕ → Task → Task
next_at r reported e p t = next_task (rule_in r) (empty_at r e p) (has_cores r e p) (has_lent r e p) (reported p) t

-- the run one tick on, by the reports and the set of empty jobs: each task below the count changes, the places past it stay, and so does the
-- withdrawn set
unfoldable pub moved : (ℕ → Bool) → ℕ → Run → Run
moved reported e r = record {
  rule = r.rule;
  cores = r.cores;
  fence = r.fence;
  withdrawn = r.withdrawn;
  count = r.count;
  tasks = map_first (next_at r reported e) r.count r.tasks;
}

-- WITHDRAWALS

-- the run's rule and widths are firm: the verdict's test of a table
abbrev pub firm_in : Run → Bool
firm_in r = firm (rule_in r) (tasks_in r)

-- the run with the positions of a set withdrawn: only the withdrawn set changes, and every phase stays
unfoldable pub withdrawn_in : ℕ → Run → Run
withdrawn_in x r = record {
  rule = r.rule;
  cores = r.cores;
  fence = r.fence;
  withdrawn = bit_or r.withdrawn x;
  count = r.count;
  tasks = r.tasks;
}
