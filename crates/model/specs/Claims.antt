-- The claims of a tick and the cores that they get (scope, section 'The book of a run'): the jobs that claim, what the rule grants, what is lent, the row.
use Rattle.std.specs.Prelude.{Bool, false, not, ◌&&◌, ◌||◌, cond, List, [], map, ℕ, length, get_or, leb, ltb}
use Rattle.model.specs.Task.{Task, Rule, greedy, limited, idling, lending, Table, task, release, due, newest, width_of}
use Rattle.model.specs.Fence.{unfenced_cores}
use Rattle.model.specs.Grants.{claimants, grants, some}
use Rattle.model.specs.Lending.{lends, lent, shown_cores}
use Rattle.model.specs.Row.{row}
use Rattle.model.specs.Jobs.{Job, Book}

-- rules 3 and 4: a job that ended still claims while it has claimed fewer than C ticks
abbrev pub holds : Rule → Task → Job → Bool
holds greedy τ j = false
holds limited τ j = false
holds idling τ j = ltb j.claimed τ.length
holds lending τ j = ltb j.claimed τ.length

-- a job released at r claims in tick t if r ≤ t < r + D and either it has not ended or it holds
unfoldable pub claims : Rule → Task → ℕ → ℕ → Job → Bool
claims r τ k t j = leb (release τ k) t && ltb t (due τ k) && (not j.ended || holds r τ j)

-- job k of place p claims in the book's tick
abbrev pub job_claims : Table → Book → ℕ → ℕ → Bool
job_claims s b p k = claims s.rule (task s p) k b.tick (b.job p k)

-- place p has a job that claims in the book's tick (only the newest can, since D ≤ T: `claims-exact`)
abbrev pub task_claims : Table → Book → ℕ → Bool
task_claims s b p = job_claims s b p (newest (task s p) b.tick)

-- the widths of the tasks in tick t: those of their newest jobs
abbrev pub widths : Table → ℕ → List ℕ
widths s t = map (λ τ. width_of τ (newest τ t)) s.tasks

-- from the claims the table's rule gives the cores of each place, of those outside the fence ..
abbrev pub grants_of : Table → Book → List (List ℕ)
grants_of s b = grants s.rule (claimants (widths s b.tick) (task_claims s b)) (unfenced_cores s)

-- .. and place p is given some: under rules 1 to 3 it is then in the row, under rule 4 they are reserved for it
abbrev pub in_row : Table → Book → ℕ → Bool
in_row s b p = some (get_or (grants_of s b) p [])

-- job k of place p is given cores
unfoldable pub served : Table → Book → ℕ → ℕ → Bool
served s b p k = job_claims s b p k && in_row s b p

-- WHAT IS LENT, AND THE ROW OF A TICK

-- the newest job of place p has ended
abbrev pub newest_ended : Table → Book → ℕ → Bool
newest_ended s b p = (b.job p (newest (task s p) b.tick)).ended

-- the cores that place p lends: under rule 4 those reserved for a holder, whose job has ended
unfoldable pub offer : Table → Book → ℕ → List ℕ
offer s b p = cond (lends s.rule && newest_ended s b p) (get_or (grants_of s b) p []) []

-- place p seeks cores: it has unfinished work, and none are reserved for it
unfoldable pub seeks : Table → Book → ℕ → Bool
seeks s b p = task_claims s b p && not (newest_ended s b p) && not (in_row s b p)

-- what each place borrows, once every place has lent
abbrev pub lent_of : Table → Book → List (List ℕ)
lent_of s b = lent (widths s b.tick) (seeks s b) (offer s b) (length s.tasks)

-- the cores that place p borrows: from the places above it; the place itself and those below lend it none (`borrowed-above`)
unfoldable pub borrowed : Table → Book → ℕ → List ℕ
borrowed s b p = get_or (lent_of s b) p []

-- place p borrows some, and so has the tick
abbrev pub borrows : Table → Book → ℕ → Bool
borrows s b p = some (borrowed s b p)

-- job k of place p borrows some
unfoldable pub borrowing : Table → Book → ℕ → ℕ → Bool
borrowing s b p k = job_claims s b p k && borrows s b p

-- the cores of each place as the row shows them ..
abbrev pub shown_of : Table → Book → List (List ℕ)
shown_of s b = shown_cores (grants_of s b) (lent_of s b)

-- .. and so the row
abbrev pub book_row : Table → Book → List ℕ
book_row s b = row s.fence s.cores (shown_of s b)
