-- The answer of `load`, as a value that computes: the tests of the numbers in their order.
-- It is the first number that applies, and passed where none does: `refusal-exact` and `passed-exact`.
use Rattle.std.specs.Prelude.{Result, Ok, Err, Bool, not, ◌||◌, cond, List, ℕ, suc, ◌-◌, ◌%◌, length, get_or, eqb, ltb}
use Rattle.model.specs.Search.{any, least}
use Rattle.model.specs.Task.{Task, Table, task, absent_task}
use Rattle.model.specs.Fence.{unfenced_count}
use Rattle.model.specs.Horizon.{horizon}
use Rattle.model.specs.Sizes.{most_tasks}
use Rattle.model.specs.Refusal.{number_of, position_of}
use Rattle.model.specs.declared.refusal.Refusal.{Refusal}
use Rattle.table.specs.Words.{header_words, record_words, head, core_count, rule, fence, records, visited, table_of}
use Rattle.table.specs.Limits.{cores_out, rule_out, fence_out, task_number, task_out, horizon_out}

-- passed, or refused with number and position
pub data Answer : Type 0 where
  Passed : Answer
  Refused : ℕ → ℕ → Answer

-- what a result answers in these words
abbrev pub answer_in : {T : Type 0} → Result T Refusal → Answer
answer_in (Ok x) = Passed
answer_in (Err e) = Refused (number_of e) (position_of e)

-- 1 as a test (`words-decides`)
abbrev pub words_out : List ℕ → Bool
words_out ws = ltb (length ws) header_words || (not (eqb ((length ws - header_words) % record_words) 0) || ltb most_tasks (records ws))

-- the first of the numbers 1, 2, 3, 19 and 4 that applies, or 0
unfoldable pub header_number : List ℕ → ℕ
header_number ws =
    cond (words_out ws) 1
    (cond (cores_out (core_count ws)) 2
    (cond (rule_out (rule ws)) 3
    (cond (fence_out (core_count ws) (fence ws)) 19
    (cond (eqb (head ws) 0) 4 0))))

-- it, or passed where there is none
abbrev pub header_answer : List ℕ → Answer
header_answer ws = cond (eqb (header_number ws) 0) Passed (Refused (header_number ws) 0)

-- what the walk meets at step k, as tests: a number past the last record, a record again, or one of these or the zero
abbrev pub out_of_range_at : List ℕ → ℕ → Bool
out_of_range_at ws k = ltb (records ws) (visited ws k)

abbrev pub repeated_at : List ℕ → ℕ → Bool
repeated_at ws k = any k (λ j. eqb (visited ws j) (visited ws k))

abbrev pub stops_at : List ℕ → ℕ → Bool
stops_at ws k = eqb (visited ws k) 0 || (out_of_range_at ws k || repeated_at ws k)

-- the step at which the walk stops: it reaches at most as many as there are records (`reaches-short`)
unfoldable pub last_step : List ℕ → ℕ
last_step ws = least (suc (records ws)) (stops_at ws)

-- the first place with a task that 7 or 8 turns down, or the number of places
unfoldable pub first_out : ℕ → List Task → ℕ
first_out m τs = least (length τs) (λ p. task_out m (get_or τs p absent_task))

-- 7 or 8 with the first such position, or passed
abbrev pub tasks_answer : ℕ → List Task → Answer
tasks_answer m τs =
    cond (ltb (first_out m τs) (length τs)) (Refused (task_number m (get_or τs (first_out m τs) absent_task)) (suc (first_out m τs))) Passed

-- 9, or passed
unfoldable pub by_horizon : Table → Answer
by_horizon s = cond (horizon_out (horizon s)) (Refused 9 0) Passed

-- the largest width that fits: the number of unfenced cores
abbrev pub width_limit : Table → ℕ
width_limit s = unfenced_count s.fence s.cores

-- 7 or 8 with the first such position, else by the horizon
unfoldable pub by_tasks : Table → Answer
by_tasks s =
    cond (ltb (first_out (width_limit s) s.tasks) (length s.tasks))
    (Refused (task_number (width_limit s) (task s (first_out (width_limit s) s.tasks))) (suc (first_out (width_limit s) s.tasks)))
    (by_horizon s)

-- how the walk can end: past the last record, at a record again, or at the zero
pub data Ending : Type 0 where
  Past : Ending
  Again : Ending
  Whole : Ending

-- 5, 6, or passed
abbrev pub chain_answer : Ending → Answer
chain_answer Past = Refused 5 0
chain_answer Again = Refused 6 0
chain_answer Whole = Passed

-- how it ends
unfoldable pub ending_of : List ℕ → Ending
ending_of ws = cond (out_of_range_at ws (last_step ws)) Past (cond (repeated_at ws (last_step ws)) Again Whole)

-- 5 or 6, else by the tasks
abbrev pub by_ending : Ending → Table → Answer
by_ending Past s = Refused 5 0
by_ending Again s = Refused 6 0
by_ending Whole s = by_tasks s

unfoldable pub by_walk : List ℕ → Answer
by_walk ws = by_ending (ending_of ws) (table_of ws)

-- a number of the header, else by the walk
unfoldable pub answer_of : List ℕ → Answer
answer_of ws = cond (eqb (header_number ws) 0) (by_walk ws) (Refused (header_number ws) 0)
