-- What the interference test answers, and what is promised of it.
use Rattle.std.specs.Prelude.{Option, None, Some, Result, Ok, Err, Bool, cond, false, true, List, map, ◌++◌, ◌↔◌, ◌≡◌, ℕ, ◌-◌, ◌≤◌, ◌<◌, get_or, length, replicate}
use Rattle.model.specs.Refusals as book
use Rattle.model.specs.Lists.{NeverMissed}
use Rattle.model.specs.Interference.{EndsWithin, interference_test_passes, need, response_bound}
use Rattle.model.specs.Search.{up_from}
use Rattle.model.specs.Sizes.{most_tasks}
use Rattle.model.specs.Task.{Table, task}
use Rattle.table.specs.Answer.{Answer}
use Rattle.table.specs.Answer.{Passed, Refused}
use Rattle.table.specs.declared.Loaded.{Loaded}
use Rattle.table.specs.Answer.{answer_of}
use Rattle.table.specs.Load.{load_meaning}
use Rattle.table.specs.Numbers.{First, NoneApplies}
use Rattle.table.specs.Words.{table_of}
use Rattle.table.specs.Fit.{Fit, loaded_table}
use Rattle.model.specs.declared.refusal.Refusal.{Refusal}
use Rattle.model.specs.Refusal.{number_of, position_of}

-- the most ticks of a window and a bound together
abbrev pub most_span : ℕ
most_span = 2000000

-- what a task is given at most: two times 2^32 cores in 1,000,000 ticks; so that a product fits
abbrev pub most_cores_in : ℕ
most_cores_in = 8589934592000000

-- what the places above are given at most: 32 of them; so that a sum fits
abbrev pub most_interference : ℕ
most_interference = 274877906944000000

-- the bounds of the places above a place are no shorter than their jobs, and no longer than their deadlines
abbrev pub Above : Loaded → List ℕ → ℕ → Type 0
Above t ends place =
    (i : ℕ) → i < place → ((task (loaded_table t) i).length ≤ get_or ends i 0) × (get_or ends i 0 ≤ (task (loaded_table t) i).deadline)

-- what a search for the window of a place is handed: a table, the bounds of the places above, and how many cores it needs
pub record Sought (t : Loaded) (ends : List ℕ) (place wanted : ℕ) : Type 0 where
  pub fit : Fit t
  pub inside : place < t.count
  pub above : Above t ends place
  pub needed : wanted ≡ need (loaded_table t) place
  pub few : wanted ≤ 65

-- the bound of each place, and zeros past the count
unfoldable pub bounds_in : Table → List ℕ
bounds_in s = map (response_bound s) (up_from 0 (length s.tasks)) ++ replicate (most_tasks - length s.tasks) 0

-- whether a table passes, and the bound of each place, 0 past the count
pub record Tested : Type 0 where
  pub met : Bool
  pub bounds : List ℕ

-- the table passes, or it does not, and all bounds are 0
abbrev pub is_met : List ℕ → Tested
is_met xs = record { met = true; bounds = xs }

abbrev pub not_met : Tested
not_met = record { met = false; bounds = replicate most_tasks 0 }

-- as code returns it
abbrev pub tested_in : Option (List ℕ) → Tested
tested_in None = not_met
tested_in (Some xs) = is_met xs

-- the test of a table
unfoldable pub tested_of : Table → Tested
tested_of s = cond (interference_test_passes s) (is_met (bounds_in s)) not_met

-- what is promised of the test r of a table s
pub record TestedOf (s : Table) (r : Tested) : Type 0 where
  -- its value
  pub value : r ≡ tested_of s
  -- where the table passes, no deadline of the full-length run is missed at any tick ..
  pub meets : r.met ≡ true → NeverMissed s
  -- .. and the bounds are those of the test: every job has ended within its bound after its release
  pub bounds : r.met ≡ true → (p : ℕ) → p < length s.tasks → get_or r.bounds p 0 ≡ response_bound s p
  pub ends : r.met ≡ true → (p : ℕ) → p < length s.tasks → EndsWithin s p (get_or r.bounds p 0)

-- the table's answer, and its test
pub record Bounds : Type 0 where
  pub answer : Answer
  pub tested : Tested

-- a refusal: the table does not pass
abbrev pub no_bounds : ℕ → ℕ → Bounds
no_bounds n p = record { answer = Refused n p; tested = not_met }

-- as code returns it
abbrev pub answered : Result (Option (List ℕ)) Refusal → Bounds
answered (Ok tested) = record { answer = Passed; tested = tested_in tested }
answered (Err e) = no_bounds (number_of e) (position_of e)

-- by the table's answer: the test, or the table's number as it is there
abbrev pub bounds_by : Answer → Table → Bounds
bounds_by Passed s = record { answer = Passed; tested = tested_of s }
bounds_by (Refused n p) s = no_bounds n p

-- what `response_bounds` answers of the words
unfoldable pub bounds_of : List ℕ → Bounds
bounds_of ws = bounds_by (answer_of ws) (table_of ws)

-- what is promised of the answer r to the words
pub record BoundsOf (ws : List ℕ) (r : Bounds) : Type 0 where
  -- its value
  pub value : r ≡ bounds_of ws
  -- refused with n and p exactly if n is the first number that applies, at p; passed exactly if none applies
  pub refused : (n p : ℕ) → (load_meaning r.answer ≡ book.refused n p) ↔ First ws n p
  pub passed : (load_meaning r.answer ≡ book.taken) ↔ NoneApplies ws
  -- passed: it is the table's test
  pub tested : load_meaning r.answer ≡ book.taken → TestedOf (table_of ws) r.tested
  -- refused: no bounds
  pub zeros : (n p : ℕ) → load_meaning r.answer ≡ book.refused n p → r.tested ≡ not_met
