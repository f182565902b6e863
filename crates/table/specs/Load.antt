-- The result of `load`: the table, or the number that turns it down.
use Rattle.std.specs.Prelude.{Result, Ok, Err, IfOk, ◌≡◌, ◌↔◌, List, map, ◌++◌, ℕ, ◌-◌, ◌≤◌, length, drop, replicate}
use Rattle.model.specs.Task as model
use Rattle.model.specs.Refusals as book
use Rattle.model.specs.Refusal.{numbered}
use Rattle.model.specs.declared.refusal.Refusal.{Refusal}
use Rattle.model.specs.Horizon.{last_s, hyperperiod, horizon}
use Rattle.model.specs.Sizes.{most_tasks}
use Rattle.table.specs.declared.Task.{Task}
use Rattle.table.specs.declared.Loaded.{Loaded}
use Rattle.table.specs.declared.chain.Chain.{Chain}
use Rattle.table.specs.Task.{no_task, tasks_of}
use Rattle.table.specs.Words.{word, fence, count, table_of}
use Rattle.table.specs.Limits.{InRange, most_horizon}
use Rattle.table.specs.Numbers.{First, NoneApplies}
use Rattle.table.specs.Answer.{Answer, Passed, Refused, answer_in, answer_of, ending_of, chain_answer}

-- a task of the model as code stores it
abbrev pub code_task : model.Task → Task
code_task τ = record {
  offset = τ.offset;
  width = τ.odd_width;
  length = τ.length;
  deadline = τ.deadline;
  period = τ.period;
  second = τ.even_width;
}

-- 32 places: the tasks in priority order, then zeros
abbrev pub code_tasks : List model.Task → List Task
code_tasks τs = map code_task τs ++ replicate (most_tasks - length τs) no_task

-- a table that passes, whose rule has number r
abbrev pub passing : ℕ → model.Table → Loaded
passing r s =
    record {
      count = length s.tasks;
      cores = s.cores;
      fence = s.fence;
      rule = r;
      tasks = code_tasks s.tasks;
      start = last_s s.tasks;
      period = hyperperiod s.tasks;
      horizon = horizon s;
    }

-- a refusal, with number and position
abbrev pub refusal : ℕ → ℕ → Result Loaded (ℕ × ℕ)
refusal n p = Err (n, p)

-- by the answer: the table that passes, or the refusal
abbrev pub loaded_by : Answer → Loaded → Result Loaded (ℕ × ℕ)
loaded_by Passed l = Ok l
loaded_by (Refused n p) l = refusal n p

-- the table that the words have where they pass
abbrev pub loaded_of : List ℕ → Loaded
loaded_of ws = passing (word ws 2) (table_of ws)

-- the result of `load` on the words
unfoldable pub load_of : List ℕ → Result Loaded (ℕ × ℕ)
load_of ws = loaded_by (answer_of ws) (loaded_of ws)

-- the contents of a table that passed
pub record LoadedAs (ws : List ℕ) (r : Loaded) : Type 0 where
  -- as many tasks as the chain has, 1 to 32
  pub count : r.count ≡ length (table_of ws).tasks
  pub count-from : InRange 1 most_tasks r.count
  -- the core count, the fence and the rule's number
  pub cores : r.cores ≡ word ws 1
  pub fence : r.fence ≡ fence ws
  pub rule : r.rule ≡ word ws 2
  -- the tasks in priority order, and zeros past the count
  pub tasks : tasks_of r.tasks r.count ≡ (table_of ws).tasks
  pub past : drop r.count r.tasks ≡ replicate (most_tasks - r.count) no_task
  -- the last S, P and the horizon
  pub start : r.start ≡ last_s (table_of ws).tasks
  pub period : r.period ≡ hyperperiod (table_of ws).tasks
  pub horizon : r.horizon ≡ horizon (table_of ws)
  pub horizon-most : r.horizon ≤ most_horizon

-- the meaning of each case: taken where the table passes, or refused with number and position
abbrev pub load_meaning : Answer → book.Answer
load_meaning Passed = book.taken
load_meaning (Refused n p) = book.refused n p

-- the contract of `load` on the words
pub record LoadOf (ws : List ℕ) (r : Result Loaded Refusal) : Type 0 where
  -- its value
  pub value : numbered r ≡ load_of ws
  -- refused with n and p exactly if number n applies with position p and no earlier one does; passed exactly if none applies
  pub refused : (n p : ℕ) → (load_meaning (answer_in r) ≡ book.refused n p) ↔ First ws n p
  pub passed : (load_meaning (answer_in r) ≡ book.taken) ↔ NoneApplies ws
  -- what passed is the table
  pub holds : IfOk r (LoadedAs ws)

-- the tasks on this number of cores, with this fence and the rule of this number
abbrev pub table_with : ℕ → ℕ → ℕ → List model.Task → model.Table
table_with m f r τs = record { tasks = τs; cores = m; fence = f; rule = model.rule_of r }

-- the result of the walk: the tasks where it ends at the zero, else 5 or 6
pub record WalkOf (ws : List ℕ) (r : Result Chain Refusal) : Type 0 where
  pub answer : answer_in r ≡ chain_answer (ending_of ws)
  pub holds : IfOk r (λ c. (c.count ≡ count ws) × (c.tasks ≡ code_tasks (table_of ws).tasks))
