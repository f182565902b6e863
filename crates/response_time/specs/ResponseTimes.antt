-- The answer of `response_times`, and its contract (request 107).
use Rattle.std.specs.Prelude.{Result, Ok, Err, ◌≡◌, List, map, ◌++◌, ◌↔◌, ℕ, ◌-◌, ◌≤◌, ◌<◌, length, get_or, replicate}
use Rattle.model.specs.Refusals as book
use Rattle.model.specs.Search.{up_from}
use Rattle.model.specs.Sizes.{most_tasks}
use Rattle.model.specs.Task.{Table}
use Rattle.table.specs.Answer as table
use Rattle.table.specs.Load.{load_meaning}
use Rattle.table.specs.Words.{table_of}
use Rattle.judge.specs.declared.Verdict.{Verdict}
use Rattle.judge.specs.declared.Verdict.TheVariants.{Firm, Full, Miss, Refused}
use Rattle.judge.specs.Judged.{verdict_of}
use Rattle.model.specs.declared.refusal.Refusal.{Refusal}
use Rattle.model.specs.Refusal.{number_of, position_of}
use Rattle.response_time.specs.Response.{worst_response, WorstResponse}
use Rattle.response_time.specs.EndedWithin.{AlwaysEndedWithin}
use Rattle.response_time.specs.Numbers.{First, NoneApplies}

-- the worst-case response time of each task, and zeros past the count
unfoldable pub response_times_in : Table → List ℕ
response_times_in s = map (worst_response s) (up_from 0 (length s.tasks)) ++ replicate (most_tasks - length s.tasks) 0

-- the answer, and the response time of each task
pub record ResponseTimes : Type 0 where
  pub answer : table.Answer
  pub responses : List ℕ

-- the response times are given; or they are refused with number and position, and all of them are 0
abbrev pub given_times : List ℕ → ResponseTimes
given_times xs = record { answer = table.Passed; responses = xs }

abbrev pub no_times : ℕ → ℕ → ResponseTimes
no_times n p = record { answer = table.Refused n p; responses = replicate most_tasks 0 }

-- as code returns it
abbrev pub answered : Result (List ℕ) Refusal → ResponseTimes
answered (Ok xs) = given_times xs
answered (Err e) = no_times (number_of e) (position_of e)

-- by the judge's verdict: given for Firm and Full, 13 for a miss, and the table's numbers unchanged
abbrev pub response_times_by : Verdict → List ℕ → ResponseTimes
response_times_by (Firm a b) xs = given_times xs
response_times_by (Full a b) xs = given_times xs
response_times_by (Miss t p) xs = no_times 13 0
response_times_by (Refused n p) xs = no_times n p

-- the answer of `response_times` to the words
unfoldable pub response_times_of : List ℕ → ResponseTimes
response_times_of ws = response_times_by (verdict_of ws) (response_times_in (table_of ws))

-- the contract of the answer r to the words
pub record ResponseTimesOf (ws : List ℕ) (r : ResponseTimes) : Type 0 where
  -- its value
  pub value : r ≡ response_times_of ws
  -- refused with n and p exactly if n is the first number that applies, at p; given exactly if none applies
  pub refused : (n p : ℕ) → (load_meaning r.answer ≡ book.refused n p) ↔ First ws n p
  pub passed : (load_meaning r.answer ≡ book.taken) ↔ NoneApplies ws
  -- given: of each task, no full-length job ever takes longer than its response time, and some full-length job takes exactly that
  pub figures : load_meaning r.answer ≡ book.taken → (p : ℕ) → p < length (table_of ws).tasks → WorstResponse (table_of ws) p (get_or r.responses p 0)
  -- Firm: in every list of advances each job has ended at its release plus that time, and at every tick after
  pub kept :
      (a b : ℕ) → verdict_of ws ≡ Firm a b → (p : ℕ) → p < length (table_of ws).tasks → AlwaysEndedWithin (table_of ws) p (get_or r.responses p 0)
  -- there are 32 numbers; those past the count are 0, and in a refusal all of them
  pub size : length r.responses ≡ most_tasks
  pub past : (p : ℕ) → length (table_of ws).tasks ≤ p → get_or r.responses p 0 ≡ 0
  pub zeros : (n p : ℕ) → load_meaning r.answer ≡ book.refused n p → r.responses ≡ replicate most_tasks 0
