-- The start of a run from the words of a table (scope, 'The run in the cab' and numbers 1 to 9, 13 and 19).
use Rattle.std.specs.Prelude.{Result, Ok, Err, ◌≡◌, ◌↔◌, List, map, ◌++◌, ℕ, ◌-◌, length, replicate}
use Rattle.model.specs.Task as model
use Rattle.model.specs.Refusals as book
use Rattle.model.specs.declared.refusal.Refusal.{Refusal}
use Rattle.model.specs.Refusal.{number_of, position_of}
use Rattle.model.specs.Verdict as verdict
use Rattle.model.specs.Sizes.{most_tasks}
use Rattle.table.specs.Words.{rule, table_of}
use Rattle.table.specs.Numbers.{Applies, FirstOf, NoneOf}
use Rattle.judge.specs.declared.Verdict.{Verdict}
use Rattle.judge.specs.declared.Verdict.TheVariants as judge
use Rattle.judge.specs.JudgeAnswer.{judged, verdict_meaning}
use Rattle.judge.specs.Judged.{verdict_of}
use Rattle.run.specs.declared.Run.{Run}
use Rattle.run.specs.Answer.{Answer}
use Rattle.run.specs.Answer.{Taken, Refused}
use Rattle.phase.specs.Task.{start_task, unused}
use Rattle.run.specs.Answer.{answer_meaning, by_answer}
use Rattle.run.specs.Numbers.{RunOut}

-- the run of a table, whose rule has number n, as it starts, with no position withdrawn; places past the count hold zeros and Resting(0)
unfoldable pub started_run : ℕ → model.Table → Run
started_run n s = record {
  rule = n;
  cores = s.cores;
  fence = s.fence;
  withdrawn = 0;
  count = length s.tasks;
  tasks = map start_task s.tasks ++ replicate (most_tasks - length s.tasks) unused;
}

-- a run of all zeros with every phase Resting(0), which 14 turns down (`empty-run-out`)
abbrev pub empty_run : Run
empty_run = record { rule = 0; cores = 0; fence = 0; withdrawn = 0; count = 0; tasks = replicate most_tasks unused }

-- the result of a start: the answer, and the run as it starts
pub record Started : Type 0 where
  pub answer : Answer
  pub run : Run

-- as code returns it: a refusal has the run of all zeros
abbrev pub started : Result Run Refusal → Started
started (Ok run) = record { answer = Taken; run = run }
started (Err e) = record { answer = Refused (number_of e) (position_of e); run = empty_run }

-- number n applies to a start from the words, with position p
pub data StartApplies (ws : List ℕ) : ℕ → ℕ → Type 0 where
  -- 1 to 9 and 19
  as-table : (n p : ℕ) → Applies ws n p → StartApplies ws n p
  -- 13. Start: the verdict is Miss.
  thirteen : (t p : ℕ) → verdict_meaning (verdict_of ws) ≡ judged (verdict.Miss t p) → StartApplies ws 13 0

-- by the judge's verdict: Firm and Full are taken, Miss is 13, and the refusals 1 to 9 and 19 are the same
abbrev pub by_verdict : Verdict → Answer
by_verdict (judge.Firm a b) = Taken
by_verdict (judge.Full a b) = Taken
by_verdict (judge.Miss t p) = Refused 13 0
by_verdict (judge.Refused n p) = Refused n p

-- 1 to 9 and 19, then 13; else taken
unfoldable pub start_answer : List ℕ → Answer
start_answer ws = by_verdict (verdict_of ws)

-- the run as it starts; where refused, the run of all zeros
unfoldable pub start_of : List ℕ → Started
start_of ws = record { answer = start_answer ws; run = by_answer (start_answer ws) (started_run (rule ws) (table_of ws)) empty_run }

-- what a start from the words guarantees
pub record StartOf (ws : List ℕ) (s : Started) : Type 0 where
  -- its value
  pub value : s ≡ start_of ws
  -- refused with n and p exactly if number n applies with position p and no earlier one does; taken exactly if none applies
  pub refused : (n p : ℕ) → (answer_meaning s.answer ≡ book.refused n p) ↔ FirstOf (StartApplies ws) n p
  pub taken : (answer_meaning s.answer ≡ book.taken) ↔ NoneOf (StartApplies ws)
  -- taken: the table as it starts
  pub started : answer_meaning s.answer ≡ book.taken → s.run ≡ started_run (rule ws) (table_of ws)
  -- refused: all zeros
  pub zeros : (n p : ℕ) → answer_meaning s.answer ≡ book.refused n p → s.run ≡ empty_run
  -- a run that starts passes 14; the run of all zeros does not
  pub passes : answer_meaning s.answer ≡ book.taken → ¬ RunOut s.run
  pub out : (n p : ℕ) → answer_meaning s.answer ≡ book.refused n p → RunOut s.run
