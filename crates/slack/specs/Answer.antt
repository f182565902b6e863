-- The answer of `slack`, and its contract (request 111).
use Rattle.std.specs.Prelude.{Result, Ok, Err, Bool, ◌&&◌, false, not, true, List, map, ◌++◌, ◌↔◌, ◌≡◌, ℕ, ◌+◌, ◌-◌, ◌≤◌, ◌<◌, get_or, length, replicate}
use Rattle.model.specs.Refusals as book
use Rattle.model.specs.Lists.{NeverMissed}
use Rattle.model.specs.Search.{up_from}
use Rattle.model.specs.Sizes.{most_tasks}
use Rattle.model.specs.Task.{Table, task}
use Rattle.table.specs.Answer.{Answer}
use Rattle.table.specs.Answer.{Passed, Refused}
use Rattle.table.specs.Answer.{answer_of}
use Rattle.table.specs.Limits.{most_time}
use Rattle.table.specs.Load.{load_meaning}
use Rattle.table.specs.Numbers as table
use Rattle.table.specs.Words.{table_of}
use Rattle.model.specs.declared.refusal.Refusal.{Refusal}
use Rattle.model.specs.Refusal.{number_of, position_of}
use Rattle.slack.specs.GrownWords.{grown_words}
use Rattle.slack.specs.Longer.{grown}
use Rattle.slack.specs.Numbers.{First, NoneApplies}
use Rattle.slack.specs.Ordered.{ordered}
use Rattle.slack.specs.Slack.{Slack, misses, slack}

-- the slack of each task, and zeros past the count
unfoldable pub slack_in : Table → List ℕ
slack_in s = map (slack s) (up_from 0 (length s.tasks)) ++ replicate (most_tasks - length s.tasks) 0

-- the answer, and the slack of each task
pub record SlackAnswer : Type 0 where
  pub answer : Answer
  pub slack : List ℕ

-- the slack of each task is given; or it is refused with number and position, and all of them are 0
abbrev pub given_slack : List ℕ → SlackAnswer
given_slack xs = record { answer = Passed; slack = xs }

abbrev pub no_slack : ℕ → ℕ → SlackAnswer
no_slack n p = record { answer = Refused n p; slack = replicate most_tasks 0 }

-- as code returns it
abbrev pub answered : Result (List ℕ) Refusal → SlackAnswer
answered (Ok xs) = given_slack xs
answered (Err e) = no_slack (number_of e) (position_of e)

-- slack is given for the table: it is accepted, under rule 2, or under rule 1 in the width order (`gives-exact`)
unfoldable pub has_slack : Table → Bool
has_slack s = ordered s.rule s.tasks && not (misses s)

-- of a table that passes: the slack of each task, or 23
abbrev pub slack_answer : Bool → List ℕ → SlackAnswer
slack_answer true xs = given_slack xs
slack_answer false xs = no_slack 23 0

-- by the table's answer: that, or the table's number unchanged
abbrev pub slack_by : Answer → Table → SlackAnswer
slack_by Passed s = slack_answer (has_slack s) (slack_in s)
slack_by (Refused n p) s = no_slack n p

-- the answer of `slack` to the words
unfoldable pub slack_of : List ℕ → SlackAnswer
slack_of ws = slack_by (answer_of ws) (table_of ws)

-- the contract of the answer r to the words
pub record SlackOf (ws : List ℕ) (r : SlackAnswer) : Type 0 where
  -- its value
  pub value : r ≡ slack_of ws
  -- refused with n and p exactly if n is the first number that applies, at p; given exactly if none applies
  pub refused : (n p : ℕ) → (load_meaning r.answer ≡ book.refused n p) ↔ First ws n p
  pub passed : (load_meaning r.answer ≡ book.taken) ↔ NoneApplies ws
  -- given: of each task, any growth of C up to its slack is accepted at every tick, and one tick more misses or takes C past 1,000,000
  pub figures : load_meaning r.answer ≡ book.taken → (p : ℕ) → p < length (table_of ws).tasks → Slack (table_of ws) p (get_or r.slack p 0)
  -- so it is the largest growth of C alone with which the table is accepted
  pub largest :
      load_meaning r.answer ≡ book.taken → (p h : ℕ) → p < length (table_of ws).tasks → NeverMissed (grown (table_of ws) p h) → h ≤ get_or r.slack p 0
  -- and the words with any growth that leaves C within 1,000,000 represent the table that has grown, and pass all of the table's numbers
  pub words :
      load_meaning r.answer ≡ book.taken → (p h : ℕ) → p < length (table_of ws).tasks → (task (table_of ws) p).length + h ≤ most_time
      → table.NoneApplies (grown_words ws p h) × (table_of (grown_words ws p h) ≡ grown (table_of ws) p h)
  -- there are 32 numbers; those past the count are 0, and in a refusal all of them
  pub size : length r.slack ≡ most_tasks
  pub past : (p : ℕ) → length (table_of ws).tasks ≤ p → get_or r.slack p 0 ≡ 0
  pub zeros : (n p : ℕ) → load_meaning r.answer ≡ book.refused n p → r.slack ≡ replicate most_tasks 0
