-- The result of the call that gives the slack of each task, computed from the definitions: the numbers in front, 32 zeros and 23 where none are given, or
-- a table's number, and everything as found where there is a word too few.
use mathlib.Core.List.{List, [], ◌∷◌, ◌++◌, map}
use mathlib.Core.Path.{◌≡◌, refl}
use Prim.Native.Nat.{ℕ, ◌-◌}
use lib.ListN.{length, replicate}
use Rattle.model.proofs.Computing.{computing}
use Rattle.table.proofs.Examples.{words_a}
use Rattle.table.specs.Answer.{answer_of, by_horizon, by_tasks, by_walk, ending_of, first_out, header_number, last_step}
use Rattle.table.specs.Words.{chain, count, visited, table_of}
use Rattle.slack.specs.Answer.{slack_in, has_slack, slack_of}
use Rattle.slack.specs.Ordered.{ordered}
use Rattle.slack.specs.Slack.{misses, slack}
use Rattle.capi.specs.Calls.{CallResult, call_result}
use Rattle.capi.specs.Figures.{figures_call, slack_call}

-- A LINE: the words of a table, the two slices lent, and what is left

pub record Line : Type 0 where
  pub words : List ℕ
  pub figures : List ℕ
  pub answer : List ℕ
  pub leaves : CallResult

-- the value by the definitions of a line's words and slices
abbrev pub worked : Line → Line
worked l = record { words = l.words; figures = l.figures; answer = l.answer; leaves = slack_call l.words l.figures l.answer }

-- a number of words as they are lent
abbrev lent : ℕ → List ℕ
lent n = replicate n 77

-- a buffer of 33 words and an answer of 4, of which the last of each stays
abbrev answers : List ℕ → List ℕ → ℕ → ℕ → ℕ → Line
answers ws xs k a b = record {
  words = ws;
  figures = lent 33;
  answer = lent 4;
  leaves = call_result 0 ((xs ++ (replicate (32 - length xs) 0 ++ lent 1)) ∷ (k ∷ a ∷ b ∷ lent 1) ∷ []);
}

-- numbers are given; or they are turned down, with 32 zeros
abbrev given : List ℕ → List ℕ → Line
given ws xs = answers ws xs 0 0 0

abbrev refuses : List ℕ → ℕ → ℕ → Line
refuses ws n p = answers ws [] 3 n p

-- slices of these numbers of words, of which one is too short, stay
abbrev stays : List ℕ → ℕ → ℕ → Line
stays ws f n = record { words = ws; figures = lent f; answer = lent n; leaves = call_result 1 (lent f ∷ lent n ∷ []) }

-- one core under a rule, with two tasks: each alone may have one of the two ticks that are left; v is the width of the first's odd jobs
abbrev two : ℕ → ℕ → List ℕ
two r v = 1 ∷ 1 ∷ r ∷ 0 ∷ 0 ∷ 2 ∷ 0 ∷ v ∷ 1 ∷ 4 ∷ 4 ∷ 1 ∷ 0 ∷ 0 ∷ 1 ∷ 1 ∷ 3 ∷ 4 ∷ 1 ∷ []

-- F, one task whose C is above its D
abbrev words_f : List ℕ
words_f = 1 ∷ 1 ∷ 2 ∷ 0 ∷ 0 ∷ 0 ∷ 0 ∷ 1 ∷ 2 ∷ 1 ∷ 2 ∷ 1 ∷ []

abbrev pub lines : List Line
lines =
    given (two 2 1) (1 ∷ 1 ∷ []) ∷ given (two 1 1) (1 ∷ 1 ∷ [])
    -- 23: rules 3 and 4, a miss under rule 2, and A, which rule 1 has out of the width order
    ∷ refuses (two 3 1) 23 0 ∷ refuses (two 4 1) 23 0 ∷ refuses words_f 23 0 ∷ refuses words_a 23 0
    -- 7 with its position, before 23; 1 for no words at all
    ∷ refuses (two 2 2) 7 1 ∷ refuses (two 3 2) 7 1 ∷ refuses [] 1 0
    -- no space for the answer or for the numbers, whatever the words
    ∷ stays (two 2 1) 32 2 ∷ stays (two 2 1) 31 3 ∷ stays words_f 31 3 ∷ stays [] 0 0
    ∷ []

-- every line is its value by the definitions
pub examples : map worked lines ≡ lines
unfolding figures_call slack_of slack_in has_slack ordered slack misses answer_of by_walk by_tasks by_horizon first_out ending_of last_step header_number table_of chain
    count visited computing
examples = refl
