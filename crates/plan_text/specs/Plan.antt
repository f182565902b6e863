-- Rows as the program prints them, and the answer to a list of rows: the text gets the answer of the list (`checked-text`), and the text that the
-- program prints for an accepted table is accepted (`own-output`).
use Rattle.std.specs.Prelude.{List, [], ◌++◌, ◌∷◌, ◌<◌, suc, ℕ, ◌≤◌, get_or, length}
use Rattle.model.specs.Sizes.{most_word}
use Rattle.model.specs.Verdict.{Firm, Full, Miss, Verdict}
use Rattle.text.specs.Format.{newline}
use Rattle.text.specs.Output.{row_line}
use Rattle.plan_check.specs.Answers.{PlanOutcome, accepts, refuses, unfinished}
use Rattle.plan_text.specs.Checked.{PlanAnswer}
use Rattle.plan_text.specs.Checked.{Accepted, Unfinished}
use Rattle.plan_text.specs.Checked.{refusal_answer}
use Rattle.plan_text.specs.Line.{most_cells}

-- a row that a line can represent: no more numbers than are read, and each is a byte
abbrev pub ExpressibleRow : List ℕ → Type 0
ExpressibleRow row = (length row ≤ most_cells) × ((c : ℕ) → c < length row → get_or row c 0 ≤ 255)

-- the lines of rows from tick t on, as the program prints them
unfoldable pub plan_text : ℕ → List (List ℕ) → List ℕ
plan_text t [] = []
plan_text t (row ∷ rows) = row_line t row ++ plan_text (suc t) rows

-- the answer for the outcome of a list of this number of rows
abbrev pub plan_answer_of : PlanOutcome → ℕ → PlanAnswer
plan_answer_of accepts n = Accepted
plan_answer_of unfinished n = Unfinished n
plan_answer_of (refuses k t) n = refusal_answer k t

-- a line `--` and the bytes of a plan
abbrev pub after_dashes : List ℕ → List ℕ
after_dashes bs = 45 ∷ 45 ∷ newline ∷ bs

-- the two numbers of a verdict are words
abbrev pub WordsOf : Verdict → Type 0
WordsOf (Firm s p) = (s ≤ most_word) × (p ≤ most_word)
WordsOf (Full s p) = (s ≤ most_word) × (p ≤ most_word)
WordsOf (Miss t p) = (t ≤ most_word) × (p ≤ most_word)
