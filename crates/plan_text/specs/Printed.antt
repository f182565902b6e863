-- The line that is printed for an answer.
use Rattle.std.specs.Prelude.{List, [], ◌++◌, ◌∷◌, ℕ}
use Rattle.text.specs.Format.{newline}
use Rattle.text.specs.Output.{letters, line_of, longest_line}
use Rattle.plan_text.specs.Checked.{PlanAnswer, Accepted, Fault, More, Refused, Unfinished, Unread, checked_of}

-- the most bytes of a line: the length of a buffer for it
abbrev pub longest_answer : ℕ
longest_answer = longest_line

-- a word and its numbers; where more lines are needed nothing is printed
unfoldable pub plan_answer_line : PlanAnswer → List ℕ
plan_answer_line More = []
plan_answer_line Accepted = letters "accepted" ++ (newline ∷ [])
plan_answer_line (Unfinished t) = line_of (letters "unfinished") (t ∷ [])
plan_answer_line (Fault n t) = line_of (letters "fault") (n ∷ t ∷ [])
plan_answer_line (Refused n p) = line_of (letters "refused") (n ∷ p ∷ [])
plan_answer_line (Unread n) = line_of (letters "unread") (n ∷ [])

-- everything that the program plan_checker prints for the bytes that it reads
unfoldable pub check_output : List ℕ → List ℕ
check_output bs = plan_answer_line (checked_of bs)
