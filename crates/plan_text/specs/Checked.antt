-- The answer to a table and a supplied plan: the table's text, a line `--`, and the lines of the plan, whose rows are taken one after another.
use Rattle.std.specs.Prelude.{Bool, ◌&&◌, ◌||◌, cond, false, true, Result, Ok, Err, Option, None, Some, List, [], ◌∷◌, suc, ℕ, eqb, leb, ltb, length}
use Rattle.model.specs.Sizes.{most_word}
use Rattle.model.specs.declared.refusal.Refusal.{Refusal}
use Rattle.model.specs.Refusal.{number_of, position_of}
use Rattle.table.specs.Answer.{Answer}
use Rattle.table.specs.Answer as table
use Rattle.text.specs.Format.{numbers_in, words_of}
use Rattle.plan_check.specs.Begin.{begin_of, empty_state}
use Rattle.plan_check.specs.CheckRow.{check_row_of}
use Rattle.plan_check.specs.RowAnswer as answer
use Rattle.plan_check.specs.declared.SuppliedPlan.{SuppliedPlan}
use Rattle.splitter.specs.Split.{InputEnd, Split, closed, growing, nothing, split, unknown}
use Rattle.plan_text.specs.declared.PlanProgress.{PlanProgress}
use Rattle.plan_text.specs.declared.PlanAnswer.TheVariants as code
use Rattle.plan_text.specs.declared.PlanAnswer as code_type
use Rattle.plan_text.specs.Line.{Read, is_verdict, no_row, row_read, row_in}

-- THE ANSWER

-- more lines are needed; the plan is accepted; rows are missing from this tick on; a fault with its number and tick; refused with number and position; or
-- the line with this number is no row
pub data PlanAnswer : Type 0 where
  More Accepted : PlanAnswer
  Unfinished : ℕ → PlanAnswer
  Fault Refused : ℕ → ℕ → PlanAnswer
  Unread : ℕ → PlanAnswer

-- the answer to a line, and the plan after it
pub record LineAnswer : Type 0 where
  pub rows : PlanProgress
  pub answer : PlanAnswer

-- as code returns them
abbrev pub said : code_type.PlanAnswer → PlanAnswer
said code.Accepted = Accepted
said (code.Unfinished t) = Unfinished t
said (code.Fault n t) = Fault n t
said (code.Refused n p) = Refused n p
said (code.Unread n) = Unread n

abbrev pub answered : Option code_type.PlanAnswer → PlanAnswer
answered None = More
answered (Some a) = said a

-- a line's result, where u has the plan beside a last answer
abbrev pub stepped : LineAnswer → Result PlanProgress code_type.PlanAnswer → LineAnswer
stepped u (Ok r) = record { rows = r; answer = More }
stepped u (Err a) = record { rows = u.rows; answer = said a }

-- ONE LINE

-- the number of the next line; the count stops at the largest number that it can be
unfoldable pub next_line : ℕ → ℕ
next_line n = cond (ltb n most_word) (suc n) n

-- a line that is skipped: the first one where it is the program's first line, and an empty one after the last row
unfoldable pub skipped : PlanProgress → List ℕ → Bool
skipped r l = (eqb r.lines 0 && is_verdict l) || (r.accepted && eqb (length l) 0)

-- the state after a number of lines
abbrev pub rows_at : SuppliedPlan → ℕ → Bool → PlanProgress
rows_at plan lines accepted = record { plan = plan; lines = lines; accepted = accepted }

abbrev pub line_answer : PlanProgress → PlanAnswer → LineAnswer
line_answer r s = record { rows = r; answer = s }

-- 24 to 26 are faults of the plan, with their tick; any other number turns it down
abbrev pub refusal_answer : ℕ → ℕ → PlanAnswer
refusal_answer n t = cond (leb 24 n) (Fault n t) (Refused n t)

-- the answer to a row by that of `check_row`: more lines are needed, or the check ends with a number
abbrev pub row_entered : answer.Answer → SuppliedPlan → ℕ → LineAnswer
row_entered answer.Taken plan lines = line_answer (rows_at plan lines false) More
row_entered answer.Accepted plan lines = line_answer (rows_at plan lines true) More
row_entered (answer.Refused n t) plan lines = line_answer (rows_at plan lines false) (refusal_answer n t)

-- a line that is no row, or of another tick than expected, ends the check with its number
abbrev pub no_row_answer : PlanProgress → LineAnswer
no_row_answer r = line_answer r (Unread (next_line r.lines))

-- the answer to what is read in a line
abbrev pub enters : PlanProgress → Read → LineAnswer
enters r (row_read t ns) = cond (eqb t r.plan.tick) (row_entered (check_row_of r.plan ns).answer (check_row_of r.plan ns).plan (next_line r.lines)) (no_row_answer r)
enters r no_row = no_row_answer r

-- .. and to a line
unfoldable pub step_of : PlanProgress → List ℕ → LineAnswer
step_of r l = cond (skipped r l) (line_answer (rows_at r.plan (next_line r.lines) r.accepted) More) (enters r (row_in l))

-- ALL LINES

-- more lines are needed
abbrev pub is_more : PlanAnswer → Bool
is_more More = true
is_more Accepted = false
is_more (Unfinished t) = false
is_more (Fault n t) = false
is_more (Refused n p) = false
is_more (Unread n) = false

-- the first answer, or the second if the first is that more lines are needed
abbrev pub or_else : PlanAnswer → PlanAnswer → PlanAnswer
or_else s more = cond (is_more s) more s

-- the answer after the last line: the plan is accepted with its last row; else rows are missing, from the expected tick on. Where the input has not ended
-- more lines are needed
unfoldable pub end_answer : InputEnd → PlanProgress → PlanAnswer
end_answer nothing r = cond r.accepted Accepted (Unfinished r.plan.tick)
end_answer unknown r = More

-- the answer to the lines of a plan: the first line with another answer than more ends the check
unfoldable pub rows_answer : InputEnd → PlanProgress → List (List ℕ) → PlanAnswer
rows_answer e r [] = end_answer e r
rows_answer e r (l ∷ ls) = or_else (step_of r l).answer (rows_answer e (step_of r l).rows ls)

-- THE TABLE

-- by the table's answer: rows are expected from tick 0 on, or it is refused
abbrev pub opened_by : Answer → SuppliedPlan → LineAnswer
opened_by table.Passed plan = line_answer (rows_at plan 0 false) More
opened_by (table.Refused n p) plan = line_answer (rows_at plan 0 false) (Refused n p)

-- the answer to a table's text
unfoldable pub opened_of : List ℕ → LineAnswer
opened_of d = opened_by (begin_of (numbers_in (words_of d))).answer (begin_of (numbers_in (words_of d))).plan

-- as code returns it: the plan before its first row; in a refusal one of all zeros
abbrev pub opening : Result PlanProgress Refusal → LineAnswer
opening (Ok r) = line_answer r More
opening (Err e) = line_answer (rows_at empty_state 0 false) (Refused (number_of e) (position_of e))

-- the answer to it and to the lines of a plan
unfoldable pub opens : InputEnd → List ℕ → List (List ℕ) → PlanAnswer
opens e d ls = or_else (opened_of d).answer (rows_answer e (opened_of d).rows ls)

-- the answer to an input; while its table grows none is known
unfoldable pub split_answer : InputEnd → Split → PlanAnswer
split_answer e (closed d ls) = opens e d ls
split_answer e (growing n) = More

-- the answer to the bytes of an input
unfoldable pub checked_of : List ℕ → PlanAnswer
checked_of bs = split_answer nothing (split nothing bs)

-- the answer that is due once these bytes have come: the first line with another answer than more is answered at once
unfoldable pub answer_so_far : List ℕ → PlanAnswer
answer_so_far bs = split_answer unknown (split unknown bs)
