-- Lines and what is read in them, a small plan and the answer to its lines, and the line that is printed, computed from the definitions.
use mathlib.Core.Bool.{false}
use mathlib.Core.List.{List, [], map, ◌∷◌}
use mathlib.Core.Path.{◌≡◌, refl}
use Prim.Native.String.{String}
use lib.ListN.{replicate}
use Rattle.model.proofs.Computing.{computing}
use Rattle.table.specs.Answer.{answer_of, by_horizon, by_tasks, by_walk, ending_of, first_out, header_number, last_step}
use Rattle.table.specs.Words.{chain, count, visited, table_of}
use Rattle.phase.specs.declared.Phase.TheVariants.{Resting, Working}
use Rattle.phase.specs.Task.{unused}
use Rattle.run.specs.Numbers.{past_count, run_out}
use Rattle.run.specs.Run.{map_first}
use Rattle.run.specs.Start.{started_run}
use Rattle.text.specs.Decimal.{all, decimal, digit_count, digits_within, last_digits, value}
use Rattle.text.specs.Format.{is_number, lines, words_of}
use Rattle.text.specs.Output.{fields, letters, line_of}
use Rattle.sentence.specs.Reading.{starts_with}
use Rattle.splitter.specs.Words.{words_in}
use Rattle.splitter.specs.Split.{is_dashes, last_line, lines_from, nothing, split_from, unclosed}
use Rattle.plan_check.specs.declared.SuppliedPlan.{SuppliedPlan}
use Rattle.plan_check.specs.Begin.{begin_of}
use Rattle.plan_check.specs.Numbers.{differs, missed, state_out}
use Rattle.plan_check.specs.Plan.{cell_count}
use Rattle.plan_check.specs.Row.{faulty, any_unknown_byte, worked_row}
use Rattle.plan_check.specs.State.{note}
use Rattle.plan_check.specs.CheckRow.{answer_at, final_answer, check_row_answer, check_row_of}
use Rattle.plan_text.specs.Checked.{PlanAnswer}
use Rattle.plan_text.specs.Checked.{Accepted, Fault, Refused, Unfinished, Unread}
use Rattle.plan_text.specs.Checked.{checked_of, end_answer, next_line, opened_of, opens, skipped, rows_at, rows_answer, split_answer, step_of}
use Rattle.plan_text.specs.Line.{Read, cells_of, is_byte, is_verdict, no_row, row_read, row_in, row_of_words}
use Rattle.plan_text.specs.Printed.{plan_answer_line}

-- WHAT IS READ IN A LINE

pub record Line : Type 0 where
  pub text : String
  pub read : Read

abbrev reads : String → Read → Line
reads s x = record { text = s; read = x }

abbrev pub some-lines : List Line
some-lines =
    reads "0 1 2" (row_read 0 (1 ∷ 2 ∷ []))
    ∷ reads "7" (row_read 7 [])
    ∷ reads "4294967295 255" (row_read 4294967295 (255 ∷ []))
    ∷ reads "0000000000 007" (row_read 0 (7 ∷ []))
    -- no tick, or one that is too large
    ∷ reads "" no_row
    ∷ reads "x" no_row
    ∷ reads "4294967296" no_row
    ∷ reads "00000000000" no_row
    -- a number above 255, a sign, a letter, an end of line as elsewhere
    ∷ reads "0 256" no_row
    ∷ reads "0 -1" no_row
    ∷ reads "0 a" no_row
    ∷ reads "0 1\r" no_row
    -- one space before each number, and nothing after the last
    ∷ reads " 0 1" no_row
    ∷ reads "0  1" no_row
    ∷ reads "0 1 " no_row
    ∷ reads "0\t1" no_row
    ∷ []

pub lines-read : map (λ l. reads l.text (row_in (letters l.text))) some-lines ≡ some-lines
unfolding row_of_words cells_of is_byte words_in is_number all value
lines-read = refl

-- THE ANSWER TO THE LINES OF A PLAN

-- one core and one task, (0,1,1,2,2), as it is begun: its horizon is 2, and of each two ticks it takes one
abbrev pub plan : SuppliedPlan
plan = record {
  run = record {
    rule = 1;
    cores = 1;
    fence = 0;
    withdrawn = 0;
    count = 1;
    tasks = record { parameters = record { offset = 0; width = 1; length = 1; deadline = 2; period = 2; second = 1 }; even = false; phase = Working 0 0 0 } ∷ replicate 31 unused;
  };
  tick = 0;
  noted = note (Working 0 0 0) ∷ replicate 31 (note (Resting 0));
}

pub plan-begun : (begin_of (1 ∷ 1 ∷ 1 ∷ 0 ∷ 0 ∷ 0 ∷ 0 ∷ 1 ∷ 1 ∷ 2 ∷ 2 ∷ 1 ∷ [])).plan ≡ plan
unfolding begin_of started_run answer_of by_walk by_tasks by_horizon first_out ending_of last_step header_number table_of chain count visited computing
plan-begun = refl

-- the lines of a plan, and the answer to them
pub record Check : Type 0 where
  pub input : String
  pub result : PlanAnswer

abbrev check : String → PlanAnswer → Check
check i s = record { input = i; result = s }

abbrev pub checks : List Check
checks =
    check "0 1\n1 0\n" Accepted
    ∷ check "firm 0 2\n0 0\n1 1" Accepted
    -- empty lines after the last row are no rows; a row there is one too many
    ∷ check "0 1\n1 0\n\n\n" Accepted
    ∷ check "0 1\n1 0\n\n2 0\n" (Refused 10 0)
    ∷ check "0 1\n1 0\n0 1\n" (Unread 3)
    -- rows are missing
    ∷ check "0 1\n" (Unfinished 1)
    ∷ check "miss 2 1\n" (Unfinished 0)
    ∷ check "" (Unfinished 0)
    -- faults of the plan, and a row of two cores; what follows is not read
    ∷ check "0 1\n1 1\nx" (Fault 24 1)
    ∷ check "0 0\n1 0\n" (Fault 25 2)
    ∷ check "0 1 0\n" (Refused 11 0)
    -- a line that is no row, or of another tick: its number in the plan
    ∷ check "full 0 2\n0 1\nfirm 0 2\n" (Unread 3)
    ∷ check "refused 1 0\n" (Unread 1)
    ∷ check "\n0 1\n1 0\n" (Unread 1)
    ∷ check "1 1\n" (Unread 1)
    ∷ []

abbrev checking : Check → Check
checking c = check c.input (rows_answer nothing (rows_at plan 0 false) (lines_from nothing [] (letters c.input)))

pub checks-exact : map checking checks ≡ checks
unfolding rows_answer end_answer step_of skipped next_line is_verdict starts_with lines_from last_line row_of_words cells_of is_byte words_in is_number all value check_row_of check_row_answer answer_at final_answer differs missed
    state_out faulty any_unknown_byte worked_row cell_count map_first run_out past_count computing
checks-exact = refl

-- A TABLE THAT IS TURNED DOWN, AND THE LINE THAT IS PRINTED

pub refused_line : (checked_of (letters "") ≡ Refused 1 0) × (checked_of (letters "x\n--\n0 1\n") ≡ Refused 1 0) × (checked_of (letters "1\n65\n1\n0\n0\n--\n") ≡ Refused 2 0)
unfolding checked_of split_answer split_from unclosed opens opened_of is_dashes words_of lines is_number all value begin_of answer_of header_number rows_answer end_answer lines_from last_line
refused_line = (refl, refl, refl)

pub answer-lines :
    (plan_answer_line Accepted ≡ letters "accepted\n") × (plan_answer_line (Unfinished 10) ≡ letters "unfinished 10\n") × (plan_answer_line (Fault 24 1000000000) ≡ letters "fault 24 1000000000\n")
    × (plan_answer_line (Refused 7 32) ≡ letters "refused 7 32\n") × (plan_answer_line (Unread 3) ≡ letters "unread 3\n")
unfolding plan_answer_line line_of fields decimal last_digits digit_count digits_within
answer-lines = (refl, refl, refl, refl, refl)
