-- Plans taken row by row, computed from the definitions: each number with its tick from both sides, which comes first where two apply, plans that are
-- accepted, of a table that misses by our rule too, of fenced cores and of two widths, and a refused row that leaves the state as it was.
use mathlib.Core.List.{List, [], map, ◌++◌, ◌∷◌}
use mathlib.Core.Path.{refl, ◌≡◌}
use Prim.Native.Nat.{ℕ}
use Prim.Native.String.{String}
use lib.ListN.{drop, replicate, take}
use Rattle.model.proofs.Computing.{computing}
use Rattle.model.specs.Search.{up_from}
use Rattle.model.specs.Verdict.{Miss, verdict}
use Rattle.phase.specs.declared.Phase.TheVariants.{Coming, Resting, Working}
use Rattle.plan.specs.Rows.{full_rows_from}
use Rattle.run.specs.Numbers.{past_count, run_out}
use Rattle.run.specs.Run.{map_first}
use Rattle.run.specs.Start.{started_run}
use Rattle.table.proofs.Examples.{words_a}
use Rattle.table.specs.Answer.{answer_of, by_horizon, by_tasks, by_walk, ending_of, first_out, header_number, last_step}
use Rattle.table.specs.Words.{chain, count, visited, table_of}
use Rattle.plan_check.specs.Answers.{PlanOutcome, accepts, refuses, unfinished}
use Rattle.plan_check.specs.Begin.{begin_of}
use Rattle.plan_check.specs.Checked.{row_answers_from, row_answers_of, outcome_from, outcome_of, plan_rows}
use Rattle.plan_check.specs.Numbers.{differs, missed, state_out}
use Rattle.plan_check.specs.Plan.{cell_count, phase_by, repeated, row_at, ticks}
use Rattle.plan_check.specs.Row.{faulty, any_unknown_byte, worked_row}
use Rattle.plan_check.specs.RowAnswer.{RowAnswer, accepted, refused, taken}
use Rattle.plan_check.specs.CheckRow.{answer_at, final_answer, check_row_answer, check_row_of}

-- a line: its name, the words of a table and a list of rows; what each row is answered, and what the list comes to
pub record Line : Type 0 where
  pub name : String
  pub words : List ℕ
  pub rows : List (List ℕ)
  pub answers : List RowAnswer
  pub comes : PlanOutcome

-- the value by the definitions of a line's words and rows
abbrev pub computes : Line → Line
computes l = record {
  name = l.name;
  words = l.words;
  rows = l.rows;
  answers = row_answers_of l.words l.rows;
  comes = outcome_of l.words l.rows;
}

abbrev line : String → List ℕ → PlanOutcome → List RowAnswer → List (List ℕ) → Line
line n ws o answers rows = record { name = n; words = ws; rows = rows; answers = answers; comes = o }

-- a number of rows taken
abbrev took : ℕ → List RowAnswer
took n = replicate n taken

-- a row of a number of cores
abbrev one : ℕ → List ℕ
one a = a ∷ []

abbrev two : ℕ → ℕ → List ℕ
two a b = a ∷ b ∷ []

abbrev three : ℕ → ℕ → ℕ → List ℕ
three a b c = a ∷ b ∷ c ∷ []

abbrev five : ℕ → ℕ → ℕ → ℕ → ℕ → List ℕ
five a b c d e = a ∷ b ∷ c ∷ d ∷ e ∷ []

-- A under a rule, and the rows that the scope prints for it: horizon 5
abbrev ruled_a : ℕ → List ℕ
ruled_a r = 3 ∷ 3 ∷ r ∷ drop 3 words_a

abbrev rows_a : List (List ℕ)
rows_a = three 1 1 3 ∷ three 1 1 3 ∷ three 2 2 3 ∷ three 2 2 3 ∷ three 2 2 0 ∷ []

-- the tasks of A on five cores, of which 0 and 3 are fenced
abbrev fenced_a : List ℕ
fenced_a = 3 ∷ 5 ∷ 1 ∷ 9 ∷ 0 ∷ drop 5 words_a

-- two cores, rule 2, tasks (0,1,1,2,2) and (1,1,1,2,2): the last S is 1, the horizon 3
abbrev later : List ℕ
later = 1 ∷ 2 ∷ 2 ∷ 0 ∷ 0 ∷ 2 ∷ 0 ∷ 1 ∷ 1 ∷ 2 ∷ 2 ∷ 1 ∷ 0 ∷ 1 ∷ 1 ∷ 1 ∷ 2 ∷ 2 ∷ 1 ∷ []

-- one core, one task: (0,1,1,2,2); (0,1,1,1,2); and (2,1,1,2,3), whose last S is 2 and horizon 5
abbrev single : List ℕ
single = 1 ∷ 1 ∷ 1 ∷ 0 ∷ 0 ∷ 0 ∷ 0 ∷ 1 ∷ 1 ∷ 2 ∷ 2 ∷ 1 ∷ []

abbrev short : List ℕ
short = 1 ∷ 1 ∷ 1 ∷ 0 ∷ 0 ∷ 0 ∷ 0 ∷ 1 ∷ 1 ∷ 1 ∷ 2 ∷ 1 ∷ []

abbrev offset : List ℕ
offset = 1 ∷ 1 ∷ 1 ∷ 0 ∷ 0 ∷ 0 ∷ 2 ∷ 1 ∷ 1 ∷ 2 ∷ 3 ∷ 1 ∷ []

-- one core, tasks (0,1,2,4,4) and (3,1,1,4,4): the last S is 3, the horizon 7
abbrev open_at_s : List ℕ
open_at_s = 1 ∷ 1 ∷ 1 ∷ 0 ∷ 0 ∷ 2 ∷ 0 ∷ 1 ∷ 2 ∷ 4 ∷ 4 ∷ 1 ∷ 0 ∷ 3 ∷ 1 ∷ 1 ∷ 4 ∷ 4 ∷ 1 ∷ []

-- a plan of it
abbrev rows_open : List (List ℕ)
rows_open = one 1 ∷ one 0 ∷ one 0 ∷ one 1 ∷ one 2 ∷ one 1 ∷ one 0 ∷ []

-- two cores, one task of widths 1 and 2, released in every tick
abbrev pairs : List ℕ
pairs = 1 ∷ 2 ∷ 1 ∷ 0 ∷ 0 ∷ 0 ∷ 0 ∷ 1 ∷ 1 ∷ 1 ∷ 1 ∷ 2 ∷ []

abbrev pub lines : List Line
lines =
    line "A, the rows that the tool writes" (ruled_a 1) accepts (took 4 ++ accepted ∷ [])
    rows_a
    ∷ line "A under rule 2, which misses by our rule, takes them too" (ruled_a 2) accepts (took 4 ++ accepted ∷ [])
    rows_a
    ∷ line "rule 3" (ruled_a 3) accepts (took 4 ++ accepted ∷ [])
    rows_a
    ∷ line "rule 4" (ruled_a 4) accepts (took 4 ++ accepted ∷ [])
    rows_a
    ∷ line "cores may change from row to row" (ruled_a 1) accepts (took 4 ++ accepted ∷ [])
    (three 3 1 1 ∷ three 1 3 1 ∷ three 2 2 3 ∷ three 2 2 3 ∷ three 0 2 2 ∷ [])
    ∷ line "no rows" (ruled_a 1) unfinished []
    []
    ∷ line "a row is missing" (ruled_a 1) unfinished (took 4)
    (take 4 rows_a)
    ∷ line "10: a row more, of any length" (ruled_a 1) (refuses 10 0) (took 4 ++ accepted ∷ refused 10 0 ∷ [])
    (rows_a ++ two 0 0 ∷ [])
    ∷ line "11: a byte short, and the row again" (ruled_a 1) (refuses 11 0) (refused 11 0 ∷ taken ∷ [])
    (two 1 1 ∷ three 1 1 3 ∷ [])
    ∷ line "11: a byte more" (ruled_a 1) (refuses 11 0) (took 1 ++ refused 11 0 ∷ [])
    (three 1 1 3 ∷ (1 ∷ 1 ∷ 3 ∷ 0 ∷ []) ∷ [])
    ∷ line "24: a byte past the last position" (ruled_a 1) (refuses 24 0) (refused 24 0 ∷ [])
    (three 1 1 4 ∷ [])
    ∷ line "24: 255 on a core that is not fenced" (ruled_a 1) (refuses 24 0) (refused 24 0 ∷ [])
    (three 1 1 255 ∷ [])
    ∷ line "24: too few cores of a task" (ruled_a 1) (refuses 24 1) (took 1 ++ refused 24 1 ∷ [])
    (three 1 1 3 ∷ three 1 0 3 ∷ [])
    ∷ line "24: too many" (ruled_a 1) (refuses 24 0) (refused 24 0 ∷ [])
    (three 1 1 1 ∷ [])
    ∷ line "24: nothing owed after its end" (ruled_a 1) (refuses 24 2) (took 2 ++ refused 24 2 ∷ [])
    (three 1 1 3 ∷ three 1 1 3 ∷ three 1 1 3 ∷ [])
    ∷ line "24 in the last row comes with its tick, not the horizon" (ruled_a 1) (refuses 24 4) (took 4 ++ refused 24 4 ∷ [])
    (take 4 rows_a ++ three 2 2 3 ∷ [])
    ∷ line "a refused row leaves the state as it was" (ruled_a 1) (refuses 24 2) (took 2 ++ refused 24 2 ∷ taken ∷ taken ∷ accepted ∷ [])
    (take 2 rows_a ++ three 1 1 3 ∷ drop 2 rows_a)
    ∷ line "25 on the horizon, and the last row mended" (ruled_a 1) (refuses 25 5) (took 4 ++ refused 25 5 ∷ accepted ∷ [])
    (take 4 rows_a ++ three 0 0 0 ∷ three 2 2 0 ∷ [])
    ∷ line "24: nothing owed before its release" later (refuses 24 0) (refused 24 0 ∷ [])
    (two 2 0 ∷ [])
    ∷ line "25 at a tick in which the next job is released" later (refuses 25 2) (took 2 ++ refused 25 2 ∷ [])
    (two 0 0 ∷ two 2 0 ∷ two 1 0 ∷ [])
    ∷ line "25 before 24" later (refuses 25 2) (took 2 ++ refused 25 2 ∷ [])
    (two 0 0 ∷ two 2 0 ∷ two 9 9 ∷ [])
    ∷ line "11 before 25" later (refuses 11 0) (took 2 ++ refused 11 0 ∷ [])
    (two 0 0 ∷ two 2 0 ∷ one 1 ∷ [])
    ∷ line "26: at the last S task 1 has had its tick, on the horizon it has not" later (refuses 26 3) (took 2 ++ refused 26 3 ∷ [])
    (two 1 0 ∷ two 2 0 ∷ two 0 0 ∷ [])
    ∷ line "26, and the last row mended" later (refuses 26 3) (took 2 ++ refused 26 3 ∷ accepted ∷ [])
    (two 1 0 ∷ two 2 0 ∷ two 0 0 ∷ two 0 1 ∷ [])
    ∷ line "25 before 26" later (refuses 25 3) (took 2 ++ refused 25 3 ∷ [])
    (two 1 0 ∷ two 0 0 ∷ two 0 0 ∷ [])
    ∷ line "work in the tick of the last S is not in the phases noted there" later accepts (took 2 ++ accepted ∷ [])
    (two 0 0 ∷ two 1 2 ∷ two 0 0 ∷ [])
    ∷ line "a deadline on the tick of the next release is met by the tick before" later accepts (took 2 ++ accepted ∷ [])
    (two 0 0 ∷ two 2 1 ∷ two 0 0 ∷ [])
    ∷ line "one task, one job a period: the phases agree, the parity does not" single accepts (took 1 ++ accepted ∷ [])
    (one 1 ∷ one 0 ∷ [])
    ∷ line "the job done in its second tick" single accepts (took 1 ++ accepted ∷ [])
    (one 0 ∷ one 1 ∷ [])
    ∷ line "D below T: the deadline before the release of the next" short (refuses 25 1) (took 1 ++ refused 25 1 ∷ [])
    (one 0 ∷ one 1 ∷ [])
    ∷ line "D below T: nothing owed after the end" short (refuses 24 1) (took 1 ++ refused 24 1 ∷ [])
    (one 1 ∷ one 1 ∷ [])
    ∷ line "a job may stop and go on: open at the last S and on the horizon with one of its two ticks" open_at_s accepts (took 6 ++ accepted ∷ [])
    rows_open
    ∷ line "26: on the horizon with both" open_at_s (refuses 26 7) (took 6 ++ refused 26 7 ∷ [])
    (one 1 ∷ one 0 ∷ one 0 ∷ one 1 ∷ one 2 ∷ one 1 ∷ one 1 ∷ [])
    ∷ line "26: on the horizon with none" open_at_s (refuses 26 7) (took 6 ++ refused 26 7 ∷ [])
    (one 1 ∷ one 0 ∷ one 0 ∷ one 1 ∷ one 2 ∷ one 0 ∷ one 0 ∷ [])
    ∷ line "an offset: nothing before it" offset accepts (took 4 ++ accepted ∷ [])
    (one 0 ∷ one 0 ∷ one 1 ∷ one 0 ∷ one 0 ∷ [])
    ∷ line "an offset: the work in the second tick" offset accepts (took 4 ++ accepted ∷ [])
    (one 0 ∷ one 0 ∷ one 0 ∷ one 1 ∷ one 0 ∷ [])
    ∷ line "an offset: the deadline, inside the plan" offset (refuses 25 4) (took 4 ++ refused 25 4 ∷ [])
    (one 0 ∷ one 0 ∷ one 0 ∷ one 0 ∷ one 1 ∷ [])
    ∷ line "fenced cores" fenced_a accepts (took 4 ++ accepted ∷ [])
    (five 255 1 1 255 3 ∷ five 255 1 1 255 3 ∷ five 255 2 2 255 3 ∷ five 255 2 2 255 3 ∷ five 255 2 2 255 0 ∷ [])
    ∷ line "24: a fenced core without 255" fenced_a (refuses 24 0) (refused 24 0 ∷ [])
    (five 255 1 1 0 3 ∷ [])
    ∷ line "24: a position on a fenced core" fenced_a (refuses 24 0) (refused 24 0 ∷ [])
    (five 255 0 1 1 3 ∷ [])
    ∷ line "24: 255 on another" fenced_a (refuses 24 0) (refused 24 0 ∷ [])
    (five 255 255 1 255 3 ∷ [])
    ∷ line "11: the unfenced cores alone" fenced_a (refuses 11 0) (refused 11 0 ∷ [])
    (three 1 1 3 ∷ [])
    ∷ line "two widths, each its job's" pairs accepts (took 1 ++ accepted ∷ [])
    (two 1 0 ∷ two 1 1 ∷ [])
    ∷ line "two widths, on either core" pairs accepts (took 1 ++ accepted ∷ [])
    (two 0 1 ∷ two 1 1 ∷ [])
    ∷ line "24: the width of the even jobs for an odd one" pairs (refuses 24 0) (refused 24 0 ∷ [])
    (two 1 1 ∷ [])
    ∷ line "24: the width of the odd jobs for an even one" pairs (refuses 24 1) (took 1 ++ refused 24 1 ∷ [])
    (two 1 0 ∷ two 1 0 ∷ [])
    ∷ []

-- every line is its value by the definitions: one table with one check
pub examples : map computes lines ≡ lines
unfolding row_answers_from outcome_from begin_of check_row_of check_row_answer answer_at final_answer differs missed state_out faulty any_unknown_byte worked_row cell_count started_run map_first run_out past_count
    answer_of by_walk by_tasks by_horizon first_out ending_of last_step header_number table_of chain count visited computing
examples = refl

-- the rows of the tool's own plan of A are those of the first line, under rule 1 and with a fence; rule 2's verdict on A is a miss
pub own-rows :
    (plan_rows (table_of (ruled_a 1)) ≡ rows_a)
    × (plan_rows (table_of fenced_a) ≡ five 255 1 1 255 3 ∷ five 255 1 1 255 3 ∷ five 255 2 2 255 3 ∷ five 255 2 2 255 3 ∷ five 255 2 2 255 0 ∷ [])
    × (plan_rows (table_of pairs) ≡ two 1 0 ∷ two 1 1 ∷ [])
    × (verdict (table_of (ruled_a 2)) ≡ Miss 5 3)
unfolding full_rows_from table_of chain count visited computing
own-rows = (refl, refl, refl, refl)

-- the rows of `later` for all ticks, as the first of its accepted plans repeats: the last S is 1, so that the first row never comes again
pub for-ever :
    map (repeated (table_of later) (two 0 0 ∷ two 1 2 ∷ two 0 0 ∷ [])) (up_from 0 8)
    ≡ two 0 0 ∷ two 1 2 ∷ two 0 0 ∷ two 1 2 ∷ two 0 0 ∷ two 1 2 ∷ two 0 0 ∷ two 1 2 ∷ []
unfolding table_of chain count visited computing
for-ever = refl

-- the phases of a plan of `open_at_s` up to the horizon, by the rows: at the last S, 3, and on the horizon, 7, task 1 is as far, and so is task 2
pub phases :
    (map (phase_by (table_of open_at_s) (row_at rows_open) 0) (up_from 0 8)
    ≡ Working 0 0 0 ∷ Working 1 1 1 ∷ Working 2 1 1 ∷ Working 3 1 1 ∷ Working 0 0 0 ∷ Working 1 0 0 ∷ Working 2 1 1 ∷ Working 3 1 1 ∷ [])
    × (map (phase_by (table_of open_at_s) (row_at rows_open) 1) (up_from 0 8)
    ≡ Coming 3 ∷ Coming 2 ∷ Coming 1 ∷ Working 0 0 0 ∷ Working 1 0 0 ∷ Resting 2 ∷ Resting 3 ∷ Working 0 0 0 ∷ [])
unfolding phase_by ticks cell_count table_of chain count visited computing
phases = (refl, refl)
