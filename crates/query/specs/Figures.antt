-- A number for each task as it is printed: a line for each, its position and the number.
use Rattle.std.specs.Prelude.{Bool, cond, List, [], ◌∷◌, ◌++◌, ℕ, suc}
use Rattle.judge.specs.JudgeAnswer.{refused}
use Rattle.table.specs.Answer.{Answer}
use Rattle.table.specs.Answer.{Passed, Refused}
use Rattle.text.specs.Decimal.{decimal}
use Rattle.text.specs.Format.{newline}
use Rattle.text.specs.Output.{letters, line_of, first_line}

-- the lines of numbers, of which the first is that of place q
unfoldable pub figure_lines : ℕ → List ℕ → List ℕ
figure_lines q [] = []
figure_lines q (x ∷ xs) = line_of (decimal (suc q)) (x ∷ []) ++ figure_lines (suc q) xs

-- by the answer: a line for each task, or the refusal
abbrev pub figure_lines_by : Answer → List ℕ → List ℕ
figure_lines_by Passed xs = figure_lines 0 xs
figure_lines_by (Refused n p) xs = first_line (refused n p)

-- a table that does not pass the interference test has no bounds: `none`, or the refusal
abbrev pub no_bounds_line : Answer → List ℕ
no_bounds_line Passed = letters "none" ++ (newline ∷ [])
no_bounds_line (Refused n p) = first_line (refused n p)

-- by whether it passes
abbrev pub bound_lines_by : Bool → Answer → List ℕ → List ℕ
bound_lines_by met a xs = cond met (figure_lines_by a xs) (no_bounds_line a)
