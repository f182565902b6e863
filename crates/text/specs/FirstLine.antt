-- The first line, and the number of rows after it, by the judge's answer.
use Rattle.std.specs.Prelude.{List, ℕ}
use Rattle.judge.specs.declared.Verdict.{Verdict}
use Rattle.judge.specs.JudgeAnswer.{JudgeAnswer, judged, refused, verdict_meaning}
use Rattle.judge.specs.Judged.{verdict_of}
use Rattle.text.specs.Format.{words_of, numbers_in}
use Rattle.text.specs.Output.{first_line, rows_printed}

-- the number of rows printed after the first line; none after a refusal
abbrev rows_after : JudgeAnswer → ℕ → ℕ
rows_after (judged v) h = rows_printed v h
rows_after (refused n p) h = 0

-- the number of rows printed of a table whose horizon is h, by the judge's answer
abbrev pub end_of : Verdict → ℕ → ℕ
end_of v h = rows_after (verdict_meaning v) h

-- the first line that is printed for the bytes that a program reads (`first-printed`)
unfoldable pub first_for : List ℕ → List ℕ
first_for bs = first_line (verdict_meaning (verdict_of (numbers_in (words_of bs))))
