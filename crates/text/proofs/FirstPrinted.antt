-- The verdict's line alone: it is the first line of all that is printed for the bytes, and as many of them decide it.
use mathlib.Core.List.{List, [], ◌++◌, append-nil}
use mathlib.Core.Path.{◌≡◌, sym, ap}
use Prim.Native.Nat.{ℕ}
use native.Mathlib.Omega.{arith}
use lib.ListN.{take}
use Rattle.model.specs.Task.{Table}
use Rattle.model.specs.Verdict.{verdict}
use Rattle.model.specs.Horizon.{horizon}
use Rattle.table.specs.Answer as loaded
use Rattle.table.specs.Answer.{Passed, Refused}
use Rattle.table.specs.Words.{table_of}
use Rattle.table.specs.Answer.{answer_of, header_number}
use Rattle.judge.specs.Judged.{judged_by, verdict_of}
use Rattle.judge.specs.JudgeAnswer.{judged, verdict_meaning, verdict_case}
use Rattle.judge.proofs.Contract.{meaning-case}
use Rattle.text.specs.Format.{enough_bytes, Words, read_words, no_text, words_of, numbers_in}
use Rattle.text.specs.Output.{first_line, row_lines, rows_printed, printed, printed_by, output_of, output}
use Rattle.text.specs.FirstLine.{first_for}
use Rattle.text.proofs.Exact.{first-enough}

-- by what is answered to the words
first_of : (a : loaded.Answer) (s : Table) → (rows : List ℕ) × (printed_by a s ≡ first_line (verdict_meaning (verdict_case (judged_by a s))) ++ rows)
unfolding printed
first_of Passed s = (row_lines s 0 (rows_printed (verdict s) (horizon s)), ap (λ x. first_line x ++ row_lines s 0 (rows_printed (verdict s) (horizon s))) (sym (meaning-case (judged (verdict s)))))
first_of (Refused n p) s = ([], sym (append-nil (first_line (verdict_meaning (verdict_case (judged_by (Refused n p) s))))))

-- no numbers are turned down with 1, as what is no table's text
first-none : (rows : List ℕ) × (output_of no_text ≡ first_line (verdict_meaning (verdict_of [])) ++ rows)
unfolding verdict_of answer_of header_number
first-none = ([], sym (append-nil (output_of no_text)))

-- THEOREM (first-printed): all that is printed begins with that line
pub first-printed : (bs : List ℕ) → (rows : List ℕ) × (output bs ≡ first_for bs ++ rows)
unfolding output first_for verdict_of
first-printed bs = go (words_of bs)
  where
    go : (w : Words) → (rows : List ℕ) × (output_of w ≡ first_line (verdict_meaning (verdict_of (numbers_in w))) ++ rows)
    go (read_words ws) = first_of (answer_of ws) (table_of ws)
    go no_text = first-none

-- so the first 2,520 bytes of an input decide it
pub first-line-enough : (bs : List ℕ) → first_for (take enough_bytes bs) ≡ first_for bs
unfolding first_for
first-line-enough bs = ap (λ w. first_line (verdict_meaning (verdict_of (numbers_in w)))) (first-enough bs enough_bytes (omega arith))
