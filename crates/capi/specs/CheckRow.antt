-- The results of begin and take, where the supplied plan is held in a lent buffer of words (request 112).
use Rattle.std.specs.Prelude.{List, [], ◌∷◌, ℕ, length}
use Rattle.plan_check.specs.Begin.{begin_of}
use Rattle.buffers.specs.AnswerWords.{answer_fits, slices_fit, of_given, answer_written, of_taken}
use Rattle.capi.specs.Calls.{CallResult, by_room}
use Rattle.buffers.specs.Supplied.{plan_words, decode_plan}
use Rattle.buffers.specs.CheckRow.{begun_in, check_row_from}

-- begin: the plan, and the answer, 0 begun, 3 Refused number position
unfoldable pub begin_call : List ℕ → List ℕ → List ℕ → CallResult
begin_call ws buffer answer =
    by_room (slices_fit (length buffer) plan_words answer)
    (begun_in ws buffer ∷ (answer_written (of_given (begin_of ws).answer 0) answer ∷ []))
    (buffer ∷ (answer ∷ []))

unfoldable pub check_row_call : List ℕ → List ℕ → List ℕ → CallResult
check_row_call buffer row answer =
    let a = check_row_from (decode_plan buffer) row buffer in
    by_room (answer_fits answer) (a.buffer ∷ (answer_written (of_taken a.answer) answer ∷ [])) (buffer ∷ (answer ∷ []))
