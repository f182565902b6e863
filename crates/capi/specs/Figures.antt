-- The results of the calls that give a number for each task: 32 numbers in a lent buffer of words, and the answer.
use Rattle.std.specs.Prelude.{List, [], ◌∷◌, ◌++◌, ℕ, length, drop}
use Rattle.model.specs.Sizes.{most_tasks}
use Rattle.table.specs.Answer.{Answer}
use Rattle.response_time.specs.ResponseTimes.{response_times_of}
use Rattle.slack.specs.Answer.{slack_of}
use Rattle.interference.specs.Bounds.{Bounds}
use Rattle.interference.specs.Bounds.{bounds_of}
use Rattle.buffers.specs.AnswerWords.{slices_fit, of_given, answer_written, met_word}
use Rattle.capi.specs.Calls.{CallResult, by_room}

-- 32 numbers in front, and the answer
unfoldable pub figures_call : Answer → List ℕ → List ℕ → List ℕ → CallResult
figures_call given found figures answer =
    by_room (slices_fit (length figures) most_tasks answer)
    ((found ++ drop most_tasks figures) ∷ (answer_written (of_given given 0) answer ∷ []))
    (figures ∷ (answer ∷ []))

-- the worst-case response time of each task; those past the count and all of a refusal are 0
abbrev pub response_times_call : List ℕ → List ℕ → List ℕ → CallResult
response_times_call ws figures answer = figures_call (response_times_of ws).answer (response_times_of ws).responses figures answer

-- the slack of each task; those past the count and all of a refusal are 0
abbrev pub slack_call : List ℕ → List ℕ → List ℕ → CallResult
slack_call ws figures answer = figures_call (slack_of ws).answer (slack_of ws).slack figures answer

-- 32 bounds in front, and the answer
unfoldable pub bounds_call_of : Bounds → List ℕ → List ℕ → CallResult
bounds_call_of b figures answer =
    by_room (slices_fit (length figures) most_tasks answer)
    ((b.tested.bounds ++ drop most_tasks figures) ∷ (answer_written (of_given b.answer (met_word b.tested.met)) answer ∷ []))
    (figures ∷ (answer ∷ []))

-- the response-time bound of each task of a table that passes the interference test; those past the count are 0, and all where it does not or is refused
abbrev pub bounds_call : List ℕ → List ℕ → List ℕ → CallResult
bounds_call ws figures answer = bounds_call_of (bounds_of ws) figures answer
