-- The answer of a replay, and the result of a call of it.
use Rattle.std.specs.Prelude.{◌&&◌, List, [], ◌∷◌, ℕ}
use Rattle.refinement.specs.Replay.{ReplayOutcome, replay_of}
use Rattle.buffers.specs.AnswerWords.{answer_fits, answer_written, fitted, of_replayed}
use Rattle.capi.specs.Calls.{CallResult, by_room}

-- the outcome of the replay, where every lent slice fits; else everything as found
abbrev pub by_outcome : ReplayOutcome → List ℕ → List ℕ → List ℕ → CallResult
by_outcome o numbers row answer =
    by_room (answer_fits answer && fitted o.answer)
    (o.numbers ∷ (o.bytes ∷ (answer_written (of_replayed o.answer) answer ∷ [])))
    (numbers ∷ (row ∷ (answer ∷ [])))

unfoldable pub replay_call : List ℕ → List ℕ → List ℕ → List ℕ → List ℕ → CallResult
replay_call ws es numbers row answer = by_outcome (replay_of ws es numbers row) numbers row answer
