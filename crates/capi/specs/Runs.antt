-- The results of start, row, sets, working, advance and the withdrawals, where the run is held in a lent buffer of words.
use Rattle.std.specs.Prelude.{List, [], ◌∷◌, ◌++◌, ℕ, length, drop}
use Rattle.run.specs.Start.{start_of}
use Rattle.buffers.specs.AnswerWords.{answer_fits, slices_fit, of_answer, answer_written}
use Rattle.capi.specs.Calls.{CallResult, by_room}
use Rattle.buffers.specs.Encoding.{run_words, decode}
use Rattle.model.specs.Advance.{Entry, advance, withdraw, withdraw_all}
use Rattle.model.specs.Sizes.{most_cores, most_tasks}
use Rattle.buffers.specs.Runs.{started_in, row_from, sets_from, working_from, entry_from}

-- start: the run, and the answer
unfoldable pub start_call : List ℕ → List ℕ → List ℕ → CallResult
start_call ws buffer answer =
    by_room (slices_fit (length buffer) run_words answer)
    (started_in ws buffer ∷ (answer_written (of_answer (start_of ws).answer) answer ∷ []))
    (buffer ∷ (answer ∷ []))

-- row: its 64 bytes in front, all zeros in a refusal
unfoldable pub row_call : List ℕ → ℕ → List ℕ → List ℕ → CallResult
row_call buffer e row answer =
    let w = row_from (decode buffer) e in
    by_room (slices_fit (length row) most_cores answer)
    ((w.bytes ++ drop most_cores row) ∷ (answer_written (of_answer w.answer) answer ∷ []))
    (row ∷ (answer ∷ []))

-- sets: 32 of them in front, all zeros in a refusal
unfoldable pub sets_call : List ℕ → ℕ → List ℕ → List ℕ → CallResult
sets_call buffer e sets answer =
    let w = sets_from (decode buffer) e in
    by_room (slices_fit (length sets) most_tasks answer)
    ((w.sets ++ drop most_tasks sets) ∷ (answer_written (of_answer w.answer) answer ∷ []))
    (sets ∷ (answer ∷ []))

-- working: the set in the first word, 0 in a refusal
unfoldable pub working_call : List ℕ → ℕ → List ℕ → List ℕ → CallResult
working_call buffer e set answer =
    let w = working_from (decode buffer) e in
    by_room (slices_fit (length set) 1 answer)
    ((w.set ∷ drop 1 set) ∷ (answer_written (of_answer w.answer) answer ∷ []))
    (set ∷ (answer ∷ []))

-- an entry on the run that the buffer holds, and the answer
unfoldable pub entry_call : Entry → List ℕ → List ℕ → CallResult
entry_call x buffer answer =
    let a = entry_from (decode buffer) x buffer in
    by_room (answer_fits answer) (a.buffer ∷ (answer_written (of_answer a.answer) answer ∷ [])) (buffer ∷ (answer ∷ []))

-- an advance with reports x and empties e
abbrev pub advance_call : List ℕ → ℕ → ℕ → List ℕ → CallResult
advance_call buffer x e answer = entry_call (advance x e) buffer answer

-- the withdrawal of position p
abbrev pub withdraw_call : List ℕ → ℕ → List ℕ → CallResult
withdraw_call buffer p answer = entry_call (withdraw p) buffer answer

-- the withdrawal of all positions of set x
abbrev pub withdraw_all_call : List ℕ → ℕ → List ℕ → CallResult
withdraw_all_call buffer x answer = entry_call (withdraw_all x) buffer answer
