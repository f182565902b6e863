-- The results of the calls on a sentence: its bytes in a lent buffer, and the facts that bytes are parsed to, in words.
use Rattle.std.specs.Prelude.{List, [], ◌∷◌, ◌++◌, ℕ, length, drop}
use Rattle.sentence.specs.Parsed.{parsed}
use Rattle.sentence.specs.Waiting.{facts_of}
use Rattle.sentence.specs.SentenceAnswer.{sentence_answer_of, sentence_meaning, left_in}
use Rattle.buffers.specs.AnswerWords.{answer_fits, slices_fit, of_sentence, answer_written, of_parsed}
use Rattle.capi.specs.Calls.{CallResult, by_room}
use Rattle.buffers.specs.Facts.{fact_words, fact_words_of}

-- the sentence at the front of the buffer, which a refusal leaves as found, and the answer
unfoldable pub sentence_call : List ℕ → List ℕ → List ℕ → CallResult
sentence_call ws buffer answer =
    let v = sentence_answer_of ws (length buffer) in
    by_room (answer_fits answer) (left_in (sentence_meaning v) (facts_of ws) buffer ∷ (answer_written (of_sentence v) answer ∷ [])) (buffer ∷ (answer ∷ []))

-- facts: those that the bytes are parsed to, in front, and the answer
unfoldable pub facts_call : List ℕ → List ℕ → List ℕ → CallResult
facts_call bs words answer =
    by_room (slices_fit (length words) fact_words answer)
    ((fact_words_of (parsed bs) ++ drop fact_words words) ∷ (answer_written (of_parsed (parsed bs)) answer ∷ []))
    (words ∷ (answer ∷ []))
