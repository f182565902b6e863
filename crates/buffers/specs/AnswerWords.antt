-- An answer in three words: the case and its two numbers, 0 where it has none.
use Rattle.std.specs.Prelude.{Bool, true, false, cond, ◌&&◌, List, ◌∷◌, ◌≡◌, ℕ, ◌≤◌, leb, length, drop, Result}
use Rattle.std.specs.Result.{result_unwrap_or}
use Rattle.model.specs.declared.refusal.Refusal.{Refusal}
use Rattle.model.specs.Sizes.{most_word}
use Rattle.table.specs.Answer as table
use Rattle.judge.specs.declared.Verdict.{Verdict}
use Rattle.judge.specs.declared.Verdict.TheVariants as judge
use Rattle.plan.specs.Plan.{Planned}
use Rattle.plan.specs.Plan as plan
use Rattle.run.specs.Answer.{Answer}
use Rattle.run.specs.Answer as run
use Rattle.sentence.specs.SentenceAnswer.{SentenceAnswer}
use Rattle.sentence.specs.SentenceAnswer as sentence
use Rattle.plan_check.specs.RowAnswer as plan_check
use Rattle.refinement.specs.Replayed.{Replayed}
use Rattle.refinement.specs.Replayed as refinement
use Rattle.sentence.specs.Parsed as parsed
use Rattle.sentence.specs.SentenceAnswer.{sentence_meaning, of_length}
use Rattle.buffers.specs.declared.answer_words.AnswerWords.{AnswerWords}

-- a case and its two numbers
abbrev pub answer_words : ℕ → ℕ → ℕ → AnswerWords
answer_words n a b = record { kind = n; first = a; second = b }

-- the judge's four cases: 0 Firm S P, 1 Full S P, 2 Miss tick position, 3 Refused number position
abbrev pub of_verdict : Verdict → AnswerWords
of_verdict (judge.Firm s p) = answer_words 0 s p
of_verdict (judge.Full s p) = answer_words 1 s p
of_verdict (judge.Miss t p) = answer_words 2 t p
of_verdict (judge.Refused n p) = answer_words 3 n p

-- the plan's two cases: 0 written, 3 Refused number position
abbrev pub of_planned : Planned → AnswerWords
of_planned plan.Written = answer_words 0 0 0
of_planned (plan.Refused n p) = answer_words 3 n p

-- start, row, sets, advance and the withdrawals: 0 taken, 3 Refused number position
abbrev pub of_answer : Answer → AnswerWords
of_answer run.Taken = answer_words 0 0 0
of_answer (run.Refused n p) = answer_words 3 n p

-- the sentence: 0 its length, 3 Refused number position
abbrev pub of_sentence : SentenceAnswer → AnswerWords
of_sentence (sentence.Length n) = answer_words 0 n 0
of_sentence (sentence.Refused n p) = answer_words 3 n p

-- the response times and the conflict: 0 given, with a number beside it, 3 Refused number position
abbrev pub of_given : table.Answer → ℕ → AnswerWords
of_given table.Passed x = answer_words 0 x 0
of_given (table.Refused n p) x = answer_words 3 n p

-- .. as code returns it: given with a number beside it, or refused
abbrev pub of_result : Result ℕ Refusal → AnswerWords
of_result r = of_given (table.answer_in r) (result_unwrap_or r 0)

-- take's three cases: 0 taken, 6 accepted, 3 Refused number tick
abbrev pub of_taken : plan_check.Answer → AnswerWords
of_taken plan_check.Taken = answer_words 0 0 0
of_taken plan_check.Accepted = answer_words 6 0 0
of_taken (plan_check.Refused n t) = answer_words 3 n t

-- the replay's own lent slices fit: there is space, and the words of the list are one
abbrev pub fitted : Replayed → Bool
fitted refinement.Shown = true
fitted (refinement.RowRefused n p) = true
fitted (refinement.Refused n p) = true
fitted refinement.Unfit = false

-- 0 the last row shown, 4 the last row refused, 3 the start refused (refinement.Unfit is no case of an answer: `fitted`)
abbrev pub of_replayed : Replayed → AnswerWords
of_replayed refinement.Shown = answer_words 0 0 0
of_replayed (refinement.RowRefused n p) = answer_words 4 n p
of_replayed (refinement.Refused n p) = answer_words 3 n p
of_replayed refinement.Unfit = answer_words 0 0 0

-- whether bytes are parsed: 0 if they are, 5 where they are no sentence
abbrev pub of_read_back : Bool → AnswerWords
of_read_back true = answer_words 0 0 0
of_read_back false = answer_words 5 0 0

-- .. by what they are parsed to
abbrev pub of_parsed : parsed.ParsedSentence → AnswerWords
of_parsed (parsed.facts f) = of_read_back true
of_parsed parsed.none = of_read_back false

-- beside a table that is not refused: 1 where it passes the interference test, 0 where it does not
abbrev pub met_word : Bool → ℕ
met_word t = cond t 1 0

-- a length fits in a word
abbrev pub FitsWord : SentenceAnswer → Type 0
FitsWord v = (n : ℕ) → sentence_meaning v ≡ of_length n → n ≤ most_word

-- the words of an answer
abbrev pub answer_size : ℕ
answer_size = 3

-- the slice `answer` has space for them
abbrev pub answer_fits : List ℕ → Bool
answer_fits answer = leb answer_size (length answer)

-- .. and another lent slice of `have` elements has the `need` that a call writes; 0 and 0 where there is none
abbrev pub slices_fit : ℕ → ℕ → List ℕ → Bool
slices_fit have need answer = leb need have && answer_fits answer

-- the lent slice afterwards: the three words, and the words after them as found
abbrev pub answer_written : AnswerWords → List ℕ → List ℕ
answer_written t old = t.kind ∷ (t.first ∷ (t.second ∷ drop answer_size old))
