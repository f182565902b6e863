-- The answer to a question on a table: the first line of the input is the question's word, and the table follows.
use Rattle.std.specs.Prelude.{Result, Ok, Err, cond, List, [], ◌∷◌, ◌++◌, ℕ, ◌+◌, ◌≡◌, ◌≤◌, length, take, drop}
use Rattle.model.specs.declared.refusal.Refusal.{Refusal}
use Rattle.model.specs.Refusal.{number_of, position_of}
use Rattle.table.specs.Words.{table_of}
use Rattle.judge.specs.JudgeAnswer.{refused, verdict_meaning}
use Rattle.judge.specs.Judged.{verdict_of}
use Rattle.text.specs.Format.{newline, enough_bytes, words_of, numbers_in}
use Rattle.text.specs.Output.{letters, first_line}
use Rattle.sentence.specs.Sentence.{sentence_text}
use Rattle.sentence.specs.Waiting.{facts_of}
use Rattle.sentence.specs.Reading.{starts_with}
use Rattle.sentence.specs.SentenceAnswer.{SentenceOutcome, of_length, refused_by, sentence_meaning, sentence_answer_of}
use Rattle.response_time.specs.ResponseTimes.{response_times_of}
use Rattle.conflict.specs.Answer.{conflict_of}
use Rattle.slack.specs.Answer.{slack_of}
use Rattle.interference.specs.Bounds.{bounds_of}
use Rattle.query.specs.declared.Question.{Question}
use Rattle.query.specs.declared.Question.TheVariants.{Why, ResponseTimes, Conflict, Slack, Bounds, Verdict}
use Rattle.query.specs.Figures.{bound_lines_by, figure_lines_by}
use Rattle.query.specs.Positions.{positions_by}

-- the most bytes of an answer: a sentence, of at most 700 bytes while ticks are at most 1,000,000,000, and a newline
abbrev pub answer_room : ℕ
answer_room = 700 + 1

-- the line of a refusal
abbrev pub refusal_line : Refusal → List ℕ
refusal_line e = first_line (refused (number_of e) (position_of e))

-- a text is at the front of the lines, where it ends at n; or it is the line of a refusal, for which there is space
abbrev pub PutOf : List ℕ → List ℕ → Result ℕ Refusal → Type 0
PutOf text lines (Ok n) = (n ≤ answer_room) × (take n lines ≡ text)
PutOf text lines (Err e) = (length lines ≡ answer_room) × (refusal_line e ≡ text)

-- the verdict's line
abbrev pub verdict_text : List ℕ → List ℕ
verdict_text ws = first_line (verdict_meaning (verdict_of ws))

-- the answer by that of `sentence`: the sentence and a newline, or the refusal, with 17 where the table has no miss
abbrev pub why_by : SentenceOutcome → List ℕ → List ℕ
why_by (of_length n) ws = sentence_text (facts_of ws) ++ (newline ∷ [])
why_by (refused_by n p) ws = first_line (refused n p)

-- why a table misses
unfoldable pub why_of : List ℕ → List ℕ
why_of ws = why_by (sentence_meaning (sentence_answer_of ws answer_room)) ws

-- the worst-case response time of each task, or the refusal
unfoldable pub response_times_text : List ℕ → List ℕ
response_times_text ws = figure_lines_by (response_times_of ws).answer (take (length (table_of ws).tasks) (response_times_of ws).responses)

-- the positions of the tasks in conflict, or the refusal
unfoldable pub conflict_text : List ℕ → List ℕ
conflict_text ws = positions_by (conflict_of ws).answer (conflict_of ws).kept

-- the slack of each task, or the refusal
unfoldable pub slack_text : List ℕ → List ℕ
slack_text ws = figure_lines_by (slack_of ws).answer (take (length (table_of ws).tasks) (slack_of ws).slack)

-- the response-time bound of each task where the table passes the interference test, or `none` where it does not, or the refusal
unfoldable pub bounds_text : List ℕ → List ℕ
bounds_text ws =
    bound_lines_by (bounds_of ws).tested.met (bounds_of ws).answer (take (length (table_of ws).tasks) (bounds_of ws).tested.bounds)

-- the answer to a question on the words of a table
abbrev pub answer_to : Question → List ℕ → List ℕ
answer_to Why ws = why_of ws
answer_to ResponseTimes ws = response_times_text ws
answer_to Conflict ws = conflict_text ws
answer_to Slack ws = slack_text ws
answer_to Bounds ws = bounds_text ws
answer_to Verdict ws = verdict_text ws

-- the word of a question and a newline
abbrev pub word_of : Question → List ℕ
word_of Why = letters "why" ++ (newline ∷ [])
word_of ResponseTimes = letters "longest" ++ (newline ∷ [])
word_of Conflict = letters "clash" ++ (newline ∷ [])
word_of Slack = letters "spare" ++ (newline ∷ [])
word_of Bounds = letters "bounds" ++ (newline ∷ [])
word_of Verdict = letters "verdict" ++ (newline ∷ [])

-- .. on the table after the word
abbrev pub answer_after_word : Question → List ℕ → List ℕ
answer_after_word q bs = answer_to q (numbers_in (words_of (drop (length (word_of q)) bs)))

-- the answer where the first line is no question
abbrev pub no_question : List ℕ
no_question = letters "no such question" ++ (newline ∷ [])

-- the first of these questions whose word is in front is answered
unfoldable pub query_output_of : List Question → List ℕ → List ℕ
query_output_of [] bs = no_question
query_output_of (q ∷ qs) bs = cond (starts_with (word_of q) bs) (answer_after_word q bs) (query_output_of qs bs)

-- all questions; no word is the beginning of another's
abbrev pub questions : List Question
questions = Why ∷ ResponseTimes ∷ Conflict ∷ Slack ∷ Bounds ∷ Verdict ∷ []

-- everything that is printed for the bytes of an input
unfoldable pub query_output : List ℕ → List ℕ
query_output bs = query_output_of questions bs

-- the number of bytes of an input that are enough (`asked-enough`): the longest word's, and a table's
abbrev pub enough_input : ℕ
enough_input = length (word_of ResponseTimes) + enough_bytes
