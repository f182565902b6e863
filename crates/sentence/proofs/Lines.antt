-- Sentences of tables computed from the definitions: A2 and F, what counts as waiting and which tasks have a part, rules 3 and 4, tasks with two widths, and 17
-- and 18 from both sides; one list, one check.
use mathlib.Core.Path.{◌≡◌, refl}
use mathlib.Core.List.{List, [], ◌∷◌, map}
use Prim.Native.Nat.{ℕ, zero, suc}
use Prim.Native.String.{String}
use Rattle.model.proofs.Computing.{computing}
use Rattle.table.specs.Words.{visited, count, chain, table_of}
use Rattle.table.specs.Answer.{header_number, last_step, ending_of, first_out, by_horizon, by_tasks, by_walk, answer_of}
use Rattle.text.specs.Decimal.{decimal, last_digits, digit_count, digits_within}
use Rattle.text.specs.Output.{letters}
use Rattle.sentence.specs.Facts.{named_from}
use Rattle.sentence.specs.Sentence.{parts, sentence_head, sentence_text}
use Rattle.sentence.specs.Waiting.{tally, ran_while_waiting, miss_place, facts_in, facts_of}
use Rattle.sentence.specs.SentenceAnswer.{by_buffer, by_table, sentence_answer_of, SentenceOutcome, of_length, refused_by, sentence_meaning, left_in}

-- a line: its name, the words of a table, how many bytes the buffer has, the answer, and the sentence, nothing in a refusal
pub record Line : Type 0 where
  pub name : String
  pub words : List ℕ
  pub bytes : ℕ
  pub result : SentenceOutcome
  pub text : String

abbrev line : String → List ℕ → ℕ → SentenceOutcome → String → Line
line s ws n a x = record { name = s; words = ws; bytes = n; result = a; text = x }

-- a table that misses, with a buffer of 100 bytes, and its sentence
abbrev misses : String → List ℕ → ℕ → String → Line
misses s ws n x = line s ws 100 (of_length n) x

-- what is answered, and what then is at the front of the buffer
pub record Outcome : Type 0 where
  pub result : SentenceOutcome
  pub bytes : List ℕ

abbrev pub outcome : SentenceOutcome → List ℕ → Outcome
outcome a bs = record { result = a; bytes = bs }

-- F: one core, (0,1,2,1,2), rule 1; A: three cores, rule 2 for A2
abbrev words_f : List ℕ
words_f = 1 ∷ 1 ∷ 1 ∷ 0 ∷ 0 ∷ 0 ∷ 0 ∷ 1 ∷ 2 ∷ 1 ∷ 2 ∷ 1 ∷ []

abbrev table_a : ℕ → List ℕ
table_a rule = 1 ∷ 3 ∷ rule ∷ 0 ∷ 0 ∷ 2 ∷ 0 ∷ 2 ∷ 2 ∷ 5 ∷ 5 ∷ 2 ∷ 3 ∷ 0 ∷ 2 ∷ 3 ∷ 5 ∷ 5 ∷ 2 ∷ 0 ∷ 0 ∷ 1 ∷ 4 ∷ 5 ∷ 5 ∷ 1 ∷ []

-- 32 tasks on 64 cores: 31 of width 2, and then one of width 3, which does not fit; all have one tick of one
abbrev contention : List ℕ
contention = 1 ∷ 64 ∷ 1 ∷ 0 ∷ 0 ∷ narrow 1 31
  where
    narrow : ℕ → ℕ → List ℕ
    narrow k zero = 0 ∷ 0 ∷ 3 ∷ 1 ∷ 1 ∷ 1 ∷ 3 ∷ []
    narrow k (suc n) = suc k ∷ 0 ∷ 2 ∷ 1 ∷ 1 ∷ 1 ∷ 2 ∷ narrow (suc k) n

abbrev sentence_f : String
sentence_f = "task 1 misses at tick 1 with 1 of 2 ticks."

abbrev sentence_a2 : String
sentence_a2 = "task 3 misses at tick 5 with 3 of 4 ticks; task 1 ran 2."

-- a text and what is after it
abbrev joined : String → String → String
joined String.[] s = s
joined (String.◌∷◌ c r) s = String.◌∷◌ c (joined r s)

-- its 31 tasks above ran one tick each
abbrev sentence_contention : String
sentence_contention =
    joined "task 32 misses at tick 1 with 0 of 1 ticks; task 1 ran 1; task 2 ran 1; task 3 ran 1; task 4 ran 1; task 5 ran 1; task 6 ran 1; task 7 ran 1; task 8 ran 1; task 9 ran 1; task 10 ran 1;"
    (joined " task 11 ran 1; task 12 ran 1; task 13 ran 1; task 14 ran 1; task 15 ran 1; task 16 ran 1; task 17 ran 1; task 18 ran 1; task 19 ran 1; task 20 ran 1; task 21 ran 1;"
    " task 22 ran 1; task 23 ran 1; task 24 ran 1; task 25 ran 1; task 26 ran 1; task 27 ran 1; task 28 ran 1; task 29 ran 1; task 30 ran 1; task 31 ran 1.")

abbrev pub lines : List Line
lines =
    line "A2, where task 2 ran beside the late job only" (table_a 2) 56 (of_length 56) sentence_a2
    ∷ line "A2 in one byte less" (table_a 2) 55 (refused_by 18 0) ""
    ∷ line "F, whose C is above its D, in one byte more" words_f 43 (of_length 42) sentence_f
    ∷ line "F in just as many bytes" words_f 42 (of_length 42) sentence_f
    ∷ line "F in one byte less" words_f 41 (refused_by 18 0) ""
    ∷ line "A has no miss: 17 before 18" (table_a 1) 0 (refused_by 17 0) ""
    ∷ line "A: 17 for every buffer" (table_a 1) 99 (refused_by 17 0) ""
    ∷ line "a number of the table before both" (1 ∷ 0 ∷ 1 ∷ 0 ∷ 0 ∷ []) 0 (refused_by 2 0) ""
    ∷ misses "two late at one tick: the first in priority"
    (1 ∷ 1 ∷ 1 ∷ 0 ∷ 0 ∷ 2 ∷ 0 ∷ 1 ∷ 1 ∷ 2 ∷ 2 ∷ 1 ∷ 3 ∷ 0 ∷ 1 ∷ 2 ∷ 2 ∷ 2 ∷ 1 ∷ 0 ∷ 0 ∷ 1 ∷ 1 ∷ 2 ∷ 2 ∷ 1 ∷ []) 56
    "task 2 misses at tick 2 with 1 of 2 ticks; task 1 ran 1."
    ∷ misses "a task above ran four ticks, two of them beside the late job"
    (1 ∷ 2 ∷ 1 ∷ 0 ∷ 0 ∷ 2 ∷ 0 ∷ 1 ∷ 4 ∷ 4 ∷ 4 ∷ 1 ∷ 3 ∷ 0 ∷ 1 ∷ 2 ∷ 4 ∷ 4 ∷ 1 ∷ 0 ∷ 0 ∷ 1 ∷ 3 ∷ 4 ∷ 4 ∷ 1 ∷ []) 70
    "task 3 misses at tick 4 with 2 of 3 ticks; task 1 ran 2; task 2 ran 2."
    ∷ misses "the same under rule 3"
    (1 ∷ 2 ∷ 3 ∷ 0 ∷ 0 ∷ 2 ∷ 0 ∷ 1 ∷ 4 ∷ 4 ∷ 4 ∷ 1 ∷ 3 ∷ 0 ∷ 1 ∷ 2 ∷ 4 ∷ 4 ∷ 1 ∷ 0 ∷ 0 ∷ 1 ∷ 3 ∷ 4 ∷ 4 ∷ 1 ∷ []) 70
    "task 3 misses at tick 4 with 2 of 3 ticks; task 1 ran 2; task 2 ran 2."
    ∷ misses "and under rule 4: at full length nobody lends"
    (1 ∷ 2 ∷ 4 ∷ 0 ∷ 0 ∷ 2 ∷ 0 ∷ 1 ∷ 4 ∷ 4 ∷ 4 ∷ 1 ∷ 3 ∷ 0 ∷ 1 ∷ 2 ∷ 4 ∷ 4 ∷ 1 ∷ 0 ∷ 0 ∷ 1 ∷ 3 ∷ 4 ∷ 4 ∷ 1 ∷ []) 70
    "task 3 misses at tick 4 with 2 of 3 ticks; task 1 ran 2; task 2 ran 2."
    ∷ misses "a task above ran in a tick before the late job's release, which does not count"
    (1 ∷ 1 ∷ 1 ∷ 0 ∷ 0 ∷ 2 ∷ 0 ∷ 1 ∷ 2 ∷ 4 ∷ 4 ∷ 1 ∷ 0 ∷ 1 ∷ 1 ∷ 2 ∷ 2 ∷ 4 ∷ 1 ∷ []) 56
    "task 2 misses at tick 3 with 1 of 2 ticks; task 1 ran 1."
    ∷ misses "its job of an earlier release counts from then on"
    (1 ∷ 1 ∷ 1 ∷ 0 ∷ 0 ∷ 2 ∷ 0 ∷ 1 ∷ 3 ∷ 4 ∷ 4 ∷ 1 ∷ 0 ∷ 1 ∷ 1 ∷ 2 ∷ 3 ∷ 4 ∷ 1 ∷ []) 56
    "task 2 misses at tick 4 with 1 of 2 ticks; task 1 ran 2."
    ∷ misses "a task below that ran meanwhile is not named"
    (1 ∷ 2 ∷ 1 ∷ 0 ∷ 0 ∷ 2 ∷ 0 ∷ 1 ∷ 3 ∷ 3 ∷ 4 ∷ 1 ∷ 3 ∷ 0 ∷ 2 ∷ 1 ∷ 2 ∷ 4 ∷ 2 ∷ 0 ∷ 0 ∷ 1 ∷ 1 ∷ 4 ∷ 4 ∷ 1 ∷ []) 56
    "task 2 misses at tick 2 with 0 of 1 ticks; task 1 ran 2."
    ∷ misses "nor is a task above that did not run"
    (1 ∷ 2 ∷ 1 ∷ 0 ∷ 0 ∷ 2 ∷ 0 ∷ 1 ∷ 2 ∷ 4 ∷ 4 ∷ 1 ∷ 3 ∷ 3 ∷ 1 ∷ 1 ∷ 1 ∷ 4 ∷ 1 ∷ 4 ∷ 0 ∷ 1 ∷ 2 ∷ 4 ∷ 4 ∷ 1 ∷ 0 ∷ 0 ∷ 1 ∷ 2 ∷ 2 ∷ 4 ∷ 1 ∷ []) 70
    "task 4 misses at tick 2 with 0 of 2 ticks; task 1 ran 2; task 3 ran 2."
    ∷ misses "the same on four cores of which 0 and 2 are fenced"
    (1 ∷ 4 ∷ 1 ∷ 5 ∷ 0 ∷ 2 ∷ 0 ∷ 1 ∷ 2 ∷ 4 ∷ 4 ∷ 1 ∷ 3 ∷ 3 ∷ 1 ∷ 1 ∷ 1 ∷ 4 ∷ 1 ∷ 4 ∷ 0 ∷ 1 ∷ 2 ∷ 4 ∷ 4 ∷ 1 ∷ 0 ∷ 0 ∷ 1 ∷ 2 ∷ 2 ∷ 4 ∷ 1 ∷ []) 70
    "task 4 misses at tick 2 with 0 of 2 ticks; task 1 ran 2; task 3 ran 2."
    ∷ line "32 tasks" contention 499 (of_length 499) sentence_contention
    ∷ misses "its first job of width 1 ran beside the task above, its second of width 2 does not fit"
    (1 ∷ 2 ∷ 1 ∷ 0 ∷ 0 ∷ 2 ∷ 0 ∷ 1 ∷ 1 ∷ 1 ∷ 1 ∷ 1 ∷ 0 ∷ 0 ∷ 1 ∷ 1 ∷ 1 ∷ 1 ∷ 2 ∷ []) 56
    "task 2 misses at tick 2 with 0 of 1 ticks; task 1 ran 1."
    ∷ misses "a task above of widths 2 and 1 counts where it left no core, and not beside the late job"
    (1 ∷ 2 ∷ 1 ∷ 0 ∷ 0 ∷ 2 ∷ 0 ∷ 2 ∷ 1 ∷ 1 ∷ 1 ∷ 1 ∷ 0 ∷ 0 ∷ 1 ∷ 3 ∷ 4 ∷ 4 ∷ 1 ∷ []) 56
    "task 2 misses at tick 4 with 2 of 3 ticks; task 1 ran 2."
    ∷ []

abbrev pub computed : Line → Outcome
computed l = outcome (sentence_meaning (sentence_answer_of l.words l.bytes)) (left_in (sentence_meaning (sentence_answer_of l.words l.bytes)) (facts_of l.words) [])

abbrev pub expected : Line → Outcome
expected l = outcome l.result (letters l.text)

pub answer-lines : map computed lines ≡ map expected lines
unfolding sentence_answer_of by_table by_buffer sentence_text sentence_head parts named_from decimal last_digits digit_count digits_within facts_in miss_place ran_while_waiting tally
    answer_of by_walk by_tasks by_horizon first_out ending_of last_step header_number table_of chain count visited computing
answer-lines = refl
