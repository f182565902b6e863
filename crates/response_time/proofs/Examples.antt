-- Response times computed from the definitions: the examples A to F, what each number turns down, and response times at their edges.
use mathlib.Core.List.{List, [], ◌++◌, map, ◌∷◌}
use mathlib.Core.Path.{refl, ◌≡◌}
use Prim.Native.Nat.{ℕ, ◌-◌}
use lib.ListN.{drop, length, replicate}
use Rattle.model.proofs.Computing.{computing}
use Rattle.model.specs.Sizes.{most_tasks}
use Rattle.table.proofs.Examples.{chained, words_a}
use Rattle.table.specs.Answer.{answer_of, by_horizon, by_tasks, by_walk, ending_of, first_out, header_number, last_step}
use Rattle.table.specs.Words.{chain, count, visited, table_of}
use Rattle.judge.specs.Judged.{verdict_of}
use Rattle.response_time.specs.ResponseTimes.{ResponseTimes}
use Rattle.response_time.specs.ResponseTimes.{response_times_in, response_times_of, no_times}
use Rattle.response_time.specs.ResponseTimes as answers
use Rattle.response_time.specs.Response.{greatest, worst_response_by, response_time}

-- a line: the words of a table, and what is answered of them
pub record Line : Type 0 where
  pub words : List ℕ
  pub result : ResponseTimes

-- the value by the definitions of a line's words
abbrev pub worked : Line → Line
worked l = record { words = l.words; result = response_times_of l.words }

-- these response times are given, with zeros past them; the words are turned down by a number, with its position
abbrev gives : List ℕ → List ℕ → Line
gives ws xs = record { words = ws; result = answers.given_times (xs ++ replicate (most_tasks - length xs) 0) }

abbrev refuses : List ℕ → ℕ → ℕ → Line
refuses ws n p = record { words = ws; result = no_times n p }

-- a header with an empty fence, and a record's seven words, with widths v and w and with both widths v
abbrev header : ℕ → ℕ → ℕ → List ℕ
header h m r = h ∷ m ∷ r ∷ 0 ∷ 0 ∷ []

abbrev entry₂ : ℕ → ℕ → ℕ → ℕ → ℕ → ℕ → ℕ → List ℕ
entry₂ n o v w c d p = n ∷ o ∷ v ∷ c ∷ d ∷ p ∷ w ∷ []

abbrev entry : ℕ → ℕ → ℕ → ℕ → ℕ → ℕ → List ℕ
entry n o v c d p = entry₂ n o v v c d p

-- the tasks of A on five cores, of which 0 and 3 are fenced; A's and B's records in chain order under a rule; E; F
abbrev fenced_a : List ℕ
fenced_a = 3 ∷ 5 ∷ 1 ∷ 9 ∷ 0 ∷ drop 5 words_a

abbrev ruled_a : ℕ → List ℕ
ruled_a r = header 1 3 r ++ entry 2 0 2 2 5 5 ++ entry 3 0 2 3 5 5 ++ entry 0 0 1 4 5 5

abbrev ruled_b : ℕ → List ℕ
ruled_b r = header 1 2 r ++ entry 2 0 1 3 3 4 ++ entry 3 0 2 1 4 4 ++ entry 0 0 1 2 2 4

abbrev words_e : List ℕ
words_e = header 1 1 2 ++ entry 2 1 1 1 1 2 ++ entry 0 0 1 1 2 3

abbrev words_f : List ℕ
words_f = header 1 1 1 ++ entry 0 0 1 2 1 2

-- four cores, rule 3: the third task has its worst job before the last S (`only-before-S`)
abbrev early : List ℕ
early = header 1 4 3 ++ entry 2 6 2 1 2 3 ++ entry 3 0 4 1 4 6 ++ entry 0 0 2 1 2 4

-- six tasks that all claim one core in tick 0, and so miss at tick 1, and a seventh; their horizon is 1,000,000,001
abbrev six-at-once : List ℕ
six-at-once = header 1 1 1 ++ chained 7 1 (8 ∷ 27 ∷ 125 ∷ 7 ∷ 11 ∷ 13 ∷ []) ++ entry 0 1001 1 1 1 37

-- two cores, rule 1: the first task takes one core in its odd jobs and both in its even ones, each of which is released where the one before it ends; the
-- second has this length
abbrev alternating : ℕ → List ℕ
alternating c = header 1 2 1 ++ entry₂ 2 0 1 2 2 2 2 ++ entry 0 0 1 c 6 6

abbrev pub lines : List Line
lines =
    -- A, which is Full, with its records permuted and with a fence; A2 misses on the horizon; A3, and rule 4 with its response times
    gives words_a (2 ∷ 5 ∷ 4 ∷ []) ∷ gives fenced_a (2 ∷ 5 ∷ 4 ∷ []) ∷ refuses (ruled_a 2) 13 0 ∷ gives (ruled_a 3) (2 ∷ 5 ∷ 4 ∷ [])
    ∷ gives (ruled_a 4) (2 ∷ 5 ∷ 4 ∷ [])
    -- B, B2, B3 and B4
    ∷ gives (ruled_b 1) (3 ∷ 4 ∷ 2 ∷ []) ∷ refuses (ruled_b 2) 13 0 ∷ gives (ruled_b 3) (3 ∷ 4 ∷ 2 ∷ [])
    ∷ gives (ruled_b 4) (3 ∷ 4 ∷ 2 ∷ [])
    -- E, and F, which misses at tick 1
    ∷ gives words_e (1 ∷ 2 ∷ []) ∷ refuses words_f 13 0
    -- the worst job comes before the last S; and one that ends after the horizon
    ∷ gives early (1 ∷ 2 ∷ 2 ∷ [])
    ∷ gives (header 1 1 2 ++ entry 2 1 1 2 3 3 ++ entry 0 0 1 2 6 6) (2 ∷ 4 ∷ [])
    -- C = D, and one less than D; T = 1; a first job that is released late
    ∷ gives (header 1 2 1 ++ entry 0 0 1 2 2 3) (2 ∷ []) ∷ gives (header 1 2 1 ++ entry 0 0 1 1 2 3) (1 ∷ [])
    ∷ gives (header 1 1 1 ++ entry 0 0 1 1 1 1) (1 ∷ []) ∷ gives (header 1 1 1 ++ entry 0 3 1 1 1 2) (1 ∷ [])
    -- two widths: the second task's longest job comes in the second half of P, which takes 2T; with one tick more it misses there
    ∷ gives (alternating 2) (2 ∷ 4 ∷ []) ∷ refuses (alternating 3) 13 0
    -- the even job waits for both cores, and alone it never waits
    ∷ gives (header 1 2 2 ++ entry 2 0 1 2 4 4 ++ entry₂ 0 0 1 2 1 4 4) (2 ∷ 3 ∷ []) ∷ gives (header 1 2 2 ++ entry₂ 0 0 1 2 1 1 1) (1 ∷ [])
    -- 32 places, which have 32 response times
    ∷ gives (header 1 32 1 ++ chained 0 1 (replicate 32 1)) (replicate 32 1)
    -- 1, 2 before 13, 7 with its position, and 9 before 13
    ∷ refuses (drop 1 (header 1 1 1)) 1 0 ∷ refuses (header 1 0 1 ++ entry 0 0 1 2 1 2) 2 0
    ∷ refuses (header 1 1 1 ++ entry 2 0 1 2 1 2 ++ entry 0 0 2 1 1 1) 7 2 ∷ refuses six-at-once 9 0
    ∷ []

-- every line is its value by the definitions
pub examples : map worked lines ≡ lines
unfolding response_times_of response_times_in worst_response_by greatest response_time verdict_of chained answer_of by_walk by_tasks by_horizon first_out ending_of last_step header_number
    table_of chain count visited computing
examples = refl
