-- Conflicts computed from the definitions: the table that needs a second pass, the examples, a task alone, two widths, rule 4, and what each number turns down.
use mathlib.Core.List.{List, [], ◌++◌, map, ◌∷◌}
use mathlib.Core.Path.{refl, ◌≡◌}
use Prim.Native.Nat.{ℕ}
use lib.ListN.{drop}
use Rattle.model.proofs.Computing.{computing}
use Rattle.model.proofs.Examples.{on, t}
use Rattle.model.specs.Task.{Table, greedy}
use Rattle.table.proofs.Examples.{chained, words_a}
use Rattle.table.specs.Answer.{answer_of, by_horizon, by_tasks, by_walk, ending_of, first_out, header_number, last_step}
use Rattle.table.specs.Words.{chain, count, visited, table_of}
use Rattle.judge.specs.Judged.{verdict_of}
use Rattle.conflict.specs.Answer.{ConflictAnswer}
use Rattle.conflict.specs.Answer.{conflict_of, given_conflict, no_conflict}
use Rattle.conflict.specs.Conflict.{conflict_set, conflicts, dropped, pass, passes}
use Rattle.conflict.specs.SubTable.{chosen}
use Rattle.conflict.specs.Relinked.{linked, relinked}

-- ONE PASS IS NOT ENOUGH

abbrev four : Table
four = on 2 greedy (t 0 1 1 1 2 ∷ t 0 2 1 2 2 ∷ t 0 1 1 1 2 ∷ t 0 1 1 2 3 ∷ [])

-- the first pass keeps positions 2, 3 and 4, the second 2 and 3, and the third drops nothing
pub two-passes : (pass four 4 15 ≡ 14) × (pass four 4 14 ≡ 6) × (pass four 4 6 ≡ 6) × (conflict_set four ≡ 6)
unfolding conflict_set passes pass dropped conflicts chosen computing
two-passes = (refl, refl, refl, refl)

-- LINES: the words of a table, and what is answered of them

pub record Line : Type 0 where
  pub words : List ℕ
  pub result : ConflictAnswer

-- the value by the definitions of a line's words
abbrev pub worked : Line → Line
worked l = record { words = l.words; result = conflict_of l.words }

-- the positions of this set are kept; the words are turned down by a number, with its position
abbrev keeps : List ℕ → ℕ → Line
keeps ws x = record { words = ws; result = given_conflict x }

abbrev refuses : List ℕ → ℕ → ℕ → Line
refuses ws n p = record { words = ws; result = no_conflict n p }

-- a header with an empty fence, and a record's seven words, with widths v and w and with both widths v
abbrev header : ℕ → ℕ → ℕ → List ℕ
header h m r = h ∷ m ∷ r ∷ 0 ∷ 0 ∷ []

abbrev entry₂ : ℕ → ℕ → ℕ → ℕ → ℕ → ℕ → ℕ → List ℕ
entry₂ n o v w c d p = n ∷ o ∷ v ∷ c ∷ d ∷ p ∷ w ∷ []

abbrev entry : ℕ → ℕ → ℕ → ℕ → ℕ → ℕ → List ℕ
entry n o v c d p = entry₂ n o v v c d p

-- A's and B's records in chain order under a rule; F
abbrev ruled_a : ℕ → List ℕ
ruled_a r = header 1 3 r ++ entry 2 0 2 2 5 5 ++ entry 3 0 2 3 5 5 ++ entry 0 0 1 4 5 5

abbrev ruled_b : ℕ → List ℕ
ruled_b r = header 1 2 r ++ entry 2 0 1 3 3 4 ++ entry 3 0 2 1 4 4 ++ entry 0 0 1 2 2 4

abbrev words_f : List ℕ
words_f = header 1 1 1 ++ entry 0 0 1 2 1 2

-- the four tasks of `two-passes` under a rule; the same in other places: the chain 3, 1, 4, 2 and a fifth record that is not on it
abbrev fourth : ℕ → List ℕ
fourth r = header 1 2 r ++ entry 2 0 1 1 1 2 ++ entry 3 0 2 1 2 2 ++ entry 4 0 1 1 1 2 ++ entry 0 0 1 1 2 3

abbrev permuted : List ℕ
permuted = header 3 2 1 ++ entry 4 0 2 1 2 2 ++ entry 0 0 1 1 2 3 ++ entry 1 0 1 1 1 2 ++ entry 2 0 1 1 1 2 ++ entry 9 0 0 0 0 0

-- two cores, rule 1: the first task takes one core in its odd jobs and both in its even ones; the second misses beside it, and with a third above both
abbrev alternating : ℕ → List ℕ
alternating r = header 1 2 r ++ entry₂ 2 0 1 2 2 2 2 ++ entry 0 0 1 3 6 6

abbrev alternating-second : List ℕ
alternating-second = header 3 2 1 ++ entry₂ 2 0 1 2 2 2 2 ++ entry 0 0 1 3 6 6 ++ entry 1 0 1 1 1 4

-- three cores, rule 1: the pass that goes on after a drop keeps positions 3 and 5; one that began anew at the lowest would keep 1, 4 and 5
abbrev going : List ℕ
going =
    header 1 3 1 ++ entry 2 0 1 2 2 6 ++ entry 3 0 1 1 3 3 ++ entry 4 0 3 2 6 6 ++ entry 5 0 2 2 6 6 ++ entry 6 0 1 1 2 3
    ++ entry 0 0 2 1 1 2

abbrev pub lines : List Line
lines =
    -- one task alone that misses; two of them: the lower is dropped first; and one that does not beside one that does
    keeps words_f 1
    ∷ keeps (header 1 2 1 ++ entry 2 0 1 2 1 2 ++ entry 0 0 1 2 1 2) 1
    ∷ keeps (header 1 2 1 ++ entry 2 0 1 1 1 2 ++ entry 0 0 1 2 1 2) 2
    -- A2 needs its three tasks, B2 its second and third
    ∷ keeps (ruled_a 2) 7 ∷ keeps (ruled_b 2) 6
    -- the second pass, under the rules under which the four tasks miss, and with the records in other places
    ∷ keeps (fourth 1) 6 ∷ keeps (fourth 3) 6 ∷ keeps (fourth 4) 6 ∷ keeps permuted 6
    -- a pass goes on after a drop
    ∷ keeps going 20
    -- F's task on the one core that the fence leaves of two
    ∷ keeps (1 ∷ 2 ∷ 1 ∷ 2 ∷ 0 ∷ entry 0 0 1 2 1 2) 1
    -- two widths
    ∷ keeps (alternating 1) 3 ∷ keeps (alternating 4) 3 ∷ keeps alternating-second 6
    -- no miss: A, A3, A under rule 4, B
    ∷ refuses words_a 17 0 ∷ refuses (ruled_a 3) 17 0 ∷ refuses (ruled_a 4) 17 0 ∷ refuses (ruled_b 1) 17 0
    -- 1, 2 before 17, 4, 7 with its position
    ∷ refuses (drop 1 (header 1 1 1)) 1 0 ∷ refuses (header 1 0 1 ++ entry 0 0 1 1 2 2) 2 0
    ∷ refuses (header 0 1 1 ++ entry 0 0 1 2 1 2) 4 0
    ∷ refuses (header 1 1 1 ++ entry 2 0 1 2 1 2 ++ entry 0 0 2 1 1 1) 7 2
    ∷ []

-- every line is its value by the definitions
pub examples : map worked lines ≡ lines
unfolding conflict_of conflict_set passes pass dropped conflicts chosen verdict_of chained answer_of by_walk by_tasks by_horizon first_out ending_of last_step header_number
    table_of chain count visited computing
examples = refl

-- the words of positions 2 and 3, and of none
pub relinked-words :
    (relinked (fourth 1) 6 ≡ header 2 2 1 ++ entry 2 0 1 1 1 2 ++ entry 3 0 2 1 2 2 ++ entry 0 0 1 1 1 2 ++ entry 0 0 1 1 2 3)
    × (relinked (fourth 1) 0 ≡ 0 ∷ drop 1 (fourth 1))
unfolding relinked linked chosen chain count visited computing
relinked-words = (refl, refl)
