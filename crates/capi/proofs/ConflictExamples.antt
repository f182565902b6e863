-- The result of the call that gives the tasks in conflict, computed from the definitions: the set of the positions kept, 17 where there is no miss, a table's
-- number, and everything as found where the answer has no space.
use mathlib.Core.List.{List, [], ◌∷◌, map}
use mathlib.Core.Path.{◌≡◌, refl}
use Prim.Native.Nat.{ℕ}
use lib.ListN.{replicate}
use Rattle.model.proofs.Computing.{computing}
use Rattle.table.proofs.Examples.{words_a}
use Rattle.table.specs.Answer.{answer_of, by_horizon, by_tasks, by_walk, ending_of, first_out, header_number, last_step}
use Rattle.table.specs.Words.{chain, count, visited, table_of}
use Rattle.judge.specs.Judged.{verdict_of}
use Rattle.conflict.specs.Answer.{conflict_of}
use Rattle.conflict.specs.Conflict.{conflict_set, conflicts, dropped, pass, passes}
use Rattle.conflict.specs.SubTable.{chosen}
use Rattle.capi.specs.Calls.{CallResult, call_result, conflict_call}

-- A LINE: the words of a table, the slice lent for the answer, and what is left

pub record Line : Type 0 where
  pub words : List ℕ
  pub answer : List ℕ
  pub leaves : CallResult

-- the value by the definitions of a line's words and slice
abbrev pub worked : Line → Line
worked l = record { words = l.words; answer = l.answer; leaves = conflict_call l.words l.answer }

-- a number of words as they are lent
abbrev lent : ℕ → List ℕ
lent n = replicate n 77

-- the three words of an answer, and a fourth that stays; a slice that is too short stays
abbrev answers : List ℕ → ℕ → ℕ → ℕ → Line
answers ws k a b = record { words = ws; answer = lent 4; leaves = call_result 0 ((k ∷ a ∷ b ∷ lent 1) ∷ []) }

abbrev stays : List ℕ → ℕ → Line
stays ws n = record { words = ws; answer = lent n; leaves = call_result 1 (lent n ∷ []) }

-- B under a rule: rule 2 needs its second and third tasks
abbrev ruled_b : ℕ → List ℕ
ruled_b r = 1 ∷ 2 ∷ r ∷ 0 ∷ 0 ∷ 2 ∷ 0 ∷ 1 ∷ 3 ∷ 3 ∷ 4 ∷ 1 ∷ 3 ∷ 0 ∷ 2 ∷ 1 ∷ 4 ∷ 4 ∷ 2 ∷ 0 ∷ 0 ∷ 1 ∷ 2 ∷ 2 ∷ 4 ∷ 1 ∷ []

-- F, one task on one core whose C is above its D; the same with width v
abbrev wide_f : ℕ → List ℕ
wide_f v = 1 ∷ 1 ∷ 1 ∷ 0 ∷ 0 ∷ 0 ∷ 0 ∷ v ∷ 2 ∷ 1 ∷ 2 ∷ 1 ∷ []

abbrev pub lines : List Line
lines =
    -- positions 2 and 3; position 1
    answers (ruled_b 2) 0 6 0 ∷ answers (wide_f 1) 0 1 0
    -- 17 for A and B, which do not miss; 7 with its position; 1 for no words at all
    ∷ answers words_a 3 17 0 ∷ answers (ruled_b 1) 3 17 0 ∷ answers (wide_f 2) 3 7 1 ∷ answers [] 3 1 0
    -- no space, whatever the words
    ∷ stays (wide_f 1) 2 ∷ stays words_a 2 ∷ stays [] 0
    ∷ []

-- every line is its value by the definitions
pub examples : map worked lines ≡ lines
unfolding conflict_call conflict_of conflict_set passes pass dropped conflicts chosen verdict_of answer_of by_walk by_tasks by_horizon first_out ending_of last_step header_number
    table_of chain count visited computing
examples = refl
