-- What the call that gives the response-time bounds leaves, computed from the definitions: the bounds in front and 1 where the table passes the interference
-- test, 32 zeros and 0 where it does not, or a table's number, and everything as found where there is a word too few.
use mathlib.Core.List.{List, [], ◌∷◌, ◌++◌, map}
use mathlib.Core.Path.{◌≡◌, refl}
use Prim.Native.Nat.{ℕ, ◌-◌}
use lib.ListN.{length, replicate}
use Rattle.model.proofs.Computing.{computing}
use Rattle.model.specs.Interference.{bound_from, bounds_to, first_window, interference_in, interference_test_passes, largest_below, need, refused_width, shortened_window, suffices, sum_below}
use Rattle.table.proofs.Examples.{words_a}
use Rattle.table.specs.Answer.{answer_of, by_horizon, by_tasks, by_walk, ending_of, first_out, header_number, last_step}
use Rattle.table.specs.Words.{chain, count, visited, table_of}
use Rattle.interference.specs.Bounds.{bounds_in, bounds_of, tested_of}
use Rattle.capi.specs.Calls.{CallResult, call_result}
use Rattle.capi.specs.Figures.{bounds_call, bounds_call_of}

-- A LINE: the words of a table, the two slices lent, and what is left

pub record Line : Type 0 where
  pub words : List ℕ
  pub figures : List ℕ
  pub answer : List ℕ
  pub leaves : CallResult

-- what the definitions say of a line's words and slices
abbrev pub worked : Line → Line
worked l = record { words = l.words; figures = l.figures; answer = l.answer; leaves = bounds_call l.words l.figures l.answer }

-- so many words as they are lent
abbrev lent : ℕ → List ℕ
lent n = replicate n 77

-- a buffer of 33 words and an answer of 4, of which the last of each stays
abbrev answers : List ℕ → List ℕ → ℕ → ℕ → ℕ → Line
answers ws xs k a b = record {
  words = ws;
  figures = lent 33;
  answer = lent 4;
  leaves = call_result 0 ((xs ++ (replicate (32 - length xs) 0 ++ lent 1)) ∷ (k ∷ a ∷ b ∷ lent 1) ∷ []);
}

-- the table passes, with these bounds; it does not; or it is refused
abbrev passes : List ℕ → List ℕ → Line
passes ws xs = answers ws xs 0 1 0

abbrev fails : List ℕ → Line
fails ws = answers ws [] 0 0 0

abbrev refuses : List ℕ → ℕ → ℕ → Line
refuses ws n p = answers ws [] 3 n p

-- slices of so many words, of which one is too short, stay
abbrev stays : List ℕ → ℕ → ℕ → Line
stays ws f n = record { words = ws; figures = lent f; answer = lent n; leaves = call_result 1 (lent f ∷ lent n ∷ []) }

-- m cores under a rule, with two tasks of length 1: the first of period 4, the second of width v, deadline d and period 4
abbrev two : ℕ → ℕ → ℕ → ℕ → List ℕ
two m r v d = 1 ∷ m ∷ r ∷ 0 ∷ 0 ∷ 2 ∷ 0 ∷ 1 ∷ 1 ∷ 4 ∷ 4 ∷ 1 ∷ 0 ∷ 0 ∷ v ∷ 1 ∷ d ∷ 4 ∷ v ∷ []

abbrev pub lines : List Line
lines =
    -- the second waits at most one tick for the first, and none where there is a core for each; under every rule
    passes (two 1 1 1 4) (1 ∷ 2 ∷ []) ∷ passes (two 1 2 1 2) (1 ∷ 2 ∷ []) ∷ passes (two 2 3 1 4) (1 ∷ 1 ∷ []) ∷ passes (two 2 4 2 4) (1 ∷ 2 ∷ [])
    -- a deadline of one tick is too short; and A, which is met all the same
    ∷ fails (two 1 1 1 1) ∷ fails words_a
    -- 7 with its position; 1 for no words at all
    ∷ refuses (two 1 1 2 4) 7 2 ∷ refuses [] 1 0
    -- no room for the answer or for the bounds, whatever the words
    ∷ stays (two 1 1 1 4) 32 2 ∷ stays (two 1 1 1 4) 31 3 ∷ stays [] 0 0
    ∷ []

-- every line is what the definitions say
pub examples : map worked lines ≡ lines
unfolding bounds_call_of bounds_of tested_of bounds_in bound_from bounds_to first_window interference_in interference_test_passes largest_below need refused_width shortened_window
    suffices sum_below answer_of by_walk by_tasks by_horizon first_out ending_of last_step header_number table_of chain count visited computing
examples = refl
