-- The result of the call that gives the worst-case response time of each task, computed from the definitions: those of A in front, 32 zeros and 13 for F,
-- which misses, and everything as found where there is one word too few.
use mathlib.Core.Path.{◌≡◌, refl}
use mathlib.Core.List.{List, [], ◌∷◌, ◌++◌}
use Prim.Native.Nat.{ℕ}
use lib.ListN.{replicate}
use Rattle.model.proofs.Computing.{computing}
use Rattle.table.proofs.Examples.{words_a}
use Rattle.table.specs.Answer.{answer_of, by_horizon, by_tasks, by_walk, ending_of, first_out, header_number, last_step}
use Rattle.table.specs.Words.{chain, count, visited, table_of}
use Rattle.judge.specs.Judged.{verdict_of}
use Rattle.response_time.specs.ResponseTimes.{response_times_in, response_times_of}
use Rattle.response_time.specs.Response.{greatest, worst_response_by, response_time}
use Rattle.capi.specs.Calls as calls
use Rattle.capi.specs.Figures.{figures_call, response_times_call}

-- a number of words as they are lent
abbrev lent : ℕ → List ℕ
lent n = replicate n 77

abbrev words_f : List ℕ
words_f = 1 ∷ 1 ∷ 1 ∷ 0 ∷ 0 ∷ 0 ∷ 0 ∷ 1 ∷ 2 ∷ 1 ∷ 2 ∷ 1 ∷ []

pub figures-left : response_times_call words_a (lent 33) (lent 4) ≡ calls.call_result 0 ((2 ∷ 5 ∷ 4 ∷ (replicate 29 0 ++ lent 1)) ∷ (0 ∷ 0 ∷ 0 ∷ lent 1) ∷ [])
unfolding computing figures_call response_times_of response_times_in worst_response_by greatest response_time verdict_of answer_of by_walk by_tasks by_horizon first_out ending_of last_step
    header_number table_of chain count visited
figures-left = refl

pub miss-left : response_times_call words_f (lent 33) (lent 4) ≡ calls.call_result 0 ((replicate 32 0 ++ lent 1) ∷ (3 ∷ 13 ∷ 0 ∷ lent 1) ∷ [])
unfolding computing figures_call response_times_of response_times_in worst_response_by greatest response_time verdict_of answer_of by_walk by_tasks by_horizon first_out ending_of last_step
    header_number table_of chain count visited
miss-left = refl

pub figures-too-few : response_times_call words_a (lent 31) (lent 3) ≡ calls.call_result 1 (lent 31 ∷ lent 3 ∷ [])
unfolding figures_call
figures-too-few = refl
