-- The result of each call: its return value, and every lent slice that it may write to.
use Rattle.std.specs.Prelude.{Bool, cond, List, [], ◌∷◌, ℕ, length}
use Rattle.table.specs.Words.{table_of}
use Rattle.judge.specs.Judged.{verdict_of}
use Rattle.plan.specs.Plan.{planned_of, plan_meaning, buffer_of}
use Rattle.conflict.specs.Answer.{conflict_of}
use Rattle.buffers.specs.AnswerWords.{answer_fits, of_verdict, of_planned, of_given, answer_written}

-- the return value, and the lent slices in the order of the parameters
pub record CallResult : Type 0 where
  pub value : ℕ
  pub lent : List (List ℕ)

abbrev pub call_result : ℕ → List (List ℕ) → CallResult
call_result v ls = record { value = v; lent = ls }

-- where there is space the call is answered, 0; a lent slice too short leaves everything as found, 1
abbrev pub by_room : Bool → List (List ℕ) → List (List ℕ) → CallResult
by_room fit lent found = cond fit (call_result 0 lent) (call_result 1 found)

-- the verdict of the words
unfoldable pub judge_call : List ℕ → List ℕ → CallResult
judge_call ws answer = by_room (answer_fits answer) (answer_written (of_verdict (verdict_of ws)) answer ∷ []) (answer ∷ [])

-- the plan's answer, and its rows
unfoldable pub plan_call : List ℕ → ℕ → ℕ → List ℕ → List ℕ → CallResult
plan_call ws a b rows answer =
    let v = planned_of ws a b (length rows) in
    by_room (answer_fits answer) (buffer_of (plan_meaning v) (table_of ws) a b rows ∷ (answer_written (of_planned v) answer ∷ [])) (rows ∷ (answer ∷ []))

-- the tasks in conflict: the set of their positions, bit 0 for position 1
unfoldable pub conflict_call : List ℕ → List ℕ → CallResult
conflict_call ws answer = by_room (answer_fits answer) (answer_written (of_given (conflict_of ws).answer (conflict_of ws).kept) answer ∷ []) (answer ∷ [])
