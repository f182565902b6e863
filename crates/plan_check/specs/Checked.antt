-- A WHOLE PLAN (request 112): a list of rows taken one after another from the beginning of a table's words, up to the first that is refused. `checked`
-- shows the claims of every table that passes 9 and every list of rows, `own-plans` of every table that is accepted, `own-buffer` of what `plan` writes.
use Rattle.std.specs.Prelude.{List, [], map, ◌++◌, ◌∷◌, ◌↔◌, ◌≡◌, ◌*◌, ◌-◌, ℕ, drop, replicate, take}
use Rattle.model.specs.Refusals as book
use Rattle.model.specs.Horizon.{horizon}
use Rattle.model.specs.Search.{up_from}
use Rattle.model.specs.Task.{Table}
use Rattle.table.specs.Words.{table_of}
use Rattle.plan.specs.Plan.{Planned}
use Rattle.plan.specs.Plan.{PlanOf, plan_meaning}
use Rattle.plan.specs.Rows.{rows_of}
use Rattle.plan_check.specs.declared.SuppliedPlan.{SuppliedPlan}
use Rattle.plan_check.specs.Answers.{PlanOutcome, OutcomeFor, accepts, refuses, unfinished}
use Rattle.plan_check.specs.Begin.{begin_of}
use Rattle.plan_check.specs.Plan.{Acceptable, ForEver, repeated}
use Rattle.plan_check.specs.RowAnswer.{RowAnswer, accepted, refused, taken, row_answer_meaning}
use Rattle.plan_check.specs.CheckRow.{check_row_of}

-- the answer to each row of a list, from state w on: each is taken from the state after the one before it
unfoldable pub row_answers_from : SuppliedPlan → List (List ℕ) → List RowAnswer
row_answers_from w [] = []
row_answers_from w (row ∷ rows) = row_answer_meaning (check_row_of w row).answer ∷ row_answers_from (check_row_of w row).plan rows

-- the answers to a list of rows, from the state that the words begin with
abbrev pub row_answers_of : List ℕ → List (List ℕ) → List RowAnswer
row_answers_of ws rows = row_answers_from (begin_of ws).plan rows

-- the outcome of the answers to a list, where o is that of those before it: the first refusal, or else the last answer
unfoldable pub outcome_from : PlanOutcome → List RowAnswer → PlanOutcome
outcome_from o [] = o
outcome_from o (taken ∷ rest) = outcome_from unfinished rest
outcome_from o (accepted ∷ rest) = outcome_from accepts rest
outcome_from o (refused n t ∷ rest) = refuses n t

-- the answer to a list of rows
abbrev pub outcome_of : List ℕ → List (List ℕ) → PlanOutcome
outcome_of ws rows = outcome_from unfinished (row_answers_of ws rows)

-- the claims about the words of a table and a list of rows
pub record Checked (ws : List ℕ) (rows : List (List ℕ)) : Type 0 where
  -- accepted exactly if the plan is acceptable
  pub accepted-exact : (outcome_of ws rows ≡ accepts) ↔ Acceptable (table_of ws) rows
  -- and every answer, with its number and tick, exactly if its condition holds of the rows
  pub answer-exact : (o : PlanOutcome) → (outcome_of ws rows ≡ o) ↔ OutcomeFor (table_of ws) rows o
  -- an accepted plan, repeated from the last S on, meets every deadline for ever, with the width of each job
  pub repeats-for-ever : outcome_of ws rows ≡ accepts → ForEver (table_of ws) (repeated (table_of ws) rows)

-- THE TOOL'S OWN PLANS

-- n rows of m bytes each, one after the other
abbrev pub split_rows : ℕ → ℕ → List ℕ → List (List ℕ)
split_rows m n bytes = map (λ t. take m (drop (t * m) bytes)) (up_from 0 n)

-- rows 0 up to the horizon, as `plan` writes them
abbrev pub plan_rows : Table → List (List ℕ)
plan_rows s = split_rows s.cores (horizon s) (rows_of s 0 (horizon s))

-- the claim about the words of an accepted table: its plan is accepted, and each earlier row is taken
abbrev pub OwnPlan : List ℕ → Type 0
OwnPlan ws = row_answers_of ws (plan_rows (table_of ws)) ≡ replicate (horizon (table_of ws) - 1) taken ++ (accepted ∷ [])

-- those rows are the front of the buffer that `plan` leaves, where it is asked for rows 0 up to the horizon and they are written (`own-buffer`)
abbrev pub OwnBuffer : List ℕ → Type 0
OwnBuffer ws =
    (old new : List ℕ) (v : Planned) → PlanOf ws 0 (horizon (table_of ws)) old new v → plan_meaning v ≡ book.taken
    → split_rows (table_of ws).cores (horizon (table_of ws)) new ≡ plan_rows (table_of ws)
