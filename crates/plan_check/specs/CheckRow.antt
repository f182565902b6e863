-- A row of a supplied plan taken (request 112): its answer, and the state after it.
use Rattle.std.specs.Prelude.{cond, not, List, ◌⊎◌, ◌↔◌, ◌≡◌, ◌<◌, suc, ℕ, eqb, leb, drop, length}
use Rattle.table.specs.Limits.{horizon_out}
use Rattle.run.specs.Run.{tasks_in}
use Rattle.plan_check.specs.declared.SuppliedPlan.{SuppliedPlan}
use Rattle.plan_check.specs.Numbers.{First, Last, NoneApplies, StateOut, after_row, differs, missed, state_out}
use Rattle.plan_check.specs.Row.{faulty}
use Rattle.plan_check.specs.RowAnswer.{Answer, Accepted, Refused, Taken, Entered, state_by_answer, row_answer_meaning}
use Rattle.plan_check.specs.RowAnswer as meaning
use Rattle.plan_check.specs.State.{horizon_in}

-- after the last row 25 and then 26, both with the horizon as tick; else the plan is accepted
unfoldable pub final_answer : SuppliedPlan → Answer
final_answer w = cond (missed w.run) (Refused 25 w.tick) (cond (differs w) (Refused 26 w.tick) Accepted)

-- the answer of the state after a row
unfoldable pub answer_at : SuppliedPlan → Answer
answer_at w = cond (eqb w.tick (horizon_in w.run)) (final_answer w) Taken

-- 14, 9, 10 and 11, then 25 and 24 in this tick; else by the state after the row
unfoldable pub check_row_answer : SuppliedPlan → List ℕ → Answer
check_row_answer w row =
    cond (state_out w.run) (Refused 14 0)
    (cond (horizon_out (horizon_in w.run)) (Refused 9 0)
    (cond (leb (horizon_in w.run) w.tick) (Refused 10 0)
    (cond (not (eqb (length row) w.run.cores)) (Refused 11 0)
    (cond (missed w.run) (Refused 25 w.tick)
    (cond (faulty w.run row) (Refused 24 w.tick)
    (answer_at (after_row w row)))))))

-- the answer, and the state one tick on; where refused, the state as given
unfoldable pub check_row_of : SuppliedPlan → List ℕ → Entered
check_row_of w row = record { answer = check_row_answer w row; plan = state_by_answer (check_row_answer w row) (after_row w row) w }

-- the contract of a row taken from state w
pub record CheckRowOf (w : SuppliedPlan) (row : List ℕ) (e : Entered) : Type 0 where
  -- its value
  pub value : e ≡ check_row_of w row
  -- refused with n and t exactly if number n applies with tick t and no earlier one does
  pub refused : (n t : ℕ) → (row_answer_meaning e.answer ≡ meaning.refused n t) ↔ First w row n t
  -- taken or accepted exactly if none applies: accepted as the last row, taken before it
  pub taken : (row_answer_meaning e.answer ≡ meaning.taken) ↔ (NoneApplies w row × (suc w.tick < horizon_in w.run))
  pub accepted : (row_answer_meaning e.answer ≡ meaning.accepted) ↔ (NoneApplies w row × Last w)
  -- then the state is one tick on ..
  pub on : (row_answer_meaning e.answer ≡ meaning.taken) ⊎ (row_answer_meaning e.answer ≡ meaning.accepted) → e.plan ≡ after_row w row
  -- .. it passes 14 again, and its tasks, and with them its horizon, are the same
  pub passes : (row_answer_meaning e.answer ≡ meaning.taken) ⊎ (row_answer_meaning e.answer ≡ meaning.accepted) → ¬ StateOut e.plan.run
  pub tasks : tasks_in e.plan.run ≡ tasks_in w.run
  -- refused: the state as given
  pub as-given : (n t : ℕ) → row_answer_meaning e.answer ≡ meaning.refused n t → e.plan ≡ w
  -- places past the count, and the phases recorded of them, are as given
  pub past : drop w.run.count e.plan.run.tasks ≡ drop w.run.count w.run.tasks
  pub past-notes : drop w.run.count e.plan.noted ≡ drop w.run.count w.noted
